-- The letters of a project's sub-row of line 1: a to z, then aa to zz.
use Rattle.std.specs.Prelude.{ℕ, ◌+◌, ◌-◌, ◌*◌, ◌≤◌, None, Some, Option}

-- a letter is a to z
abbrev pub IsLetter : ℕ → Type 0
IsLetter letter = (97 ≤ letter) × (letter ≤ 122)

-- a letter's place in the alphabet, from 0 on
abbrev pub place_in_alphabet : ℕ → ℕ
place_in_alphabet letter = letter - 97

-- how many sub-rows stand before the one with these letters: the first 26 have one letter, and each first of two has 26
abbrev pub place_of : Option ℕ → ℕ → ℕ
place_of None last = place_in_alphabet last
place_of (Some first) last = 26 + 26 * place_in_alphabet first + place_in_alphabet last
