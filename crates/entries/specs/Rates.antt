-- The rates of a quarter list, in words.
use Rattle.std.specs.Prelude.{ℕ, List, [], ◌∷◌, map, Some, None, Option}
use Rattle.std.specs.List.{slice_split}
use Rattle.std.specs.Option.{option_map, unwrap_or}
use Rattle.entries.specs.Words.{is_comma}
use Rattle.entries.specs.Numbers.{u32_in}

-- all of some numbers, or nothing where one is missing
abbrev pub all_of : List (Option ℕ) → Option (List ℕ)
all_of [] = Some []
all_of (None ∷ others) = None
all_of (Some n ∷ others) = option_map (λ ns. n ∷ ns) (all_of others)

-- the rates that words spell, or nothing where a word spells none
abbrev pub rates_in : List ℕ → Option (List ℕ)
rates_in words = all_of (map u32_in (slice_split is_comma words))

-- the same, and no rate in place of nothing
abbrev pub rates_of : List ℕ → List ℕ
rates_of words = unwrap_or (rates_in words) []
