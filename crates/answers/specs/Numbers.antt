-- Numbers as words.
use Rattle.std.specs.Prelude.{ℕ, List, ℤ, pos}
use Rattle.columns.specs.Texts.{text_of}

-- a number's text, as in columns
abbrev pub number : ℤ → List ℕ
number n = text_of n

-- the text of a number from zero up
abbrev pub natural : ℕ → List ℕ
natural n = number (pos n)
