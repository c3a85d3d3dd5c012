-- Numbers as words.
use Rattle.std.specs.Prelude.{ℕ, ◌^◌, ◌<◌, Bool, cond, ◌&&◌, List, ℤ, pos, Some, None, Option, nat_lt}
use Rattle.std.specs.Int.Signed.{mag}
use Rattle.std.specs.Option.{option_and_then, option_zip}
use Rattle.std.specs.Str.{bytes_eq}
use Rattle.std.specs.Str.Parse.{signed_digits_value}
use Rattle.columns.specs.Texts.{text_of}
use Rattle.entries.specs.Words.{first_word, words_after}

-- a number's text, as in columns
abbrev pub number : ℤ → List ℕ
number n = text_of n

-- the text of a number from zero up
abbrev pub natural : ℕ → List ℕ
natural n = number (pos n)

-- −2^63 ≤ n < 2^63: mag is n from zero on, and −n − 1 below
abbrev pub FitsI64 : ℤ → Type 0
FitsI64 n = mag n < 2 ^ 63

-- the same as an answer
abbrev pub in_range : ℤ → Bool
in_range n = nat_lt (mag n) (2 ^ 63)

-- n, where the word is just its text and it is in range
abbrev pub number_if_text : List ℕ → ℤ → Option ℤ
number_if_text word n = cond (bytes_eq word (number n) && in_range n) (Some n) None

-- the number whose text a word is
unfoldable pub number_in : List ℕ → Option ℤ
number_in word = number_if_text word (signed_digits_value 10 word)

-- a number from zero up to below a limit
abbrev pub below : ℕ → ℤ → Option ℕ
below limit (pos n) = cond (nat_lt n limit) (Some n) None
below limit _ = None

-- a number from 0 to 2^16 - 1
abbrev pub u16_in : List ℕ → Option ℕ
u16_in word = option_and_then (below (2 ^ 16)) (number_in word)

-- a number from 0 to 2^32 - 1
abbrev pub u32_in : List ℕ → Option ℕ
u32_in word = option_and_then (below (2 ^ 32)) (number_in word)

-- two numbers with a comma between them
abbrev pub two_numbers_in : List ℕ → Option (ℤ × ℤ)
two_numbers_in words = option_zip (number_in (first_word words)) (number_in (words_after words))
