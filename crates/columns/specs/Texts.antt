-- The text of a number, and what a text has to be to spell one.
use Rattle.std.specs.Prelude.{◌≡◌, ℕ, zero, suc, ◌+◌, ◌/◌, ◌%◌, Bool, true, false, cond, ◌&&◌, ◌||◌, List, [], ◌∷◌, ◌++◌, length, ℤ, pos, ◌==◌, int_lt, nat_le, unsigned_abs}
use Rattle.std.specs.Str.Parse.{IsNumeral, without_leading_sign, signed_digits_value}

-- the digits of a size above zero, the highest first, at most k of them
abbrev pub digits_up_to : ℕ → ℕ → List ℕ
digits_up_to zero m = []
digits_up_to (suc k) zero = []
digits_up_to (suc k) (suc m) = digits_up_to k (suc m / 10) ++ ((48 + suc m % 10) ∷ [])

-- all digits of a size: never more of them than the size itself; zero has one
unfoldable pub digits_of : ℕ → List ℕ
digits_of zero = 48 ∷ []
digits_of (suc m) = digits_up_to (suc m) (suc m)

-- a minus sign below zero, right before the digits
abbrev pub sign_of : ℤ → List ℕ
sign_of n = cond (int_lt n (pos 0)) (45 ∷ []) []

-- a number's text: its sign and its digits
abbrev pub text_of : ℤ → List ℕ
text_of n = sign_of n ++ digits_of (unsigned_abs n)

-- how many columns a number takes
abbrev pub width_of : ℤ → ℕ
width_of n = length (text_of n)

-- a digit from 1 to 9
abbrev pub leading_digit : ℕ → Bool
leading_digit b = nat_le 49 b && nat_le b 57

-- the text begins as a number's does: a lone zero, or a digit from 1 to 9, which a minus sign may stand before
abbrev pub begins_plainly : List ℕ → Bool
begins_plainly [] = false
begins_plainly (b ∷ []) = b == 48 || leading_digit b
begins_plainly (b ∷ c ∷ cs) = leading_digit b || (b == 45 && leading_digit c)

-- in other words: digits only, after any minus sign, with no needless zero, no "-0" and no plus sign, that have this value
pub record Spells (text : List ℕ) (n : ℤ) : Type 0 where
  pub begins_as_a_number : begins_plainly text ≡ true
  pub has_digits_only : IsNumeral 10 (without_leading_sign text)
  pub has_the_value : signed_digits_value 10 text ≡ n
