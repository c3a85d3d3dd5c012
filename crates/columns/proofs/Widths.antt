-- What writing a number gives, by its width.
use Rattle.std.proofs.Common.{◌≡◌, ℕ, suc, ◌+◌, ◌-◌, ◌^◌, ◌<◌, ◌≤◌, leb, List, length, replicate, ℤ, pos, negsuc, nat_abs, ap, ◌∙◌, arith}
use Rattle.std.proofs.lemmas.List.{length-append, length-replicate}
use Rattle.std.proofs.lemmas.Bool.{cond-false, cond-true, le-leb, lt-leb}
use Rattle.columns.specs.Fields.{accepted, refused, right_justified, written}
use Rattle.columns.specs.Texts.{text_of, width_of}
use Rattle.columns.proofs.Digits.{digits_within}
use Rattle.columns.proofs.Spelling.{text_at_least_zero}

-- a number that fits its columns is written
pub written_where_it_fits : (columns : List ℕ) (n : ℤ) → width_of n ≤ length columns → written columns n ≡ accepted (right_justified (length columns) n)
unfolding written
written_where_it_fits columns n h = cond-true (leb (width_of n) (length columns)) _ _ (le-leb _ _ h)

-- one that is too wide is refused, and the columns stay as found
pub refused_where_too_wide : (columns : List ℕ) (n : ℤ) → length columns < width_of n → written columns n ≡ refused columns
unfolding written
refused_where_too_wide columns n h = cond-false (leb (width_of n) (length columns)) _ _ (lt-leb _ _ h)

pub right_justified_fills : (columns : ℕ) (n : ℤ) → width_of n ≤ columns → length (right_justified columns n) ≡ columns
unfolding right_justified
right_justified_fills columns n h = length-append (replicate (columns - width_of n) 32) (text_of n) ∙ omega (arith, length-replicate {A = ℕ} (columns - width_of n) 32)

-- writing keeps the number of columns
pub written_keeps_length : (columns : List ℕ) (n : ℤ) → length (written columns n).after ≡ length columns
unfolding written
written_keeps_length columns n = grind (arith, right_justified_fills)

-- a size below 10 ^ k takes at most k columns, and one more below zero
pub width_at_least_zero : (k m : ℕ) → 0 < k → m < 10 ^ k → width_of (pos m) ≤ k
width_at_least_zero k m some h = omega (arith, ap length (text_at_least_zero m), digits_within k m some h)

pub width_within : (k : ℕ) (n : ℤ) → 0 < k → nat_abs n < 10 ^ k → width_of n ≤ k + 1
width_within k (pos m) some h = omega (arith, width_at_least_zero k m some h)
width_within k (negsuc m) some h = omega (arith, digits_within k (suc m) some h)

-- so k columns are enough for one, and one more for the other
pub written_at_least_zero : (k m : ℕ) (columns : List ℕ) → 0 < k → m < 10 ^ k → k ≤ length columns → written columns (pos m) ≡ accepted (right_justified (length columns) (pos m))
written_at_least_zero k m columns some h wide = grind (arith, written_where_it_fits, width_at_least_zero)

pub written_within : (k : ℕ) (n : ℤ) (columns : List ℕ) → 0 < k → nat_abs n < 10 ^ k → k + 1 ≤ length columns → written columns n ≡ accepted (right_justified (length columns) n)
written_within k n columns some h wide = grind (arith, written_where_it_fits, width_within)
