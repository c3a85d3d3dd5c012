-- The sum of a column, row by row.
use Rattle.std.proofs.Common.{◌≡◌, ℕ, List, length, take, get_or, ◌+◌, ◌*◌, ◌^◌, ◌<◌, ◌≤◌, ℤ, pos, negsuc, ◌+ℤ◌, nat_abs, sym, FitsSigned, arith}
use Rattle.std.proofs.lemmas.Int.{fits_signed_from_abs, ints}
use Rattle.std.proofs.lemmas.List.Sums.{fold_more}
use Rattle.printed_pages.specs.Sums.{amount_in, sum_of_column}
use Rattle.printed_pages.specs.declared.layout.Summed.{Summed}
use Rattle.printed_pages.specs.declared.pages.Row.{Row}
use lib.Signed.{mag}
use mir.Syntax.{w128}

pub abs_small : (n : ℤ) → mag n < 2 ^ 63 → nat_abs n ≤ 2 ^ 63
abs_small (pos n) small = omega (arith, small)
abs_small (negsuc n) small = omega (arith, small)

-- one row more adds at most 2^63 either way
pub sum_grows : (k : ℕ) (sum n : ℤ) → nat_abs sum ≤ 2 ^ 63 * k → mag n < 2 ^ 63 → nat_abs (sum +ℤ n) ≤ 2 ^ 63 * (k + 1)
sum_grows k sum n so_far small = omega (arith, ints, so_far, abs_small n small)

-- so the sum of fewer than 2^64 rows fits
pub sum_fits : (k : ℕ) (sum n : ℤ) → k + 1 < 2 ^ 64 → nat_abs sum ≤ 2 ^ 63 * k → mag n < 2 ^ 63 → FitsSigned w128 (sum +ℤ n)
sum_fits k sum n few so_far small = fits_signed_from_abs w128 (sum +ℤ n) (omega (arith, few, sum_grows k sum n so_far small))

-- one row more adds its amount
pub row_more : (summed : Summed) (rows : List Row) (k : ℕ) (r : Row) → k < length rows → sum_of_column summed (take k rows) +ℤ amount_in summed (get_or rows k r).columns ≡ sum_of_column summed (take (k + 1) rows)
row_more summed rows k r within = sym (fold_more (λ sum row. sum +ℤ amount_in summed row.columns) (pos 0) rows k r within)
