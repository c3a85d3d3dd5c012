-- The sums of the columns, row by row.
use Rattle.std.proofs.Common.{◌≡◌, ℕ, ◌+◌, ◌<◌, ◌≤◌, List, map, length, get_or, take, ℤ, pos, ◌+ℤ◌, nat_abs, sym, ap, ◌∙◌, arith, w64, SFits}
use Rattle.std.proofs.lemmas.Int.{fits_signed_from_abs, ints}
use Rattle.std.proofs.lemmas.List.{length-map, length-take}
use Rattle.std.proofs.lemmas.List.Folds.{fold-map}
use Rattle.std.proofs.lemmas.List.Sums.{fold_more}
use Rattle.page_text.specs.Lines.{sum_of, sums_line, sums_of}
use Rattle.page_text.specs.ReadBack.{Amount, amount_in}
use Rattle.page_text.specs.ReadBack.Amount.{expense_charge, return_charge, depreciation, requirement}
use Rattle.page_text.specs.Rows.{PageLine, row_of}
use Rattle.page_text.specs.declared.line.Sums.{Sums}
use Rattle.page_text.specs.declared.row.PageRow.{PageRow}
use Rattle.page_text.proofs.Bounds.{amount_sum, row_amounts, rows_within, sum_from, sums_within}

module _ (a : Amount) (rows : List PageRow) where
  sum_small : (k : ℕ) → length rows ≤ 64 → nat_abs (sum_of (amount_in a) (map row_of (take k rows))) ≤ 7680000000000
  sum_small k few = omega (arith, sum_from a (pos 0) (map row_of (take k rows)) (rows_within (take k rows)), length-map (take k rows) row_of, length-take k rows)

  -- one row more adds its amount
  pub one_more : (k : ℕ) (r : PageRow) (sums : PageLine) → length rows ≤ 64 → k < length rows → r ≡ get_or rows k r → sums ≡ sums_of (map row_of (take k rows)) →
      let sum = amount_in a sums +ℤ amount_in a (row_of r) in
      SFits w64 sum × (sum ≡ sum_of (amount_in a) (map row_of (take (k + 1) rows)))
  one_more k r sums few within is so_far =
      let each : ℤ → PageLine → ℤ = λ s l. s +ℤ amount_in a l in
      let added : amount_in a sums ≡ sum_of (amount_in a) (map row_of (take k rows)) = ap (amount_in a) so_far ∙ amount_sum a (map row_of (take k rows)) in
      let more = fold-map each row_of (pos 0) (take (k + 1) rows) ∙ fold_more (λ s r. each s (row_of r)) (pos 0) rows k r within in (
        fits_signed_from_abs w64 _ (omega (arith, ints, sum_small k few, ap nat_abs added, row_amounts r a)),
        (λ i. each (added i) (row_of r)) ∙ (λ i. each (fold-map each row_of (pos 0) (take k rows) i) (row_of (is i))) ∙ sym more,
      )

-- the sums of 64 rows are within 64 times an amount's limit
pub sums_small : (rows : List PageRow) (sums : Sums) → length rows ≤ 64 → sums_line sums ≡ sums_of (map row_of rows) →
    (nat_abs sums.annual_expense_charge ≤ 7680000000000)
    × (nat_abs sums.annual_return_charge ≤ 7680000000000)
    × (nat_abs sums.depreciation_expense ≤ 7680000000000)
    × (nat_abs sums.annual_revenue_requirement ≤ 7680000000000)
sums_small rows sums few added =
    let within = sums_within (map row_of rows) (omega (arith, length-map rows row_of)) (rows_within rows) in
    let small : (a : Amount) → nat_abs (amount_in a (sums_line sums)) ≤ 7680000000000 = λ a. omega (arith, ap (λ l. nat_abs (amount_in a l)) added, within.amounts a) in
    (small expense_charge, small return_charge, small depreciation, small requirement)
