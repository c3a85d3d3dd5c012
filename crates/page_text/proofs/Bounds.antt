-- How large the numbers of a line can be, and that they fit their columns.
use Rattle.std.proofs.Common.{◌≡◌, ℕ, ◌+◌, ◌*◌, ◌≤◌, List, [], ◌∷◌, map, length, ℤ, pos, ◌+ℤ◌, nat_abs, fold, sym, refl, subst, arith}
use Rattle.std.proofs.ByRecursion.{All-push, All-weaker}
use Rattle.std.proofs.lemmas.Int.{ints}
use Rattle.std.specs.List.{AllByRecursion}
use Rattle.columns.specs.Texts.{width_of}
use Rattle.page_text.specs.Lines.{line_fields, page_lines, sum_of, sums_of}
use Rattle.page_text.specs.ReadBack.{Amount, WideEnough, amount_in}
use Rattle.page_text.specs.ReadBack.Amount.{expense_charge, return_charge, depreciation, requirement}
use Rattle.page_text.specs.Rows.{PageLine, row_of}
use Rattle.page_text.specs.declared.row.PageRow.{PageRow}
use Rattle.page_text.proofs.Columns.{wide_enough}

-- a project number, and amounts up to a limit either way
pub record Within (limit : ℕ) (l : PageLine) : Type 0 where
  pub project : nat_abs l.project_number ≤ 99999999
  pub amounts : (a : Amount) → nat_abs (amount_in a l) ≤ limit

pub row_amounts : (r : PageRow) (a : Amount) → nat_abs (amount_in a (row_of r)) ≤ 120000000000
row_amounts r expense_charge = r.expense_charge_range
row_amounts r return_charge = r.return_charge_range
row_amounts r depreciation = omega (arith, ints, r.depreciation_from_zero, r.depreciation_to_limit)
row_amounts r requirement = omega (arith, ints, r.requirement_from_zero, r.requirement_to_limit)

pub rows_within : (rows : List PageRow) → AllByRecursion (Within 120000000000) (map row_of rows)
rows_within [] = tt
rows_within (r ∷ rs) = (record { project = omega (arith, ints, r.project_from_zero, r.project_to_limit); amounts = row_amounts r }, rows_within rs)

-- a sum is at most as many times the limit as there are rows
pub sum_from : (a : Amount) (start : ℤ) (rows : List PageLine) → AllByRecursion (Within 120000000000) rows → nat_abs (fold (λ sum row. sum +ℤ amount_in a row) start rows) ≤ nat_abs start + 120000000000 * length rows
sum_from a start [] h = omega arith
sum_from a start (r ∷ rs) h = omega (arith, ints, sum_from a (start +ℤ amount_in a r) rs h.1, h.0.amounts a)

pub amount_sum : (a : Amount) (rows : List PageLine) → amount_in a (sums_of rows) ≡ sum_of (amount_in a) rows
amount_sum expense_charge rows = refl
amount_sum return_charge rows = refl
amount_sum depreciation rows = refl
amount_sum requirement rows = refl

pub sums_within : (rows : List PageLine) → length rows ≤ 64 → AllByRecursion (Within 120000000000) rows → Within 7680000000000 (sums_of rows)
sums_within rows few h = record {
  project = omega arith;
  amounts = λ a. subst (λ n. nat_abs n ≤ 7680000000000) (sym (amount_sum a rows)) (omega (arith, sum_from a (pos 0) rows h));
}

pub lines_within : (rows : List PageLine) → length rows ≤ 64 → AllByRecursion (Within 120000000000) rows → AllByRecursion (Within 7680000000000) (page_lines rows)
lines_within rows few h =
    All-push (Within 7680000000000) rows (sums_of rows)
    (All-weaker (Within 120000000000) (Within 7680000000000) (λ l w. record { project = w.project; amounts = λ a. omega (arith, w.amounts a) }) rows h)
    (sums_within rows few h)

pub fields_wide_enough : (l : PageLine) → Within 7680000000000 l → AllByRecursion WideEnough (line_fields l)
fields_wide_enough l w =
    let wide : (a : Amount) → width_of (amount_in a l) ≤ 14 = λ a. wide_enough 14 (amount_in a l) (omega arith) (omega (arith, w.amounts a)) in
    (wide_enough 12 l.project_number (omega arith) (omega (arith, w.project)), (wide expense_charge, (wide return_charge, (wide depreciation, (wide requirement, tt)))))
