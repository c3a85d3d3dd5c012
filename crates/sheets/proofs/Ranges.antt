-- The amounts of a sheet stay within their range.
use Rattle.std.proofs.Common.{◌≡◌, ℕ, ◌≤◌, Bool, true, false, cond, eqb, ℤ, pos, nat_abs, Some, Option, sym, refl, subst, arith}
use Rattle.std.proofs.lemmas.Int.{ints}
use Rattle.sheets.specs.declared.figures.Figure.{Figure}
use Rattle.sheets.specs.declared.figures.Figure.TheVariants.{GrossPlant, AccumulatedDepreciation, NetPlant, TotalOm, TransmissionOm, LseExpenses, Account565, GeneralDepreciation, OtherTaxes, IncomeTaxes, ReturnOnRateBase}
use Rattle.sheets.specs.declared.figures.Figures.{Figures}
use Rattle.sheets.specs.Figures.{InRange, amount_fits, figure_in, lowest, or_zero, place, with_figure}
use Rattle.sheets.proofs.Told.{within_told}

-- a replaced figure is the new one, and any other the old one
figure_after : (j k : Figure) (x : Option ℤ) (f : Figures) → figure_in j (with_figure k x f) ≡ cond (eqb (place k) (place j)) x (figure_in j f)
figure_after GrossPlant k x f = refl
figure_after AccumulatedDepreciation k x f = refl
figure_after NetPlant k x f = refl
figure_after TotalOm k x f = refl
figure_after TransmissionOm k x f = refl
figure_after LseExpenses k x f = refl
figure_after Account565 k x f = refl
figure_after GeneralDepreciation k x f = refl
figure_after OtherTaxes k x f = refl
figure_after IncomeTaxes k x f = refl
figure_after ReturnOnRateBase k x f = refl

lowest_is_near : (k : Figure) → nat_abs (lowest k) ≤ 10000000000
lowest_is_near GrossPlant = omega arith
lowest_is_near AccumulatedDepreciation = omega arith
lowest_is_near NetPlant = omega arith
lowest_is_near TotalOm = omega arith
lowest_is_near TransmissionOm = omega arith
lowest_is_near LseExpenses = omega arith
lowest_is_near Account565 = omega arith
lowest_is_near GeneralDepreciation = omega arith
lowest_is_near OtherTaxes = omega arith
lowest_is_near IncomeTaxes = omega arith
lowest_is_near ReturnOnRateBase = omega arith

either : (b : Bool) (x : ℤ) (o : Option ℤ) (n : ℕ) → nat_abs x ≤ n → nat_abs (or_zero o) ≤ n → nat_abs (or_zero (cond b (Some x) o)) ≤ n
either true x o n h k = h
either false x o n h k = k

pub in_range_after : (k : Figure) (x : ℤ) (f : Figures) → amount_fits k x ≡ true → InRange f → InRange (with_figure k (Some x) f)
in_range_after k x f h r j =
    let told = within_told (lowest k) (pos 10000000000) x h in
    let near : nat_abs x ≤ 10000000000 = omega (arith, ints, lowest_is_near k) in
    subst (λ o. nat_abs (or_zero o) ≤ 10000000000) (sym (figure_after j k (Some x) f)) (either (eqb (place k) (place j)) x (figure_in j f) 10000000000 near (r j))
