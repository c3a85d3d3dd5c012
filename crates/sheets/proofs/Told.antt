-- What the questions tell once they are answered yes.
use Rattle.std.proofs.Common.{◌≡◌, ℕ, ◌≤◌, Bool, true, false, ◌&&◌, ℤ, pos, neg_ℤ, nat_abs, ◌≤ℤ◌, ◌<ℤ◌, Ok, refl, arith}
use lib.Signed.{le_z}
use Rattle.std.proofs.lemmas.Int.{ints}
use Rattle.std.proofs.lemmas.Bool.{and_parts}
use Rattle.questions.specs.Questions.{within}
use Rattle.sheets.specs.declared.elements.Elements.{Elements}
use Rattle.sheets.specs.declared.factors.Factors.{Factors}
use Rattle.sheets.specs.declared.pricing.Project.{Project}
use Rattle.sheets.specs.Factors.{above_zero, based, bases_above_zero, factor_fits, factors_fit, hundredths, om_base_above_zero, om_factor_fits}
use Rattle.sheets.specs.Pricing.{ProjectFits, project_fits}

pub above_told : (x : ℤ) → above_zero x ≡ true → pos 0 <ℤ x
above_told x h = grind (arith, ints)

pub within_told : (low high x : ℤ) → within low high x ≡ true → (low ≤ℤ x) × (x ≤ℤ high)
within_told low high x h = let p = and_parts (le_z low x) (le_z x high) h in (grind (arith, ints), grind (arith, ints))

-- every base is above 0
pub bases_told : (e : Elements) → bases_above_zero e ≡ true → (om_base_above_zero e.transmission_om ≡ true) × (pos 0 <ℤ e.expense.gross_plant) × (pos 0 <ℤ e.returns.net_plant)
bases_told e h =
    let p = and_parts (om_base_above_zero e.transmission_om) (above_zero e.expense.gross_plant && above_zero e.returns.net_plant) h in
    let q = and_parts (above_zero e.expense.gross_plant) (above_zero e.returns.net_plant) p.1 in
    (p.0, above_told e.expense.gross_plant q.0, above_told e.returns.net_plant q.1)

factor_told : (x : ℤ) → factor_fits hundredths x ≡ true → nat_abs x ≤ 100000
factor_told x h = let p = within_told (neg_ℤ (pos 100000)) (pos 100000) x h in omega (arith, ints)

-- lines 4, 9 and 14 are within 1,000 percent
pub factors_told : (p : Factors) → factors_fit hundredths p ≡ true → (om_factor_fits hundredths p.transmission_om ≡ true) × (nat_abs p.expense.total ≤ 100000) × (nat_abs p.returns.total ≤ 100000)
factors_told p h =
    let a = and_parts (om_factor_fits hundredths p.transmission_om) (factor_fits hundredths p.expense.total && factor_fits hundredths p.returns.total) h in
    let b = and_parts (factor_fits hundredths p.expense.total) (factor_fits hundredths p.returns.total) a.1 in
    (a.0, factor_told p.expense.total b.0, factor_told p.returns.total b.1)

pub project_told : (j : Project) → project_fits j ≡ true → ProjectFits j
project_told j h =
    let most = pos 10000000000 in
    let p = and_parts (within (pos 0) most j.gross_plant) (within (pos 0) most j.depreciation_expense && within (pos 0) j.gross_plant j.accumulated_depreciation) h in
    let q = and_parts (within (pos 0) most j.depreciation_expense) (within (pos 0) j.gross_plant j.accumulated_depreciation) p.1 in
    let gross = within_told (pos 0) most j.gross_plant p.0 in
    let depreciation = within_told (pos 0) most j.depreciation_expense q.0 in
    let accumulated = within_told (pos 0) j.gross_plant j.accumulated_depreciation q.1 in
    record { accumulated_from_zero = accumulated.0; accumulated_to_gross = accumulated.1; gross_to_limit = gross.1; depreciation_from_zero = depreciation.0; depreciation_to_limit = depreciation.1 }

-- what is worked out, was so where the bases are above 0
pub based_told : {A : Type 0} (b : Bool) (x y : A) → Ok x ≡ based b y → (b ≡ true) × (x ≡ y)
based_told true x y e = (refl, cc)
based_told false x y e = let z : ◌≡◌ {A = ℕ} 0 1 = cc in absurd (omega arith)
