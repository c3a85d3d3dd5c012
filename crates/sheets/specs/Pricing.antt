-- The columns of a project on page 2.
use Rattle.std.specs.Prelude.{ℕ, ◌≤◌, Bool, ◌&&◌, [], ◌∷◌, ℤ, pos, ◌+ℤ◌, ◌-ℤ◌, ◌*ℤ◌, ◌≤ℤ◌, Some, None, Ok, Err, Option, Result, unsigned_abs}
use Rattle.amounts.specs.Rounding.{rounded}
use Rattle.questions.specs.Questions.{ask, asked, within}
use Rattle.sheets.specs.declared.factors.Factors.{Factors}
use Rattle.sheets.specs.declared.pricing.Columns.{Columns}
use Rattle.sheets.specs.declared.pricing.Project.{Project}
use Rattle.sheets.specs.declared.refusal.Refusal.{Refusal}
use Rattle.sheets.specs.declared.refusal.Refusal.TheVariants.{ProjectOutOfRange, RequirementOutOfRange}

-- an amount times a factor of this scale, in whole dollars
abbrev pub charge : ℕ → ℤ → ℤ → ℤ
charge scale amount factor = rounded (amount *ℤ factor) scale

-- what line 4, where there is one, charges on its base
abbrev pub om_charge : ℕ → Option ℤ → ℤ → ℤ
om_charge scale (Some factor) base = charge scale base factor
om_charge scale None base = pos 0

-- gross plant less accumulated depreciation
abbrev pub net_plant_of : Project → ℤ
net_plant_of j = j.gross_plant -ℤ j.accumulated_depreciation

-- the columns: both expenses, their sum, the return charge, the depreciation expense and the requirement
abbrev pub columns_of : ℕ → Factors → (Project → ℤ) → Project → Columns
columns_of scale p om_base j =
    let om = om_charge scale p.transmission_om (om_base j) in
    let other = charge scale j.gross_plant p.expense.total in
    let return = charge scale (net_plant_of j) p.returns.total in
    record {
      transmission_om_expense = om;
      other_expense = other;
      annual_expense_charge = om +ℤ other;
      annual_return_charge = return;
      depreciation_expense = j.depreciation_expense;
      annual_revenue_requirement = om +ℤ other +ℤ return +ℤ j.depreciation_expense;
    }

-- gross plant and depreciation expense 0 to 10,000,000,000, accumulated depreciation 0 to gross plant
abbrev pub project_fits : Project → Bool
project_fits j =
    within (pos 0) (pos 10000000000) j.gross_plant
    && (within (pos 0) (pos 10000000000) j.depreciation_expense
    && within (pos 0) j.gross_plant j.accumulated_depreciation)

-- the same as facts
pub record ProjectFits (j : Project) : Type 0 where
  pub accumulated_from_zero : pos 0 ≤ℤ j.accumulated_depreciation
  pub accumulated_to_gross : j.accumulated_depreciation ≤ℤ j.gross_plant
  pub gross_to_limit : j.gross_plant ≤ℤ pos 10000000000
  pub depreciation_from_zero : pos 0 ≤ℤ j.depreciation_expense
  pub depreciation_to_limit : j.depreciation_expense ≤ℤ pos 10000000000

-- pricing a project on factors of this scale
abbrev pub priced : ℕ → Factors → (Project → ℤ) → Project → Result Columns Refusal
priced scale p om_base j =
    asked Err
    (ask (project_fits j) ProjectOutOfRange
    ∷ ask (within (pos 0) (pos 100000000) (columns_of scale p om_base j).annual_revenue_requirement) RequirementOutOfRange
    ∷ [])
    (Ok (columns_of scale p om_base j))

-- how far the columns of a priced project can reach
pub record ColumnsInRange (c : Columns) : Type 0 where
  pub expense_charge_is_within_120_billion : unsigned_abs c.annual_expense_charge ≤ 120000000000
  pub return_charge_is_within_100_billion : unsigned_abs c.annual_return_charge ≤ 100000000000
  pub depreciation_is_not_below_0 : pos 0 ≤ℤ c.depreciation_expense
  pub depreciation_is_at_most_10_billion : c.depreciation_expense ≤ℤ pos 10000000000
  pub requirement_is_not_below_0 : pos 0 ≤ℤ c.annual_revenue_requirement
  pub requirement_is_at_most_100_million : c.annual_revenue_requirement ≤ℤ pos 100000000
