-- The two pages in the tariff's own words: quotients of dollars, their exact sums, and what is nearest to them.
use Rattle.std.specs.Prelude.{◌≡◌, ℕ, ◌*◌, List, [], ◌∷◌, map, ℤ, pos, ◌+ℤ◌, ◌-ℤ◌, ◌*ℤ◌, Some, None, Option, unsigned_abs}
use Rattle.amounts.specs.Rounding.{Nearest}
use Rattle.sheets.specs.declared.elements.Elements.{Elements}
use Rattle.sheets.specs.declared.elements.ExpenseElements.{ExpenseElements}
use Rattle.sheets.specs.declared.elements.ReturnElements.{ReturnElements}
use Rattle.sheets.specs.declared.elements.TransmissionOm.{TransmissionOm}
use Rattle.sheets.specs.declared.factors.ExpenseFactors.{ExpenseFactors}
use Rattle.sheets.specs.declared.factors.Factors.{Factors}
use Rattle.sheets.specs.declared.factors.ReturnFactors.{ReturnFactors}
use Rattle.sheets.specs.declared.pricing.Columns.{Columns}
use Rattle.sheets.specs.declared.pricing.Project.{Project}

-- an exact quotient, over ÷ under
pub record Quotient : Type 0 where
  pub over : ℤ
  pub under : ℕ

-- dollars over a base above 0
abbrev pub single : ℤ → ℤ → Quotient
single base amount = record { over = amount; under = unsigned_abs base }

abbrev plus : Quotient → Quotient → Quotient
plus p q = record { over = p.over *ℤ pos q.under +ℤ q.over *ℤ pos p.under; under = p.under * q.under }

-- the sum of quotients, over the product of what they divide by
abbrev pub exact_sum : List Quotient → Quotient
exact_sum [] = record { over = pos 0; under = 1 }
exact_sum (q ∷ qs) = plus q (exact_sum qs)

-- r parts of 1 ÷ scale are the whole number of parts nearest to the quotient
abbrev pub NearestParts : ℕ → Quotient → ℤ → Type 0
NearestParts scale q r = Nearest (q.over *ℤ pos scale) q.under r

-- line 4 is there where the template has line 3d, and is nearest to its quotient
abbrev pub OmFollows : ℕ → Option TransmissionOm → Option ℤ → Type 0
OmFollows scale (Some e) (Some r) = NearestParts scale (single e.accumulated_depreciation e.adjusted_om) r
OmFollows scale (Some e) None = ⊥
OmFollows scale None o = o ≡ None

-- each single factor is nearest to its own quotient, and line 9 to the exact sum of the three
pub record ExpenseFollows (scale : ℕ) (e : ExpenseElements) (p : ExpenseFactors) : Type 0 where
  pub other_om_is_nearest_to_its_quotient : NearestParts scale (single e.gross_plant e.other_om) p.other_om
  pub general_depreciation_is_nearest_to_its_quotient : NearestParts scale (single e.gross_plant e.general_depreciation) p.general_depreciation
  pub other_taxes_are_nearest_to_their_quotient : NearestParts scale (single e.gross_plant e.other_taxes) p.other_taxes
  pub line_9_is_nearest_to_the_exact_sum : NearestParts scale (exact_sum (map (single e.gross_plant) (e.other_om ∷ e.general_depreciation ∷ e.other_taxes ∷ []))) p.total

-- the same for lines 11, 13 and 14
pub record ReturnFollows (scale : ℕ) (e : ReturnElements) (p : ReturnFactors) : Type 0 where
  pub income_taxes_are_nearest_to_their_quotient : NearestParts scale (single e.net_plant e.income_taxes) p.income_taxes
  pub return_on_rate_base_is_nearest_to_its_quotient : NearestParts scale (single e.net_plant e.return_on_rate_base) p.return_on_rate_base
  pub line_14_is_nearest_to_the_exact_sum : NearestParts scale (exact_sum (map (single e.net_plant) (e.income_taxes ∷ e.return_on_rate_base ∷ []))) p.total

-- every factor of page 1 is nearest to the quotient that the tariff prints for its line
pub record PageOneFollows (scale : ℕ) (e : Elements) (p : Factors) : Type 0 where
  pub line_4_is_nearest_to_its_quotient : OmFollows scale e.transmission_om p.transmission_om
  pub line_9_and_its_parts_are_nearest : ExpenseFollows scale e.expense p.expense
  pub line_14_and_its_parts_are_nearest : ReturnFollows scale e.returns p.returns

-- a charge is the whole number of dollars nearest to the product of an amount and a factor
abbrev pub NearestDollars : ℕ → ℤ → ℤ → ℤ → Type 0
NearestDollars scale amount factor r = Nearest (amount *ℤ factor) scale r

-- without line 4 there is no transmission O&M expense
abbrev pub OmChargeFollows : ℕ → Option ℤ → ℤ → ℤ → Type 0
OmChargeFollows scale (Some factor) base r = NearestDollars scale base factor r
OmChargeFollows scale None base r = r ≡ pos 0

-- every charge of page 2 is nearest to its product, and the sums are exact
pub record PageTwoFollows (scale : ℕ) (p : Factors) (om_base : Project → ℤ) (j : Project) (c : Columns) : Type 0 where
  pub transmission_om_expense_is_nearest : OmChargeFollows scale p.transmission_om (om_base j) c.transmission_om_expense
  pub other_expense_is_nearest : NearestDollars scale j.gross_plant p.expense.total c.other_expense
  pub expense_charge_is_both_expenses : c.annual_expense_charge ≡ c.transmission_om_expense +ℤ c.other_expense
  pub return_charge_is_nearest : NearestDollars scale (j.gross_plant -ℤ j.accumulated_depreciation) p.returns.total c.annual_return_charge
  pub depreciation_is_the_projects_own : c.depreciation_expense ≡ j.depreciation_expense
  pub requirement_is_the_sum : c.annual_revenue_requirement ≡ c.annual_expense_charge +ℤ c.annual_return_charge +ℤ c.depreciation_expense
