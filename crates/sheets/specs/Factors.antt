-- Page 1 worked out: the factors, or the first question that is answered no.
use Rattle.std.specs.Prelude.{ℕ, ◌*◌, Bool, true, ◌&&◌, [], ◌∷◌, ℤ, pos, ◌*ℤ◌, neg_ℤ, Some, None, Ok, Err, Option, Result, int_lt, unsigned_abs}
use Rattle.std.specs.Option.{option_map}
use Rattle.amounts.specs.Rounding.{rounded}
use Rattle.questions.specs.Questions.{ask, asked, within}
use Rattle.sheets.specs.declared.elements.Elements.{Elements}
use Rattle.sheets.specs.declared.elements.ExpenseElements.{ExpenseElements}
use Rattle.sheets.specs.declared.elements.ReturnElements.{ReturnElements}
use Rattle.sheets.specs.declared.elements.TransmissionOm.{TransmissionOm}
use Rattle.sheets.specs.declared.factors.ExpenseFactors.{ExpenseFactors}
use Rattle.sheets.specs.declared.factors.Factors.{Factors}
use Rattle.sheets.specs.declared.factors.ReturnFactors.{ReturnFactors}
use Rattle.sheets.specs.declared.refusal.Refusal.{Refusal}
use Rattle.sheets.specs.declared.refusal.Refusal.TheVariants.{BaseNotAboveZero, AdjustedOmOutOfRange, FactorOutOfRange}
use Rattle.sheets.specs.Elements.{total_expense, total_return}

-- the scale of a factor today: 100 percent is 10,000 hundredths of a percent
abbrev pub hundredths : ℕ
hundredths = 10000

-- an amount over a base above 0, in parts of 1 ÷ scale, rounded once
abbrev pub factor : ℕ → ℤ → ℤ → ℤ
factor scale amount base = rounded (amount *ℤ pos scale) (unsigned_abs base)

-- line 4
abbrev pub om_factor : ℕ → TransmissionOm → ℤ
om_factor scale e = factor scale e.adjusted_om e.accumulated_depreciation

-- lines 4b (4 in Attachment CC), 6, 8 and 9; line 9 is rounded once from the exact sum
abbrev pub expense_factors : ℕ → ExpenseElements → ExpenseFactors
expense_factors scale e = record {
  other_om = factor scale e.other_om e.gross_plant;
  general_depreciation = factor scale e.general_depreciation e.gross_plant;
  other_taxes = factor scale e.other_taxes e.gross_plant;
  total = factor scale (total_expense e) e.gross_plant;
}

-- lines 11, 13 and 14; line 14 is rounded once from the exact sum
abbrev pub return_factors : ℕ → ReturnElements → ReturnFactors
return_factors scale e = record {
  income_taxes = factor scale e.income_taxes e.net_plant;
  return_on_rate_base = factor scale e.return_on_rate_base e.net_plant;
  total = factor scale (total_return e) e.net_plant;
}

-- all factors of page 1
abbrev pub factors_of : ℕ → Elements → Factors
factors_of scale e = record {
  transmission_om = option_map (om_factor scale) e.transmission_om;
  expense = expense_factors scale e.expense;
  returns = return_factors scale e.returns;
}

abbrev pub above_zero : ℤ → Bool
above_zero x = int_lt (pos 0) x

abbrev pub om_base_above_zero : Option TransmissionOm → Bool
om_base_above_zero (Some e) = above_zero e.accumulated_depreciation
om_base_above_zero None = true

-- every base that is divided by is above 0: question 24
abbrev pub bases_above_zero : Elements → Bool
bases_above_zero e = om_base_above_zero e.transmission_om && (above_zero e.expense.gross_plant && above_zero e.returns.net_plant)

-- what is worked out where the bases are above 0
abbrev pub based : {A : Type 0} → Bool → A → Result A Refusal
based b x = asked Err (ask b BaseNotAboveZero ∷ []) (Ok x)

-- 1,000 percent either way
abbrev pub factor_fits : ℕ → ℤ → Bool
factor_fits scale x = within (neg_ℤ (pos (10 * scale))) (pos (10 * scale)) x

abbrev pub om_factor_fits : ℕ → Option ℤ → Bool
om_factor_fits scale (Some x) = factor_fits scale x
om_factor_fits scale None = true

-- lines 4, 9 and 14
abbrev pub factors_fit : ℕ → Factors → Bool
factors_fit scale p = om_factor_fits scale p.transmission_om && (factor_fits scale p.expense.total && factor_fits scale p.returns.total)

-- page 1 of cost elements, and whether line 3d is from 0 to line 3
abbrev pub page_one : ℕ → Elements → Bool → Result Factors Refusal
page_one scale e adjusted_om_fits =
    asked Err
    (ask (bases_above_zero e) BaseNotAboveZero
    ∷ ask adjusted_om_fits AdjustedOmOutOfRange
    ∷ ask (factors_fit scale (factors_of scale e)) FactorOutOfRange
    ∷ [])
    (Ok (factors_of scale e))
