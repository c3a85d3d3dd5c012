-- Two worked sheets and their projects.
use Rattle.std.specs.Prelude.{ℕ, List, [], ◌∷◌, ℤ, pos, ◌+ℤ◌, Some, None, Ok, Err, Option, Result, codes}
use Rattle.sheets.specs.declared.factors.Factors.{Factors}
use Rattle.sheets.specs.declared.figures.Figures.{Figures}
use Rattle.sheets.specs.declared.pricing.Columns.{Columns}
use Rattle.sheets.specs.declared.pricing.Project.{Project}
use Rattle.sheets.specs.declared.refusal.Refusal.{Refusal}
use Rattle.sheets.specs.Factors.{hundredths}
use Rattle.sheets.specs.Figures.{blank}
use Rattle.sheets.specs.Pricing.{priced}
use Rattle.sheets.specs.Rules.{Rules}
use Rattle.sheets.specs.Sheets.{entered_labelled, finished}

-- what is entered: printed numbers of lines, and dollars
abbrev pub LabelledAmounts : Type 0
LabelledAmounts = List (List ℕ × ℕ)

-- an Attachment MM sheet, in the order of its lines
abbrev pub mm_amounts : LabelledAmounts
mm_amounts =
    (codes "1", 1000000000)
    ∷ (codes "1a", 400000000)
    ∷ (codes "3", 30000000)
    ∷ (codes "3a", 12000000)
    ∷ (codes "3b", 1000000)
    ∷ (codes "3c", 1000000)
    ∷ (codes "5", 3000000)
    ∷ (codes "7", 12000000)
    ∷ (codes "10", 18000000)
    ∷ (codes "12", 42000000)
    ∷ []

-- the example that Attachment CC prints, in the order of its lines
abbrev pub cc_amounts : LabelledAmounts
cc_amounts =
    (codes "1", 1865000000)
    ∷ (codes "2", 1305500000)
    ∷ (codes "3", 52989310)
    ∷ (codes "5", 3247214)
    ∷ (codes "7", 12975857)
    ∷ (codes "10", 47594197)
    ∷ (codes "12", 100209722)
    ∷ []

-- the figures after an entry that was accepted
abbrev after_accepted : Result (Unit {0}) Refusal → Figures → Option Figures
after_accepted (Ok _) f = Some f
after_accepted (Err why) f = None

-- each amount entered on the line with its printed number, one after another; nothing where one is refused
abbrev enter : {L : Type 0} → Rules L → Option Figures → LabelledAmounts → Option Figures
enter t None more = None
enter t (Some f) [] = Some f
enter t (Some f) ((label, dollars) ∷ more) = let e = entered_labelled t label (pos dollars) f in enter t (after_accepted e.answer e.after) more

abbrev factors_of_finished : Result Factors Refusal → Option Factors
factors_of_finished (Ok p) = Some p
factors_of_finished (Err why) = None

abbrev finish : {L : Type 0} → Rules L → Option Figures → Option Factors
finish t (Some f) = factors_of_finished (finished hundredths t f)
finish t None = None

-- all factors of an empty sheet on which these amounts are entered and page 1 is finished
abbrev pub factors_on : {L : Type 0} → Rules L → LabelledAmounts → Option Factors
factors_on t amounts = finish t (enter t (Some blank) amounts)

-- lines 4, 4b, 6, 8 and 9, and lines 11, 13 and 14, in hundredths of a percent; Attachment CC has no line 4b, and its line 4 stands there
abbrev pub factors : Option ℤ → ℕ → ℕ → ℕ → ℕ → ℕ → ℕ → ℕ → Option Factors
factors line_4 line_4b line_6 line_8 line_9 line_11 line_13 line_14 =
    Some
    (record {
      transmission_om = line_4;
      expense = record { other_om = pos line_4b; general_depreciation = pos line_6; other_taxes = pos line_8; total = pos line_9 };
      returns = record { income_taxes = pos line_11; return_on_rate_base = pos line_13; total = pos line_14 };
    })

-- the rounded lines 11 and 13 added, and line 14
abbrev pub rounded_sum_and_line_14 : Factors → ℤ × ℤ
rounded_sum_and_line_14 p = (p.returns.income_taxes +ℤ p.returns.return_on_rate_base, p.returns.total)

-- gross plant, accumulated depreciation and depreciation expense
abbrev pub project : ℕ → ℕ → ℕ → Project
project gross accumulated depreciation = record { gross_plant = pos gross; accumulated_depreciation = pos accumulated; depreciation_expense = pos depreciation }

-- the columns that are billed on: 9, 12, 13 and 14 of Attachment MM, and 5, 8, 9 and 10 of CC
pub record BilledOn : Type 0 where
  pub expense_charge : ℤ
  pub return_charge : ℤ
  pub depreciation_expense : ℤ
  pub revenue_requirement : ℤ

abbrev billed_on : Result Columns Refusal → Option BilledOn
billed_on (Ok c) = Some (record { expense_charge = c.annual_expense_charge; return_charge = c.annual_return_charge; depreciation_expense = c.depreciation_expense; revenue_requirement = c.annual_revenue_requirement })
billed_on (Err why) = None

abbrev columns_of_finished : (Project → ℤ) → Project → Option Factors → Option BilledOn
columns_of_finished om_base j (Some p) = billed_on (priced hundredths p om_base j)
columns_of_finished om_base j None = None

-- the columns of a project on the sheet of these amounts
abbrev pub columns_on : {L : Type 0} → Rules L → LabelledAmounts → Project → Option BilledOn
columns_on t amounts j = columns_of_finished t.om_base j (factors_on t amounts)

abbrev pub columns : ℕ → ℕ → ℕ → ℕ → Option BilledOn
columns expense return depreciation requirement = Some (record { expense_charge = pos expense; return_charge = pos return; depreciation_expense = pos depreciation; revenue_requirement = pos requirement })
