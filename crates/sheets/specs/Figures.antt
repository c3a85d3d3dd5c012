-- The figures of page 1 as entered.
use Rattle.std.specs.Prelude.{ℕ, ◌≤◌, Bool, cond, ℤ, pos, negsuc, Some, None, Option, ◌==◌, unsigned_abs}
use Rattle.questions.specs.Questions.{within}
use Rattle.sheets.specs.declared.figures.Figure.{Figure}
use Rattle.sheets.specs.declared.figures.Figure.TheVariants.{GrossPlant, AccumulatedDepreciation, NetPlant, TotalOm, TransmissionOm, LseExpenses, Account565, GeneralDepreciation, OtherTaxes, IncomeTaxes, ReturnOnRateBase}
use Rattle.sheets.specs.declared.figures.Figures.{Figures}

-- the amount entered for a figure, if any
abbrev pub figure_in : Figure → Figures → Option ℤ
figure_in GrossPlant f = f.gross_plant
figure_in AccumulatedDepreciation f = f.accumulated_depreciation
figure_in NetPlant f = f.net_plant
figure_in TotalOm f = f.total_om
figure_in TransmissionOm f = f.transmission_om
figure_in LseExpenses f = f.lse_expenses
figure_in Account565 f = f.account_565
figure_in GeneralDepreciation f = f.general_depreciation
figure_in OtherTaxes f = f.other_taxes
figure_in IncomeTaxes f = f.income_taxes
figure_in ReturnOnRateBase f = f.return_on_rate_base

abbrev pub or_zero : Option ℤ → ℤ
or_zero (Some x) = x
or_zero None = pos 0

-- a figure that was not entered counts as 0
abbrev pub amount_of : Figure → Figures → ℤ
amount_of k f = or_zero (figure_in k f)

-- the place of a figure in the record
abbrev pub place : Figure → ℕ
place GrossPlant = 0
place AccumulatedDepreciation = 1
place NetPlant = 2
place TotalOm = 3
place TransmissionOm = 4
place LseExpenses = 5
place Account565 = 6
place GeneralDepreciation = 7
place OtherTaxes = 8
place IncomeTaxes = 9
place ReturnOnRateBase = 10

-- f, with x for the figure k; every other figure stays
abbrev pub with_figure : Figure → Option ℤ → Figures → Figures
with_figure k x f = record {
  gross_plant = cond (place k == 0) x f.gross_plant;
  accumulated_depreciation = cond (place k == 1) x f.accumulated_depreciation;
  net_plant = cond (place k == 2) x f.net_plant;
  total_om = cond (place k == 3) x f.total_om;
  transmission_om = cond (place k == 4) x f.transmission_om;
  lse_expenses = cond (place k == 5) x f.lse_expenses;
  account_565 = cond (place k == 6) x f.account_565;
  general_depreciation = cond (place k == 7) x f.general_depreciation;
  other_taxes = cond (place k == 8) x f.other_taxes;
  income_taxes = cond (place k == 9) x f.income_taxes;
  return_on_rate_base = cond (place k == 10) x f.return_on_rate_base;
}

-- no figure entered
abbrev pub blank : Figures
blank = record {
  gross_plant = None;
  accumulated_depreciation = None;
  net_plant = None;
  total_om = None;
  transmission_om = None;
  lse_expenses = None;
  account_565 = None;
  general_depreciation = None;
  other_taxes = None;
  income_taxes = None;
  return_on_rate_base = None;
}

-- income taxes alone may be negative
abbrev pub lowest : Figure → ℤ
lowest GrossPlant = pos 0
lowest AccumulatedDepreciation = pos 0
lowest NetPlant = pos 0
lowest TotalOm = pos 0
lowest TransmissionOm = pos 0
lowest LseExpenses = pos 0
lowest Account565 = pos 0
lowest GeneralDepreciation = pos 0
lowest OtherTaxes = pos 0
lowest IncomeTaxes = negsuc 9999999999
lowest ReturnOnRateBase = pos 0

-- question 22: from the lowest to 10,000,000,000
abbrev pub amount_fits : Figure → ℤ → Bool
amount_fits k x = within (lowest k) (pos 10000000000) x

-- every amount is within 10,000,000,000 either way
abbrev pub InRange : Figures → Type 0
InRange f = (k : Figure) → unsigned_abs (amount_of k f) ≤ 10000000000
