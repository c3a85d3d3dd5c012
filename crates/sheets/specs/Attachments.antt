-- The two templates: Attachment MM and Attachment CC.
use Rattle.std.specs.Prelude.{ℕ, true, List, [], ◌∷◌, ℤ, pos, ◌+ℤ◌, ◌-ℤ◌, Some, None, codes}
use Rattle.questions.specs.Questions.{within}
use Rattle.sheets.specs.declared.attachment_cc.CcLine.{CcLine}
use Rattle.sheets.specs.declared.attachment_cc.CcLine.TheVariants as cc
use Rattle.sheets.specs.declared.attachment_mm.MmLine.{MmLine}
use Rattle.sheets.specs.declared.attachment_mm.MmLine.TheVariants as mm
use Rattle.sheets.specs.declared.elements.Elements.{Elements}
use Rattle.sheets.specs.declared.elements.ExpenseElements.{ExpenseElements}
use Rattle.sheets.specs.declared.elements.ReturnElements.{ReturnElements}
use Rattle.sheets.specs.declared.elements.TransmissionOm.{TransmissionOm}
use Rattle.sheets.specs.declared.figures.Figure.{Figure}
use Rattle.sheets.specs.declared.figures.Figure.TheVariants as figure
use Rattle.sheets.specs.declared.figures.Figures.{Figures}
use Rattle.sheets.specs.Figures.{amount_of}
use Rattle.sheets.specs.Rules.{Rules}

-- what is divided by gross plant, of the O&M that counts there and the plant
abbrev pub expense_elements : ℤ → Figures → ExpenseElements
expense_elements om f = record {
  other_om = om;
  general_depreciation = amount_of figure.GeneralDepreciation f;
  other_taxes = amount_of figure.OtherTaxes f;
  gross_plant = amount_of figure.GrossPlant f;
}

-- what is divided by this net plant
abbrev pub return_elements : ℤ → Figures → ReturnElements
return_elements net f = record {
  income_taxes = amount_of figure.IncomeTaxes f;
  return_on_rate_base = amount_of figure.ReturnOnRateBase f;
  net_plant = net;
}

-- Attachment MM: line 2 is line 1 less line 1a
abbrev pub mm_net_plant : Figures → ℤ
mm_net_plant f = amount_of figure.GrossPlant f -ℤ amount_of figure.AccumulatedDepreciation f

-- lines 3b and 3c, which line 3d leaves out of line 3a
abbrev pub mm_deductions : Figures → ℤ
mm_deductions f = amount_of figure.LseExpenses f +ℤ amount_of figure.Account565 f

-- line 3d
abbrev pub mm_adjusted_om : Figures → ℤ
mm_adjusted_om f = amount_of figure.TransmissionOm f -ℤ mm_deductions f

-- line 4a is line 3 less line 3d
abbrev pub mm_other_om : Figures → ℤ
mm_other_om f = amount_of figure.TotalOm f -ℤ mm_adjusted_om f

-- line 4 divides line 3d by line 1a
abbrev pub mm_transmission_om : Figures → TransmissionOm
mm_transmission_om f = record {
  adjusted_om = mm_adjusted_om f;
  accumulated_depreciation = amount_of figure.AccumulatedDepreciation f;
}

-- what each factor of Attachment MM divides, and by what
abbrev pub mm_elements : Figures → Elements
mm_elements f = record {
  transmission_om = Some (mm_transmission_om f);
  expense = expense_elements (mm_other_om f) f;
  returns = return_elements (mm_net_plant f) f;
}

-- what is printed as the number of each line that takes a figure
abbrev mm_label : MmLine → List ℕ
mm_label mm.GrossPlant = codes "1"
mm_label mm.AccumulatedDepreciation = codes "1a"
mm_label mm.TotalOm = codes "3"
mm_label mm.TransmissionOm = codes "3a"
mm_label mm.LseExpenses = codes "3b"
mm_label mm.Account565 = codes "3c"
mm_label mm.GeneralDepreciation = codes "5"
mm_label mm.OtherTaxes = codes "7"
mm_label mm.IncomeTaxes = codes "10"
mm_label mm.ReturnOnRateBase = codes "12"

-- the figure on each line
abbrev mm_figure : MmLine → Figure
mm_figure mm.GrossPlant = figure.GrossPlant
mm_figure mm.AccumulatedDepreciation = figure.AccumulatedDepreciation
mm_figure mm.TotalOm = figure.TotalOm
mm_figure mm.TransmissionOm = figure.TransmissionOm
mm_figure mm.LseExpenses = figure.LseExpenses
mm_figure mm.Account565 = figure.Account565
mm_figure mm.GeneralDepreciation = figure.GeneralDepreciation
mm_figure mm.OtherTaxes = figure.OtherTaxes
mm_figure mm.IncomeTaxes = figure.IncomeTaxes
mm_figure mm.ReturnOnRateBase = figure.ReturnOnRateBase

-- all that is particular to Attachment MM; question 25 is asked here only, and line 4 multiplies accumulated depreciation
abbrev pub mm_rules : Rules MmLine
mm_rules = record {
  lines = mm.GrossPlant ∷ mm.AccumulatedDepreciation ∷ mm.TotalOm ∷ mm.TransmissionOm ∷ mm.LseExpenses ∷ mm.Account565 ∷ mm.GeneralDepreciation ∷ mm.OtherTaxes ∷ mm.IncomeTaxes ∷ mm.ReturnOnRateBase ∷ [];
  label_of = mm_label;
  figure_of = mm_figure;
  elements_of = mm_elements;
  adjusted_om_fits = λ f. within (pos 0) (amount_of figure.TotalOm f) (mm_adjusted_om f);
  om_base = λ j. j.accumulated_depreciation;
}

-- Attachment CC: net plant is entered, all O&M is divided by gross plant, and there is no line 3d or 1a
abbrev pub cc_elements : Figures → Elements
cc_elements f = record {
  transmission_om = None;
  expense = expense_elements (amount_of figure.TotalOm f) f;
  returns = return_elements (amount_of figure.NetPlant f) f;
}

-- what is printed as the number of each line that takes a figure
abbrev cc_label : CcLine → List ℕ
cc_label cc.GrossPlant = codes "1"
cc_label cc.NetPlant = codes "2"
cc_label cc.TotalOm = codes "3"
cc_label cc.GeneralDepreciation = codes "5"
cc_label cc.OtherTaxes = codes "7"
cc_label cc.IncomeTaxes = codes "10"
cc_label cc.ReturnOnRateBase = codes "12"

-- the figure on each line
abbrev cc_figure : CcLine → Figure
cc_figure cc.GrossPlant = figure.GrossPlant
cc_figure cc.NetPlant = figure.NetPlant
cc_figure cc.TotalOm = figure.TotalOm
cc_figure cc.GeneralDepreciation = figure.GeneralDepreciation
cc_figure cc.OtherTaxes = figure.OtherTaxes
cc_figure cc.IncomeTaxes = figure.IncomeTaxes
cc_figure cc.ReturnOnRateBase = figure.ReturnOnRateBase

-- all that is particular to Attachment CC: question 25 is always answered yes, and there is no line 4
abbrev pub cc_rules : Rules CcLine
cc_rules = record {
  lines = cc.GrossPlant ∷ cc.NetPlant ∷ cc.TotalOm ∷ cc.GeneralDepreciation ∷ cc.OtherTaxes ∷ cc.IncomeTaxes ∷ cc.ReturnOnRateBase ∷ [];
  label_of = cc_label;
  figure_of = cc_figure;
  elements_of = cc_elements;
  adjusted_om_fits = λ f. true;
  om_base = λ j. pos 0;
}
