-- Page 1 as each template prints it: the lines that take a figure, in their order, what is added and what is divided. A line is
-- known here by its printed number alone, whatever the names of lines and figures are.
use Prim.Native.String.{String}
use Rattle.std.specs.Prelude.{◌≡◌, ℕ, List, [], ◌∷◌, map, ℤ, pos, ◌+ℤ◌, ◌-ℤ◌, Some, None, Option, codes}
use Rattle.sheets.specs.declared.attachment_cc.CcLine.{CcLine}
use Rattle.sheets.specs.declared.attachment_mm.MmLine.{MmLine}
use Rattle.sheets.specs.declared.elements.Elements.{Elements}
use Rattle.sheets.specs.declared.factors.Factors.{Factors}
use Rattle.sheets.specs.declared.figures.Figure.{Figure}
use Rattle.sheets.specs.declared.figures.Figure.TheVariants.{GrossPlant, AccumulatedDepreciation, NetPlant, TotalOm, TransmissionOm, LseExpenses, Account565, GeneralDepreciation, OtherTaxes, IncomeTaxes, ReturnOnRateBase}
use Rattle.sheets.specs.declared.figures.Figures.{Figures}
use Rattle.sheets.specs.Figures.{amount_of}
use Rattle.sheets.specs.Rules.{Rules, line_labelled}
use Rattle.sheets.specs.Tariff.{NearestParts, OmFollows, exact_sum, single}

-- the printed number and the figure of each line, in the order of the page
abbrev pub listed : {L : Type 0} → Rules L → List (List ℕ × Figure)
listed t = map (λ line. (t.label_of line, t.figure_of line)) t.lines

-- the amount on the line with each printed number
abbrev pub Amounts : Type 0
Amounts = String → ℤ

-- the amount on this line, if any; without a line it counts as 0
abbrev amount_at : {L : Type 0} → (L → Figure) → Option L → Figures → ℤ
amount_at figure_of (Some line) f = amount_of (figure_of line) f
amount_at figure_of None f = pos 0

-- the amounts as the page has them
abbrev pub amount_on : {L : Type 0} → Rules L → Figures → Amounts
amount_on t f number = amount_at t.figure_of (line_labelled t.label_of t.lines (codes number)) f

-- a factor divides one amount by another: it is the whole number of parts of 1 ÷ scale nearest to the quotient
abbrev pub Divides : ℕ → ℤ → ℤ → ℤ → Type 0
Divides scale over under factor = NearestParts scale (single under over) factor

-- a factor adds what each of these amounts gives over one base, and is rounded once
abbrev pub AddsOver : ℕ → ℤ → List ℤ → ℤ → Type 0
AddsOver scale under amounts factor = NearestParts scale (exact_sum (map (single under) amounts)) factor

-- Attachment MM: line 2 is line 1 minus line 1a, line 3d is line 3a minus lines 3b and 3c, line 4a is line 3 minus line 3d
abbrev pub mm_line_2 : Amounts → ℤ
mm_line_2 line = line "1" -ℤ line "1a"

abbrev pub mm_line_3d : Amounts → ℤ
mm_line_3d line = line "3a" -ℤ (line "3b" +ℤ line "3c")

abbrev pub mm_line_4a : Amounts → ℤ
mm_line_4a line = line "3" -ℤ mm_line_3d line

-- the lines of Attachment MM that take a figure, and the sums between them: 2 + 1a = 1, 3d + 3b + 3c = 3a, and 4a + 3d = 3
pub record MmLinesAddUp (t : Rules MmLine) (f : Figures) (e : Elements) : Type 0 where
  pub lines_in_the_order_of_the_page : listed t ≡ (codes "1", GrossPlant) ∷ (codes "1a", AccumulatedDepreciation) ∷ (codes "3", TotalOm) ∷ (codes "3a", TransmissionOm) ∷ (codes "3b", LseExpenses) ∷ (codes "3c", Account565) ∷ (codes "5", GeneralDepreciation) ∷ (codes "7", OtherTaxes) ∷ (codes "10", IncomeTaxes) ∷ (codes "12", ReturnOnRateBase) ∷ []
  pub line_3d : ℤ
  pub line_4_divides_3d_by_1a : e.transmission_om ≡ Some (record { adjusted_om = line_3d; accumulated_depreciation = amount_on t f "1a" })
  pub net_plant_and_1a_are_line_1 : e.returns.net_plant +ℤ amount_on t f "1a" ≡ amount_on t f "1"
  pub lines_3d_3b_and_3c_are_line_3a : line_3d +ℤ amount_on t f "3b" +ℤ amount_on t f "3c" ≡ amount_on t f "3a"
  pub other_om_and_3d_are_line_3 : e.expense.other_om +ℤ line_3d ≡ amount_on t f "3"

-- the lines of Attachment CC that take a figure: net plant is line 2, all of line 3 is divided by line 1, and there is no line 3d
pub record CcLinesAddUp (t : Rules CcLine) (f : Figures) (e : Elements) : Type 0 where
  pub lines_in_the_order_of_the_page : listed t ≡ (codes "1", GrossPlant) ∷ (codes "2", NetPlant) ∷ (codes "3", TotalOm) ∷ (codes "5", GeneralDepreciation) ∷ (codes "7", OtherTaxes) ∷ (codes "10", IncomeTaxes) ∷ (codes "12", ReturnOnRateBase) ∷ []
  pub there_is_no_line_3d : e.transmission_om ≡ None
  pub net_plant_is_line_2 : e.returns.net_plant ≡ amount_on t f "2"
  pub other_om_is_line_3 : e.expense.other_om ≡ amount_on t f "3"

-- the factors of Attachment MM, given the amount on each line that takes a figure
pub record MmFactorsDivide (scale : ℕ) (line : Amounts) (p : Factors) : Type 0 where
  pub line_4_divides_line_3d_by_line_1a : OmFollows scale (Some (record { adjusted_om = mm_line_3d line; accumulated_depreciation = line "1a" })) p.transmission_om
  pub line_4b_divides_line_4a_by_line_1 : Divides scale (mm_line_4a line) (line "1") p.expense.other_om
  pub line_6_divides_line_5_by_line_1 : Divides scale (line "5") (line "1") p.expense.general_depreciation
  pub line_8_divides_line_7_by_line_1 : Divides scale (line "7") (line "1") p.expense.other_taxes
  pub line_9_divides_lines_4a_5_and_7_by_line_1 : AddsOver scale (line "1") (mm_line_4a line ∷ line "5" ∷ line "7" ∷ []) p.expense.total
  pub line_11_divides_line_10_by_line_2 : Divides scale (line "10") (mm_line_2 line) p.returns.income_taxes
  pub line_13_divides_line_12_by_line_2 : Divides scale (line "12") (mm_line_2 line) p.returns.return_on_rate_base
  pub line_14_divides_lines_10_and_12_by_line_2 : AddsOver scale (mm_line_2 line) (line "10" ∷ line "12" ∷ []) p.returns.total

-- the factors of Attachment CC, given the same
pub record CcFactorsDivide (scale : ℕ) (line : Amounts) (p : Factors) : Type 0 where
  pub nothing_is_divided_by_accumulated_depreciation : p.transmission_om ≡ None
  pub line_4_divides_line_3_by_line_1 : Divides scale (line "3") (line "1") p.expense.other_om
  pub line_6_divides_line_5_by_line_1 : Divides scale (line "5") (line "1") p.expense.general_depreciation
  pub line_8_divides_line_7_by_line_1 : Divides scale (line "7") (line "1") p.expense.other_taxes
  pub line_9_divides_lines_3_5_and_7_by_line_1 : AddsOver scale (line "1") (line "3" ∷ line "5" ∷ line "7" ∷ []) p.expense.total
  pub line_11_divides_line_10_by_line_2 : Divides scale (line "10") (line "2") p.returns.income_taxes
  pub line_13_divides_line_12_by_line_2 : Divides scale (line "12") (line "2") p.returns.return_on_rate_base
  pub line_14_divides_lines_10_and_12_by_line_2 : AddsOver scale (line "2") (line "10" ∷ line "12" ∷ []) p.returns.total
