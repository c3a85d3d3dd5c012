-- The text of a filing: the lines of its projects and their sums, or the line of its refusal.
use Rattle.std.specs.Prelude.{ℕ, List, map, Ok, Err, Result}
use Rattle.filing.specs.declared.refusal.LineRefusal.{LineRefusal}
use Rattle.filing.specs.Filed.{seen}
use Rattle.filing.specs.Filing.{filed, rows_filed}
use Rattle.filing.specs.Refusals.{number_of}
use Rattle.filing.specs.Rows.{Row}
use Rattle.page_text.specs.Lines.{page_text, refusal_text}
use Rattle.page_text.specs.Rows.{PageLine}

-- the line of a priced project
abbrev pub page_line : Row → PageLine
page_line row = record {
  project_number = row.number;
  annual_expense_charge = row.columns.annual_expense_charge;
  annual_return_charge = row.columns.annual_return_charge;
  depreciation_expense = row.columns.depreciation_expense;
  annual_revenue_requirement = row.columns.annual_revenue_requirement;
}

-- the text of what a filing gives
abbrev pub text_of : Result (List Row) LineRefusal → List ℕ
text_of (Ok rows) = page_text (map page_line rows)
text_of (Err refused) = refusal_text refused.line (number_of refused.refusal)

-- the text that a file's bytes give
abbrev pub filing_text : List ℕ → List ℕ
filing_text file = text_of (seen rows_filed (filed file))
