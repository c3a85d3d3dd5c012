-- The lines of the pages and the line of a refusal, as text.
use Rattle.std.specs.Prelude.{ℕ, List, [], ◌∷◌, ◌++◌, ℤ, pos, ◌+ℤ◌, fold}
use Rattle.std.specs.List.{flat_map}
use Rattle.page_text.specs.Fields.{PageField, fields_text, newline}
use Rattle.page_text.specs.Rows.{PageLine}
use Rattle.page_text.specs.declared.line.Sums.{Sums}

-- a number in some columns
abbrev pub in_columns : ℕ → ℤ → PageField
in_columns columns n = record { columns = columns; number = n }

-- the project number in 12 columns, then each amount in 14
abbrev pub line_fields : PageLine → List PageField
line_fields l =
    in_columns 12 l.project_number
    ∷ in_columns 14 l.annual_expense_charge
    ∷ in_columns 14 l.annual_return_charge
    ∷ in_columns 14 l.depreciation_expense
    ∷ in_columns 14 l.annual_revenue_requirement
    ∷ []

-- the fields of a line, and a newline
unfoldable pub line_text : PageLine → List ℕ
line_text l = fields_text (line_fields l) ++ newline

-- the sum of an amount over the rows
abbrev pub sum_of : (PageLine → ℤ) → List PageLine → ℤ
sum_of column rows = fold (λ sum row. sum +ℤ column row) (pos 0) rows

-- project number 0 and the sum of each column
abbrev pub sums_of : List PageLine → PageLine
sums_of rows = record {
  project_number = pos 0;
  annual_expense_charge = sum_of (λ l. l.annual_expense_charge) rows;
  annual_return_charge = sum_of (λ l. l.annual_return_charge) rows;
  depreciation_expense = sum_of (λ l. l.depreciation_expense) rows;
  annual_revenue_requirement = sum_of (λ l. l.annual_revenue_requirement) rows;
}

-- the line that these sums are printed as
abbrev pub sums_line : Sums → PageLine
sums_line s = record {
  project_number = pos 0;
  annual_expense_charge = s.annual_expense_charge;
  annual_return_charge = s.annual_return_charge;
  depreciation_expense = s.depreciation_expense;
  annual_revenue_requirement = s.annual_revenue_requirement;
}

-- a line for each row, and last the line of the sums
abbrev pub page_lines : List PageLine → List PageLine
page_lines rows = rows ++ (sums_of rows ∷ [])

-- the text of the pages: all the lines
unfoldable pub page_text : List PageLine → List ℕ
page_text rows = flat_map line_text (page_lines rows)

-- the line number in 11 columns, then the refusal's number in 12
abbrev pub refusal_fields : ℕ → ℕ → List PageField
refusal_fields line number = in_columns 11 (pos line) ∷ in_columns 12 (pos number) ∷ []

-- the letter R and the two numbers
unfoldable pub refusal_text : ℕ → ℕ → List ℕ
refusal_text line number = 82 ∷ (fields_text (refusal_fields line number) ++ newline)
