-- What a printed text reads as. Line 0 is the first.
use Rattle.std.specs.Prelude.{◌≡◌, ℕ, ◌+◌, ◌*◌, ◌<◌, ◌≤◌, List, [], ◌∷◌, length, take, drop, ℤ, pos, ◌+ℤ◌, Ok, fold, Result, slice_index_or}
use Rattle.std.specs.List.{AllByRecursion}
use Rattle.columns.specs.Fields.{reading}
use Rattle.columns.specs.Texts.{width_of}
use Rattle.columns.specs.declared.refusal.Refusal.{Refusal}
use Rattle.page_text.specs.Fields.{PageField}
use Rattle.page_text.specs.Lines.{line_fields, page_lines, refusal_fields}
use Rattle.page_text.specs.Rows.{PageLine}

-- the amounts of a line
pub data Amount : Type 0 where
  expense_charge : Amount
  return_charge : Amount
  depreciation : Amount
  requirement : Amount

abbrev pub amount_in : Amount → PageLine → ℤ
amount_in expense_charge l = l.annual_expense_charge
amount_in return_charge l = l.annual_return_charge
amount_in depreciation l = l.depreciation_expense
amount_in requirement l = l.annual_revenue_requirement

-- how many columns of the line stand before the amount's
abbrev pub columns_before : Amount → ℕ
columns_before expense_charge = 12
columns_before return_charge = 26
columns_before depreciation = 40
columns_before requirement = 54

-- what the project number and an amount of line k read as: a line is 69 bytes
abbrev pub project_read : List ℕ → ℕ → Result ℤ Refusal
project_read text k = reading (take 12 (drop (69 * k) text))

abbrev pub amount_read : Amount → List ℕ → ℕ → Result ℤ Refusal
amount_read a text k = reading (take 14 (drop (69 * k + columns_before a) text))

-- line k reads as these numbers
pub record LineReadsAs (text : List ℕ) (k : ℕ) (l : PageLine) : Type 0 where
  pub project_is_read : project_read text k ≡ Ok l.project_number
  pub amounts_are_read : (a : Amount) → amount_read a text k ≡ Ok (amount_in a l)

-- the columns are enough for the number
abbrev pub WideEnough : PageField → Type 0
WideEnough f = width_of f.number ≤ f.columns

-- the sum of some amounts
abbrev pub total : List ℤ → ℤ
total amounts = fold ◌+ℤ◌ (pos 0) amounts

-- the rows read back from the first lines; whatever amounts those lines read as, the last line reads as their total
pub record PageReadsBack (rows : List PageLine) (text : List ℕ) : Type 0 where
  pub each_line_reads_as_its_row : (k : ℕ) (row : PageLine) → k < length rows → row ≡ slice_index_or rows k row → LineReadsAs text k row
  pub last_line_has_project_0 : project_read text (length rows) ≡ Ok (pos 0)
  pub last_line_totals_the_lines_before : (a : Amount) (amounts : List ℤ) → length amounts ≡ length rows → ((k : ℕ) → k < length rows → amount_read a text k ≡ Ok (slice_index_or amounts k (pos 0))) →
      amount_read a text (length rows) ≡ Ok (total amounts)
  pub no_number_is_too_wide : AllByRecursion (λ l. AllByRecursion WideEnough (line_fields l)) (page_lines rows)

-- the line number ends in column 12 and the refusal's number in column 24
pub record RefusalReadsBack (line number : ℕ) (text : List ℕ) : Type 0 where
  pub begins_with_R : take 1 text ≡ 82 ∷ []
  pub line_is_read : reading (take 11 (drop 1 text)) ≡ Ok (pos line)
  pub number_is_read : reading (take 12 (drop 12 text)) ≡ Ok (pos number)
  pub no_number_is_too_wide : AllByRecursion WideEnough (refusal_fields line number)
