-- The sums below the rows of page 2.
use Rattle.std.specs.Prelude.{List, ℤ, pos, ◌+ℤ◌, fold}
use Rattle.sheets.specs.declared.pricing.Columns.{Columns}
use Rattle.printed_pages.specs.declared.layout.Summed.{Summed}
use Rattle.printed_pages.specs.declared.layout.Summed.TheVariants.{ExpenseCharge, ReturnCharge, DepreciationExpense, Requirement}
use Rattle.printed_pages.specs.declared.pages.Row.{Row}

-- what a project has in a column with a sum
abbrev pub amount_in : Summed → Columns → ℤ
amount_in ExpenseCharge columns = columns.annual_expense_charge
amount_in ReturnCharge columns = columns.annual_return_charge
amount_in DepreciationExpense columns = columns.depreciation_expense
amount_in Requirement columns = columns.annual_revenue_requirement

-- the sum of a column over the rows
abbrev pub sum_of_column : Summed → List Row → ℤ
sum_of_column summed rows = fold (λ sum row. sum +ℤ amount_in summed row.columns) (pos 0) rows
