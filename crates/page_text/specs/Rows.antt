-- The rows of a page as plain lists.
use Rattle.std.specs.Prelude.{cond, List, [], ◌∷◌, ◌++◌, length, ℤ, Ok, Err, Result, nat_lt}
use Rattle.page_text.specs.Outcomes.{Outcome}
use Rattle.page_text.specs.declared.refusal.Refusal.{Refusal}
use Rattle.page_text.specs.declared.refusal.Refusal.TheVariants.{TooManyProjects}
use Rattle.page_text.specs.declared.row.PageRow.{PageRow}

-- the numbers of a line of the pages
pub record PageLine : Type 0 where
  pub project_number : ℤ
  pub annual_expense_charge : ℤ
  pub annual_return_charge : ℤ
  pub depreciation_expense : ℤ
  pub annual_revenue_requirement : ℤ

abbrev pub row_of : PageRow → PageLine
row_of r = record {
  project_number = r.project_number;
  annual_expense_charge = r.annual_expense_charge;
  annual_return_charge = r.annual_return_charge;
  depreciation_expense = r.depreciation_expense;
  annual_revenue_requirement = r.annual_revenue_requirement;
}

-- one row more after the others; where they are 64, they stay as they are
abbrev pub pushed : List PageLine → PageLine → Outcome (Result (Unit {0}) Refusal) (List PageLine)
pushed rows row =
    cond (nat_lt (length rows) 64)
    (record { answer = Ok tt; after = rows ++ (row ∷ []) })
    (record { answer = Err TooManyProjects; after = rows })
