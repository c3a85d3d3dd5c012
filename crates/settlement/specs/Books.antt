-- A book as its reader sees it: the year, its state, the money, a row for each project, and what the journal holds.
use Rattle.std.specs.Prelude.{ℕ, Bool, true, false, cond, ◌||◌, List, [], ◌∷◌, ◌++◌, ℤ, pos, ◌-ℤ◌, Some, None, ◌==◌}
use Rattle.journals.specs.Journal.{Held}
use Rattle.settlement.specs.declared.account.Account.{Account}
use Rattle.settlement.specs.declared.account.Filed.{Filed}
use Rattle.settlement.specs.declared.state.State.{State}
use Rattle.settlement.specs.declared.state.State.TheVariants.{Draft, Posted}
use Rattle.settlement.specs.Rules.{nothing_due, column_16, sum_over}

-- a row not filed and not stated this year
abbrev pub nothing_filed : Filed
nothing_filed = record { requirement = None; actual = None }

abbrev pub with_requirement : ℤ → Filed → Filed
with_requirement requirement f = record { requirement = Some requirement; actual = f.actual }

abbrev pub with_actual : ℤ → Filed → Filed
with_actual actual f = record { requirement = f.requirement; actual = Some actual }

-- a project's row; paid is in cents
pub record RowView : Type 0 where
  pub project : ℕ
  pub account : Account
  pub filed : Filed
  pub paid : ℤ

-- the row that a project gets with its first filing
abbrev pub new_row : ℕ → RowView
new_row project = record { project = project; account = nothing_due; filed = nothing_filed; paid = pos 0 }

-- a row with one of its parts replaced
abbrev pub with_account : Account → RowView → RowView
with_account account r = record { project = r.project; account = account; filed = r.filed; paid = r.paid }

abbrev pub with_filed : (Filed → Filed) → RowView → RowView
with_filed change r = record { project = r.project; account = r.account; filed = change r.filed; paid = r.paid }

abbrev pub with_paid : ℤ → RowView → RowView
with_paid paid r = record { project = r.project; account = r.account; filed = r.filed; paid = paid }

-- column 16 of a row, the sum of the columns 16, and the sum of what is paid
abbrev pub column_of : RowView → ℤ
column_of r = column_16 r.filed.requirement r.account

abbrev pub total_of : List RowView → ℤ
total_of rows = sum_over column_of rows

abbrev pub sum_of_paid : List RowView → ℤ
sum_of_paid rows = sum_over (λ r. r.paid) rows

-- whether the project has a row
abbrev pub has_row : ℕ → List RowView → Bool
has_row project [] = false
has_row project (r ∷ rs) = r.project == project || has_row project rs

-- a project's row, or the one that it would get
abbrev pub row_on : ℕ → List RowView → RowView
row_on project [] = new_row project
row_on project (r ∷ rs) = cond (r.project == project) r (row_on project rs)

-- the project's row changed, and no other
abbrev pub on_row : ℕ → (RowView → RowView) → List RowView → List RowView
on_row project change [] = []
on_row project change (r ∷ rs) = cond (r.project == project) (change r ∷ rs) (r ∷ on_row project change rs)

-- rows stand in the order of first filing
abbrev pub with_row_for : ℕ → List RowView → List RowView
with_row_for project rows = cond (has_row project rows) rows (rows ++ new_row project ∷ [])

abbrev pub is_draft : State → Bool
is_draft Draft = true
is_draft (Posted rate) = false

abbrev pub is_posted : State → Bool
is_posted Draft = false
is_posted (Posted rate) = true

-- the usage rate of a posted year; a draft has none
abbrev pub rate_of : State → ℤ
rate_of Draft = pos 0
rate_of (Posted rate) = rate

-- the money is in cents
pub record BookView : Type 0 where
  pub year : ℕ
  pub state : State
  pub money : ℤ
  pub rows : List RowView
  pub held : Held

-- the money that is not paid out
abbrev pub till : BookView → ℤ
till b = b.money -ℤ sum_of_paid b.rows

-- no pair holds a number
abbrev pub nothing_held : Held
nothing_held pair = None

-- a book with one of its parts replaced
abbrev pub with_state : State → BookView → BookView
with_state state b = record { year = b.year; state = state; money = b.money; rows = b.rows; held = b.held }

abbrev pub with_rows : List RowView → BookView → BookView
with_rows rows b = record { year = b.year; state = b.state; money = b.money; rows = rows; held = b.held }

abbrev pub with_money : ℤ → BookView → BookView
with_money money b = record { year = b.year; state = b.state; money = money; rows = b.rows; held = b.held }

abbrev pub with_held : Held → BookView → BookView
with_held held b = record { year = b.year; state = b.state; money = b.money; rows = b.rows; held = held }

abbrev pub with_year : ℕ → BookView → BookView
with_year year b = record { year = year; state = b.state; money = b.money; rows = b.rows; held = b.held }
