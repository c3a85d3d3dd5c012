-- A row table: a book's year, state, money and rows, without its journal.
use Rattle.std.specs.Prelude.{◌≡◌, ℕ, ◌+◌, ◌≤◌, true, List, [], ◌∷◌, ◌++◌, length, take, drop, ℤ, ◌-ℤ◌, Ok, Err, Result, unsigned_abs, IsTrue, nat_lt}
use Rattle.journals.specs.Journal.{Held}
use Rattle.settlement.specs.declared.refusal.Refusal.{Refusal}
use Rattle.settlement.specs.declared.state.State.{State}
use Rattle.settlement.specs.declared.state.State.TheVariants.{Draft}
use Rattle.settlement.specs.Books.{BookView, RowView, has_row, nothing_held, on_row, rate_of, row_on, sum_of_paid, with_row_for}
use Rattle.settlement.specs.Closing.{closed_row}
use Rattle.settlement.specs.Outcomes.{Gives, Outcome, in_money}
use Rattle.settlement.specs.Rules.{Figures}

pub record TableView : Type 0 where
  pub year : ℕ
  pub state : State
  pub money : ℤ
  pub rows : List RowView

abbrev pub with_the_rows : List RowView → TableView → TableView
with_the_rows rows t = record { year = t.year; state = t.state; money = t.money; rows = rows }

-- what every row table keeps
pub record TableInRange (t : TableView) : Type 0 where
  pub money_in_range : IsTrue (in_money t.money)
  pub rate_in_range : unsigned_abs (rate_of t.state) ≤ 1000000
  pub at_most_64_rows : length t.rows ≤ 64

-- the book of a row table and what its journal holds
abbrev pub book_of : Held → TableView → BookView
book_of held t = record { year = t.year; state = t.state; money = t.money; rows = t.rows; held = held }

-- whatever the journal holds, the call gives this and leaves it
abbrev pub TableGives : {A : Type 0} → (BookView → Outcome A) → TableView → Result A Refusal → TableView → Type 0
TableGives call before answer after = (held : Held) → Gives (call (book_of held before)) answer (book_of held after)

-- the row at a place written over, or one written after the others
abbrev pub written : ℕ → RowView → List RowView → List RowView
written place row rows = take place rows ++ row ∷ drop (place + 1) rows

-- a project's row and its place; a project without a row would get this one after the others
pub record StandsAt (project : ℕ) (rows : List RowView) (place : ℕ) (row : RowView) : Type 0 where
  pub place_is_no_further_than_the_end : place ≤ length rows
  pub row_is_the_projects : row ≡ row_on project rows
  pub it_has_one_where_the_place_is_in_use : has_row project rows ≡ nat_lt place (length rows)
  pub change_is_written_there : (change : RowView → RowView) → on_row project change (with_row_for project rows) ≡ written place (change row) rows
  pub change_of_a_row_is_written_there : (change : RowView → RowView) → has_row project rows ≡ true → on_row project change rows ≡ written place (change row) rows

-- the rows closed with these figures, one each
abbrev pub closed_rows : List RowView → List Figures → List RowView
closed_rows [] figures = []
closed_rows (r ∷ rs) [] = r ∷ rs
closed_rows (r ∷ rs) (f ∷ fs) = closed_row (λ r. f) r ∷ closed_rows rs fs

-- the closing of a row table with these figures
abbrev pub closed_table : List Figures → TableView → TableView
closed_table figures t = record { year = t.year + 1; state = Draft; money = t.money -ℤ sum_of_paid t.rows; rows = closed_rows t.rows figures }

-- what a journal holds after a close: nothing, or what it held where the close is refused
abbrev pub held_after : Result (Unit {0}) Refusal → Held → Held
held_after (Ok u) held = nothing_held
held_after (Err why) held = held

-- the same of a close: an accepted one leaves a journal that holds nothing
abbrev pub TableCloses : (BookView → Outcome (Unit {0})) → TableView → Result (Unit {0}) Refusal → TableView → Type 0
TableCloses call before answer after = (held : Held) → Gives (call (book_of held before)) answer (book_of (held_after answer held) after)
