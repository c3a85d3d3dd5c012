-- Looking at a book and at a project's row.
use Rattle.std.specs.Prelude.{ℕ, List, [], ◌∷◌, length, ℤ, Option, slice_get}
use Rattle.std.specs.Option.{option_map}
use Rattle.questions.specs.Questions.{Question, ask, asked}
use Rattle.settlement.specs.declared.refusal.Refusal.{Refusal}
use Rattle.settlement.specs.declared.refusal.Refusal.TheVariants.{ProjectNumberOutOfRange, NoRow}
use Rattle.settlement.specs.declared.row_answer.RowAnswer.{RowAnswer}
use Rattle.settlement.specs.declared.standing.Standing.{Standing}
use Rattle.settlement.specs.Rules.{unsigned}
use Rattle.settlement.specs.Books.{BookView, RowView, has_row, row_on, till}
use Rattle.settlement.specs.Outcomes.{Outcome, done, is_project, refused}

-- all that a row has
abbrev pub answer_of : RowView → RowAnswer
answer_of r = record {
  project = r.project;
  due_now = r.account.due_now;
  due_next = r.account.due_next;
  paid = r.paid;
  kept = r.account.kept;
  requirement = r.filed.requirement;
  actual = r.filed.actual;
}

-- where a book stands
abbrev pub standing_of : BookView → Standing
standing_of b = record { year = b.year; state = b.state; money = b.money; till = till b; rows = length b.rows }

-- the row at a position, counted from 0
abbrev pub row_at : BookView → ℕ → Option RowAnswer
row_at b position = option_map answer_of (slice_get b.rows position)

-- what looking asks, in this order
abbrev pub look_questions : BookView → ℤ → List (Question Refusal)
look_questions b project =
    ask (is_project project) ProjectNumberOutOfRange  -- 1
    ∷ ask (has_row (unsigned project) b.rows) NoRow  -- 14
    ∷ []

-- look: a project's row is the answer
abbrev pub looked : BookView → ℤ → Outcome RowAnswer
looked b project = asked (refused b) (look_questions b project) (done (answer_of (row_on (unsigned project) b.rows)) b)
