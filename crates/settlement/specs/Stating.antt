-- State: what a project's requirement is on the actual costs of the year.
use Rattle.std.specs.Prelude.{ℕ, List, [], ◌∷◌, ℤ}
use Rattle.questions.specs.Questions.{Question, ask, asked}
use Rattle.settlement.specs.declared.refusal.Refusal.{Refusal}
use Rattle.settlement.specs.declared.refusal.Refusal.TheVariants.{ProjectNumberOutOfRange, NotPosted, NoRow, ActualOutOfRange}
use Rattle.settlement.specs.Rules.{unsigned}
use Rattle.settlement.specs.Books.{BookView, has_row, is_posted, on_row, with_actual, with_filed, with_rows}
use Rattle.settlement.specs.Outcomes.{Outcome, done, in_dollars, is_project, refused}

-- what stating asks, in this order
abbrev pub state_questions : BookView → ℤ → ℤ → List (Question Refusal)
state_questions b project actual =
    ask (is_project project) ProjectNumberOutOfRange  -- 1
    ∷ ask (is_posted b.state) NotPosted  -- 9
    ∷ ask (has_row (unsigned project) b.rows) NoRow  -- 14
    ∷ ask (in_dollars actual) ActualOutOfRange  -- 15
    ∷ []

-- the project's row with the actual
abbrev pub stated_book : BookView → ℕ → ℤ → BookView
stated_book b project actual = with_rows (on_row project (with_filed (with_actual actual)) b.rows) b

-- state: the actual is the project's for this year
abbrev pub stated : BookView → ℤ → ℤ → Outcome (Unit {0})
stated b project actual = asked (refused b) (state_questions b project actual) (done tt (stated_book b (unsigned project) actual))
