-- Pay: each row's paid becomes its share of the money.
use Rattle.std.specs.Prelude.{List, [], ◌∷◌, map, ℤ, ◌-ℤ◌}
use Rattle.questions.specs.Questions.{Question, ask, asked}
use Rattle.settlement.specs.declared.refusal.Refusal.{Refusal}
use Rattle.settlement.specs.declared.refusal.Refusal.TheVariants.{NotPosted}
use Rattle.settlement.specs.Rules.{share}
use Rattle.settlement.specs.Books.{BookView, RowView, column_of, is_posted, sum_of_paid, till, total_of, with_paid, with_rows}
use Rattle.settlement.specs.Outcomes.{Outcome, done, refused}

-- the row's share: the part of the money that its column 16 is of the total, rounded down
abbrev pub share_of : ℤ → ℤ → RowView → ℤ
share_of money total r = share money total (column_of r)

-- the row with its share as paid
abbrev pub with_share : ℤ → ℤ → RowView → RowView
with_share money total r = with_paid (share_of money total r) r

-- every row paid its share of all the money of the year
abbrev pub paid_book : BookView → BookView
paid_book b = with_rows (map (with_share b.money (total_of b.rows)) b.rows) b

-- by how much the sum of paid has changed, and what the till then is
abbrev pub pay_answer : BookView → ℤ × ℤ
pay_answer b = (sum_of_paid (paid_book b).rows -ℤ sum_of_paid b.rows, till (paid_book b))

-- what paying asks
abbrev pub pay_questions : BookView → List (Question Refusal)
pay_questions b = ask (is_posted b.state) NotPosted ∷ []  -- 9

-- pay: the answer, and every row paid its share
abbrev pub paid : BookView → Outcome (ℤ × ℤ)
paid b = asked (refused b) (pay_questions b) (done (pay_answer b) (paid_book b))
