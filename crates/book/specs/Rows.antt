-- What every row, every row's answer and every row's figures keep.
use Rattle.std.specs.Prelude.{◌≤◌, pos, ◌+ℤ◌, ◌≤ℤ◌, unsigned_abs, IfSome, IsTrue}
use Rattle.std.specs.Option.{unwrap_or}
use Rattle.settlement.specs.declared.row_answer.RowAnswer.{RowAnswer}
use Rattle.settlement.specs.Books.{RowView, column_of}
use Rattle.settlement.specs.Closing.{is_true_up}
use Rattle.settlement.specs.Outcomes.{in_dollars, in_money}
use Rattle.settlement.specs.Rules.{Figures}

pub record RowInRange (r : RowView) : Type 0 where
  pub due_now_in_range : IsTrue (is_true_up r.account.due_now)
  pub due_next_in_range : IsTrue (is_true_up r.account.due_next)
  pub kept_within_fifty : unsigned_abs r.account.kept ≤ 50
  pub requirement_in_range : IsTrue (in_dollars (unwrap_or r.filed.requirement (pos 0)))
  pub column_16_in_range : IsTrue (in_dollars (column_of r))
  pub actual_in_range : IsTrue (in_dollars (unwrap_or r.filed.actual (pos 0)))
  pub paid_in_range : IsTrue (in_money r.paid)

-- a row as looking at it answers: what a caller may rely on
pub record AnswerInRange (r : RowAnswer) : Type 0 where
  pub kept_cents_are_within_fifty : unsigned_abs r.kept ≤ 50
  pub column_16_while_filed_is_0_to_100000000 : IfSome r.requirement (λ requirement. (pos 0 ≤ℤ (requirement +ℤ r.due_now)) × ((requirement +ℤ r.due_now) ≤ℤ pos 100000000))

-- figures with which a row may be closed
pub record FiguresInRange (f : Figures) : Type 0 where
  pub true_up_in_range : IsTrue (is_true_up f.true_up)
  pub kept_within_fifty : unsigned_abs f.kept ≤ 50
