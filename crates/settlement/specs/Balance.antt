-- What balances between a tally and a book. A book gives its till and rows with paid, dues and kept cents; the rest is from the tally.
use Rattle.std.specs.Prelude.{◌≡◌, ℕ, ◌≤◌, List, [], ◌∷◌, length, ℤ, pos, ◌+ℤ◌, ◌-ℤ◌, ◌*ℤ◌, ◌≤ℤ◌, ◌<ℤ◌, unsigned_abs}
use Rattle.amounts.specs.Rounding.{LargestNotAbove}
use Rattle.settlement.specs.Books.{BookView, RowView, till}
use Rattle.settlement.specs.Rules.{cents, difference, outstanding, unsigned}
use Rattle.settlement.specs.Tally.{Tally, actual_in, charges, closed_actuals, column, money_left, tally_share, total}

-- a property of each row
abbrev pub EachRow : (RowView → Type 0) → List RowView → Type 0
EachRow P [] = Unit {0}
EachRow P (r ∷ rs) = P r × EachRow P rs

-- every charge was paid out or lies in the till
abbrev pub ChargesEqualPaymentsPlusTill : Tally → BookView → Type 0
ChargesEqualPaymentsPlusTill t b = charges t ≡ (t.payments +ℤ till b)

-- right after a pay
pub record SharesArePaid (t : Tally) (b : BookView) : Type 0 where
  pub paid_is_the_share : EachRow (λ r. r.paid ≡ tally_share t r.project) b.rows
  pub share_is_rounded_down : EachRow (λ r. LargestNotAbove (money_left t *ℤ column t r.project) (unsigned (total t)) r.paid) b.rows
  pub total_is_above_zero : pos 0 <ℤ total t
  pub till_is_not_negative : pos 0 ≤ℤ till b
  pub till_is_fewer_cents_than_rows : till b <ℤ pos (length b.rows)

-- a project with a row, over all closed years, in cents
pub record LifetimeAddsUp (t : Tally) (r : RowView) : Type 0 where
  pub receipts_and_outstanding_are_actuals_and_interest :
      (t.past.receipts r.project +ℤ outstanding r.account) ≡ (cents (closed_actuals t r.project) +ℤ t.past.interest r.project)
  pub kept_cents_are_within_fifty : unsigned_abs r.account.kept ≤ 50

-- a project's difference if the year were closed now, and the interest that a close added
abbrev pub difference_in : Tally → ℕ → ℤ
difference_in t project = difference (actual_in t project t.year) (t.past.accounts project).due_now (tally_share t project)

abbrev pub interest_borne : Tally → Tally → ℕ → ℤ
interest_borne before after project = after.past.interest project -ℤ before.past.interest project

-- two projects in one close
pub record InterestIsFair (before after : Tally) (p q : ℕ) : Type 0 where
  pub equal_differences_bear_equal_interest : difference_in before p ≡ difference_in before q → interest_borne before after p ≡ interest_borne before after q
  pub a_larger_difference_bears_no_less : difference_in before p ≤ℤ difference_in before q → interest_borne before after p ≤ℤ interest_borne before after q
  pub interest_on_a_credit_is_no_debit : pos 0 ≤ℤ difference_in before p → pos 0 ≤ℤ interest_borne before after p
  pub interest_on_a_debit_is_no_credit : difference_in before p ≤ℤ pos 0 → interest_borne before after p ≤ℤ pos 0
