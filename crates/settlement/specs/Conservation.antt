-- The law: no run of calls on a book just opened makes or loses a cent.
use Rattle.std.specs.Prelude.{◌≡◌, ℕ, Bool, List, ◌∷◌, map, ℤ, Ok}
use Rattle.journals.specs.Journal.{Pair}
use Rattle.settlement.specs.Balance.{ChargesEqualPaymentsPlusTill, EachRow, InterestIsFair, LifetimeAddsUp, SharesArePaid}
use Rattle.settlement.specs.Books.{BookView}
use Rattle.settlement.specs.Calls.{Call, close, pay}
use Rattle.settlement.specs.Lists.{Lists}
use Rattle.settlement.specs.Counting.{tally}
use Rattle.settlement.specs.Drafting.{opened}
use Rattle.settlement.specs.Runs.{Run}

-- after every run of calls from this book
pub record NoCentIsMadeOrLost {B : Type 0} (view : B → BookView) (place : B → Pair → Bool) (year : ℕ) (start : B) : Type 0 where
  pub rows_are_the_filed_projects : (calls : List Call) (b : B) → Run view place start calls b → map (λ r. r.project) (view b).rows ≡ (tally year calls).projects
  pub charges_equal_payments_plus_till : (calls : List Call) (b : B) → Run view place start calls b → ChargesEqualPaymentsPlusTill (tally year calls) (view b)
  pub shares_are_paid_after_pay : (calls : List Call) (answer : ℤ × ℤ) (b : B) → Run view place start (pay (Ok answer) ∷ calls) b → SharesArePaid (tally year (pay (Ok answer) ∷ calls)) (view b)
  pub accounts_are_those_of_the_tally : (calls : List Call) (b : B) → Run view place start calls b → EachRow (λ r. r.account ≡ (tally year calls).past.accounts r.project) (view b).rows
  pub lifetimes_add_up : (calls : List Call) (b : B) → Run view place start calls b → EachRow (LifetimeAddsUp (tally year calls)) (view b).rows
  pub interest_is_fair_in_each_close : (calls : List Call) (lists : Lists) (u : Unit {0}) (b : B) → Run view place start (close lists (Ok u) ∷ calls) b → (p q : ℕ) → InterestIsFair (tally year calls) (tally year (close lists (Ok u) ∷ calls)) p q

-- over any type of books with a view, and any places, for a book just opened
abbrev pub Conservation : {B : Type 0} → (B → BookView) → (B → Pair → Bool) → Type 0
Conservation {B} view place = (year : ℕ) (start : B) → view start ≡ opened year → NoCentIsMadeOrLost view place year start
