-- Runs of calls: two joined end to end, and the law after every run from a book just opened.
use Rattle.std.proofs.Common.{◌≡◌, ℕ, Bool, List, [], ◌∷◌, ◌++◌, ℤ, ◌+ℤ◌, Ok, Err, ap, ◌∙◌}
use Rattle.journals.specs.Journal.{Pair}
use Rattle.rates.specs.Factor.{interest_months}
use Rattle.settlement.specs.declared.state.State.TheVariants.{Posted}
use Rattle.settlement.specs.Balance.{EachRow, LifetimeAddsUp, SharesArePaid}
use Rattle.settlement.specs.Rules.{outstanding, pair_of, unsigned}
use Rattle.settlement.specs.Books.{BookView, RowView, with_state}
use Rattle.settlement.specs.Billing.{bill_questions, change_to, charge_at, entered_book, resettle_questions}
use Rattle.settlement.specs.Calls.{Call, file, post, bill, resettle, pay, state, close, fed}
use Rattle.settlement.specs.Closing.{close_questions, closed_book, figures_of}
use Rattle.settlement.specs.Lists.{terms_at}
use Rattle.settlement.specs.Conservation.{Conservation, NoCentIsMadeOrLost}
use Rattle.settlement.specs.Counting.{count, tally}
use Rattle.settlement.specs.Drafting.{file_questions, filed_book, opened, post_questions, rate_for}
use Rattle.settlement.specs.Stating.{state_questions, stated_book}
use Rattle.settlement.specs.Paying.{paid_book, pay_answer, pay_questions}
use Rattle.settlement.specs.Runs.{Run, Step, no_call, one_more}
use Rattle.settlement.specs.Tally.{Tally}
use Rattle.settlement.proofs.Asking.{asked_err}
use Rattle.settlement.proofs.Billing.{sound_bill, sound_resettle}
use Rattle.settlement.proofs.Closing.{close_is_fair, sound_close}
use Rattle.settlement.proofs.Filing.{sound_file}
use Rattle.settlement.proofs.Invariants.{Lifetimes, RowAgrees, Sound, sound_opened}
use Rattle.settlement.proofs.Paying.{shares_paid, sound_pay}
use Rattle.settlement.proofs.Posting.{sound_post}
use Rattle.settlement.proofs.Stating.{sound_state}

lifetime_of_rows : (t : Tally) → Lifetimes t → (rows : List RowView) → EachRow (RowAgrees t.year t.filings t.past.accounts) rows → EachRow (LifetimeAddsUp t) rows
lifetime_of_rows t l [] e = tt
lifetime_of_rows t l (r ∷ rs) e =
    let same = e.0.0 in (
      record {
        receipts_and_outstanding_are_actuals_and_interest = ap (λ a. t.past.receipts r.project +ℤ outstanding a) same ∙ l.adds_up r.project;
        kept_cents_are_within_fifty = rw same (l.kept_small r.project);
      },
      lifetime_of_rows t l rs e.1,
    )

accounts_of_rows : (t : Tally) → (rows : List RowView) → EachRow (RowAgrees t.year t.filings t.past.accounts) rows → EachRow (λ r. r.account ≡ t.past.accounts r.project) rows
accounts_of_rows t [] e = tt
accounts_of_rows t (r ∷ rs) e = (e.0.0, accounts_of_rows t rs e.1)

module _ {B : Type 0} (view : B → BookView) (place : B → Pair → Bool) where
  pub joined : {start middle end : B} {calls more : List Call} → Run view place start calls middle → Run view place middle more end → Run view place start (more ++ calls) end
  joined first no_call = first
  joined first (one_more c b b' rest step) = one_more c b b' (joined first rest) step

  -- an accepted call by its own file; a refused one leaves both sides alone
  sound_step : (c : Call) (t : Tally) (b b' : B) → Sound t (view b) → Step view place c b b' → Sound (count (fed c) t) (view b')
  sound_step (file p x (Ok u)) t b b' s g = sound_file t (view b) (view b') p x u s g
  sound_step (file p x (Err why)) t b b' s g = rw (asked_err (view b) tt (filed_book (view b) (unsigned p) x) (view b') why (file_questions (view b) p x) g) s
  sound_step (post f (Ok rate)) t b b' s g = sound_post t (view b) (view b') f rate s g
  sound_step (post f (Err why)) t b b' s g = rw (asked_err (view b) (rate_for (view b) f) (with_state (Posted (rate_for (view b) f)) (view b)) (view b') why (post_questions (view b) f) g) s
  sound_step (bill p m k (Ok x)) t b b' s g = sound_bill t (view b) (view b') (place b (pair_of p m)) p m k x s g
  sound_step (bill p m k (Err why)) t b b' s g = rw (asked_err (view b) (charge_at (view b) (unsigned k)) (entered_book (view b) (pair_of p m) (unsigned k) (charge_at (view b) (unsigned k))) (view b') why (bill_questions (view b) (place b (pair_of p m)) p m k) g) s
  sound_step (resettle p m k (Ok x)) t b b' s g = sound_resettle t (view b) (view b') p m k x s g
  sound_step (resettle p m k (Err why)) t b b' s g = rw (asked_err (view b) (change_to (view b) (pair_of p m) (unsigned k)) (entered_book (view b) (pair_of p m) (unsigned k) (change_to (view b) (pair_of p m) (unsigned k))) (view b') why (resettle_questions (view b) p m k) g) s
  sound_step (pay (Ok x)) t b b' s g = sound_pay t (view b) (view b') x s g
  sound_step (pay (Err why)) t b b' s g = rw (asked_err (view b) (pay_answer (view b)) (paid_book (view b)) (view b') why (pay_questions (view b)) g) s
  sound_step (state p x (Ok u)) t b b' s g = sound_state t (view b) (view b') p x u s g
  sound_step (state p x (Err why)) t b b' s g = rw (asked_err (view b) tt (stated_book (view b) (unsigned p) x) (view b') why (state_questions (view b) p x) g) s
  sound_step (close lists (Ok u)) t b b' s g = sound_close interest_months t (view b) (view b') lists u s g
  sound_step (close lists (Err why)) t b b' s g = rw (asked_err (view b) tt (closed_book (figures_of (terms_at interest_months lists (view b).year)) (view b)) (view b') why (close_questions interest_months (view b) lists) g) s

  module _ (year : ℕ) (start : B) (new : view start ≡ opened year) where
    along : (calls : List Call) (b : B) → Run view place start calls b → Sound (tally year calls) (view b)
    along _ _ no_call = rw new (sound_opened year)
    along _ _ (one_more {calls} c b b' run step) = sound_step c (tally year calls) b b' (along calls b run) step

    after_pay : (calls : List Call) (answer : ℤ × ℤ) (b : B) → Run view place start (pay (Ok answer) ∷ calls) b → SharesArePaid (tally year (pay (Ok answer) ∷ calls)) (view b)
    after_pay calls answer _ (one_more _ b b' run step) = shares_paid (tally year calls) (view b) (view b') answer (along calls b run) step

    law : NoCentIsMadeOrLost view place year start
    law = record {
      rows_are_the_filed_projects = λ calls b run. (along calls b run).rows.same_projects;
      charges_equal_payments_plus_till = λ calls b run. (along calls b run).metered.balance;
      shares_are_paid_after_pay = after_pay;
      accounts_are_those_of_the_tally = λ calls b run. let s = along calls b run in accounts_of_rows (tally year calls) (view b).rows s.rows.figures;
      lifetimes_add_up = λ calls b run. let s = along calls b run in lifetime_of_rows (tally year calls) s.lifetimes (view b).rows s.rows.figures;
      interest_is_fair_in_each_close = λ calls lists u b run p q. close_is_fair interest_months (tally year calls) lists p q;
    }

  pub conservation : Conservation view place
  conservation = law
