-- A pay keeps the tally and the book sound, and pays every row its share.
use Rattle.std.proofs.Common.{◌≡◌, List, [], ◌∷◌, map, length, ℤ, pos, ◌*ℤ◌, ◌≤ℤ◌, ◌<ℤ◌, Ok, sym, refl, ap, ◌∙◌, arith}
use Rattle.std.proofs.lemmas.Int.{ints}
use Rattle.amounts.specs.Rounding.{LargestNotAbove}
use Rattle.settlement.specs.Rules.{share, unsigned}
use Rattle.settlement.specs.Books.{BookView, RowView, column_of, till, total_of}
use Rattle.settlement.specs.Balance.{EachRow, SharesArePaid}
use Rattle.settlement.specs.Outcomes.{Gives}
use Rattle.settlement.specs.Paying.{paid, paid_book, pay_answer, pay_questions, with_share}
use Rattle.settlement.specs.Tally.{Tally, column, money_left, note_payment, tally_share, total}
use Rattle.settlement.proofs.Asking.{asked_ok}
use Rattle.settlement.proofs.Invariants.{RowAgrees, RowsAgreeWith, Sound, lifetimes_same, money_is, posted_is_not_draft, shares_are, total_is}
use Rattle.settlement.proofs.Rows.{distinct_mapped, each_mapped, each_sum, has_mapped, projects_mapped}
use Rattle.settlement.proofs.Shares.{share_rounds_down, shares_fill}
use Rattle.settlement.proofs.Sums.{sum_map}

-- each row's paid is its share of the money
abbrev pub Shared : ℤ → ℤ → RowView → Type 0
Shared money total r = r.paid ≡ share money total (column_of r)

-- the till where every row is paid its share
pub till_of_shares : (b : BookView) → pos 0 <ℤ total_of b.rows → EachRow (Shared b.money (total_of b.rows)) b.rows → (pos 0 ≤ℤ till b) × (till b <ℤ pos (length b.rows))
till_of_shares b above shares =
    let paid = each_sum (λ r. r.paid) (λ r. share b.money (total_of b.rows) (column_of r)) b.rows shares in
    let fill = shares_fill b.money column_of b.rows above in
    (omega (arith, ints), omega (arith, ints))

module _ (money total : ℤ) (rows : List RowView) where
  total_shared : total_of (map (with_share money total) rows) ≡ total_of rows
  total_shared = sum_map column_of (with_share money total) rows

  all_shared : (rs : List RowView) → EachRow (Shared money total) (map (with_share money total) rs)
  all_shared [] = tt
  all_shared (r ∷ rs) = (refl, all_shared rs)

rows_paid : (t : Tally) (b : BookView) (change : ℤ) → RowsAgreeWith t b.rows → change ≡ (pay_answer b).0 → RowsAgreeWith (note_payment change t) (paid_book b).rows
rows_paid t b change k is =
    let with_its_share = with_share b.money (total_of b.rows) in
    let before = k.paid_out in
    record {
      same_projects = projects_mapped with_its_share (λ r. refl) b.rows ∙ k.same_projects;
      figures = each_mapped with_its_share (λ r. refl) (RowAgrees t.year t.filings t.past.accounts) (RowAgrees t.year t.filings t.past.accounts) (λ r h. h) b.rows k.figures;
      distinct = distinct_mapped with_its_share (λ r. refl) b.rows k.distinct;
      unknown = λ p none. k.unknown p (sym (has_mapped with_its_share (λ r. refl) p b.rows) ∙ none);
      later_requirements = k.later_requirements;
      later_actuals = k.later_actuals;
      paid_out = omega (arith, ints);
    }

sound_paid : (t : Tally) (b : BookView) (change : ℤ) → Sound t b → change ≡ (pay_answer b).0 → Sound (note_payment change t) (paid_book b)
sound_paid t b change s is =
    let before = s.metered.balance in
    record {
      metered = record { years = s.metered.years; held = s.metered.held; rate = s.metered.rate; early = s.metered.early; balance = omega (arith, ints) };
      rows = rows_paid t b change s.rows is;
      lifetimes = lifetimes_same t (note_payment change t) refl refl refl s.lifetimes;
      total_above = λ e. rw (total_shared b.money (total_of b.rows) b.rows) (s.total_above e);
    }

pub sound_pay : (t : Tally) (b b' : BookView) (answer : ℤ × ℤ) → Sound t b → Gives (paid b) (Ok answer) b' → Sound (note_payment answer.0 t) b'
sound_pay t b b' x s g =
    let h = asked_ok b (pay_answer b) (paid_book b) b' x (pay_questions b) g in
    rw h.2 (sound_paid t b x.0 s (ap (λ y. y.0) h.1))

-- right after an accepted pay
pub shares_paid : (t : Tally) (b b' : BookView) (x : ℤ × ℤ) → Sound t b → Gives (paid b) (Ok x) b' → SharesArePaid (note_payment x.0 t) b'
shares_paid t b b' x s g =
    let h = asked_ok b (pay_answer b) (paid_book b) b' x (pay_questions b) g in
    let u = note_payment x.0 t in
    let after = sound_paid t b x.0 s (ap (λ y. y.0) h.1) in
    let above = after.total_above (posted_is_not_draft b.state h.0.0) in
    let same = total_shared b.money (total_of b.rows) b.rows in
    let shared : EachRow (Shared b.money (total_of (paid_book b).rows)) (paid_book b).rows = rw same (all_shared b.money (total_of b.rows) b.rows b.rows) in
    let by_tally = shares_are u (paid_book b).rows after.rows b.money (money_is u (paid_book b) after) (paid_book b).rows after.rows.figures shared in
    let in_tally : total_of (paid_book b).rows ≡ total u = total_is u (paid_book b).rows after.rows in
    let above_in_tally : pos 0 <ℤ total u = omega (arith, ints) in
    let bounds = till_of_shares (paid_book b) above shared in
    rw h.2 (record {
      paid_is_the_share = by_tally;
      share_is_rounded_down = rounded_each u above_in_tally (paid_book b).rows by_tally;
      total_is_above_zero = above_in_tally;
      till_is_not_negative = bounds.0;
      till_is_fewer_cents_than_rows = bounds.1;
    })
  where
    rounded_each : (u : Tally) → pos 0 <ℤ total u → (rows : List RowView) → EachRow (λ r. r.paid ≡ tally_share u r.project) rows → EachRow (λ r. LargestNotAbove (money_left u *ℤ column u r.project) (unsigned (total u)) r.paid) rows
    rounded_each u above [] e = tt
    rounded_each u above (r ∷ rs) e = (rw e.0 (share_rounds_down (money_left u) (total u) (column u r.project) above), rounded_each u above rs e.1)
