-- A close keeps the tally and the book sound, and its interest is fair.
use Rattle.std.proofs.Common.{◌≡◌, ℕ, ◌+◌, ◌≤◌, true, List, [], ◌∷◌, map, ℤ, pos, ◌+ℤ◌, ◌-ℤ◌, ◌*ℤ◌, ◌<ℤ◌, Some, None, Ok, Option, unwrap_or, sym, refl, ap, ◌∙◌, arith}
use Rattle.std.proofs.lemmas.Int.{ints}
use Rattle.std.proofs.lemmas.Bool.{and_parts}
use Rattle.std.specs.Option.{option_map}
use Rattle.std.specs.List.{list_all}
use Rattle.rates.specs.Factor.{sum_of}
use Rattle.rates.specs.Rates.{january}
use Rattle.settlement.specs.declared.state.State.{State}
use Rattle.settlement.specs.declared.state.State.TheVariants.{Draft, Posted}
use Rattle.settlement.specs.Rules.{Figures, Terms, cents, column_16, difference, figures, interest, interest_scale, nothing_due, settled, share, sum_over}
use Rattle.settlement.specs.Books.{BookView, RowView, column_of, is_posted, sum_of_paid, total_of}
use Rattle.settlement.specs.Closing.{close_questions, closed, closed_book, closed_row, figures_of, has_its_share}
use Rattle.settlement.specs.Lists.{Lists, terms_at}
use Rattle.settlement.specs.Balance.{EachRow, InterestIsFair, difference_in, interest_borne}
use Rattle.settlement.specs.Outcomes.{Gives}
use Rattle.settlement.specs.Tally.{Tally, actual_in, closed_actuals, money_left, next_year, tally_figures, tally_share, total}
use Rattle.settlement.proofs.Asking.{asked_ok}
use Rattle.settlement.proofs.Interest.{ConstantOnEachSign, interest_grows, interest_sign, kept_within_fifty, settled_nothing}
use Rattle.settlement.proofs.Invariants.{Lifetimes, MeteredAgrees, RowAgrees, RowsAgreeWith, Sound, Unknown, YearsBefore, first_free, money_is, posted_is_not_draft, shares_are, total_is}
use Rattle.settlement.proofs.Paying.{Shared}
use Rattle.settlement.proofs.Ranges.{equal_is}
use Rattle.settlement.proofs.Readings.{before_more, none_noted}
use Rattle.settlement.proofs.Rows.{distinct_mapped, each_sum, has_mapped, projects_mapped}
use Rattle.settlement.proofs.Shares.{share_of_nothing}
use Rattle.settlement.proofs.Sums.{sum_map, sum_plus}

-- question 17, row by row
pub each_has_its_share : (money total : ℤ) (rows : List RowView) → list_all (has_its_share money total) rows ≡ true → EachRow (Shared money total) rows
each_has_its_share money total [] e = tt
each_has_its_share money total (r ∷ rs) e =
    let parts = and_parts (has_its_share money total r) (list_all (has_its_share money total) rs) e in
    (equal_is r.paid (share money total (column_of r)) parts.0, each_has_its_share money total rs parts.1)

within_year : (s : State) (year : ℕ) → first_free s year ≤ year + 1
within_year Draft year = omega arith
within_year (Posted r) year = omega arith

nothing_paid : (work : RowView → Figures) (rows : List RowView) → sum_of_paid (map (closed_row work) rows) ≡ pos 0
nothing_paid work [] = refl
nothing_paid work (r ∷ rs) = let rest = nothing_paid work rs in omega (arith, ints)

metered_closed : (t : Tally) (b : BookView) (terms : Terms) (work : RowView → Figures) → MeteredAgrees t b → MeteredAgrees (next_year terms t) (closed_book work b)
metered_closed t b terms work a =
    let before = before_more (first_free b.state t.year) (t.year + 1) t.metered.readings (within_year b.state t.year) a.early in
    record {
      years = ap (λ y. y + 1) a.years;
      held = λ pair. none_noted (t.year + 1) pair t.metered.readings before;
      rate = λ e. let n : ◌≡◌ {A = ℕ} 0 1 = cc in absurd (omega arith);
      early = before;
      balance = a.balance ∙ ap (λ z. t.payments +ℤ z) (omega (arith, ints, nothing_paid work b.rows));
    }

module _ (t : Tally) (terms : Terms) where
  -- a row with its share is settled as its account
  settled_is : (r : RowView) → RowAgrees t.year t.filings t.past.accounts r → r.paid ≡ tally_share t r.project → settled (figures_of terms r) r.account ≡ settled (tally_figures t terms r.project) (t.past.accounts r.project)
  settled_is r h paid =
      ap (λ o. settled (figures terms (unwrap_or o (pos 0)) r.account r.paid) r.account) h.2
      ∙ (ap (λ a. settled (figures terms (actual_in t r.project t.year) a r.paid) a) h.0
      ∙ ap (λ p. settled (figures terms (actual_in t r.project t.year) (t.past.accounts r.project) p) (t.past.accounts r.project)) paid)

  module _ (no_requirement : (p : ℕ) → t.filings.requirements (t.year + 1) p ≡ None) (no_actual : (p : ℕ) → t.filings.actuals (t.year + 1) p ≡ None) where
    figures_closed : (rows : List RowView) → EachRow (RowAgrees t.year t.filings t.past.accounts) rows → EachRow (λ r. r.paid ≡ tally_share t r.project) rows → EachRow (RowAgrees (t.year + 1) t.filings (next_year terms t).past.accounts) (map (closed_row (figures_of terms)) rows)
    figures_closed [] e s = tt
    figures_closed (r ∷ rs) e s = ((settled_is r e.0 s.0, sym (no_requirement r.project), sym (no_actual r.project)), figures_closed rs e.1 s.1)

    -- a project without a row gets and bears nothing
    unknown_closed : (p : ℕ) → pos 0 <ℤ total t → Unknown t.year t.filings t.past p → Unknown (t.year + 1) t.filings (next_year terms t).past p
    unknown_closed p above u =
        let no_share : tally_share t p ≡ pos 0 = ap (λ o. share (money_left t) (total t) (column_16 o (t.past.accounts p))) u.0 ∙ share_of_nothing (money_left t) (total t) above in
        let received = u.3 in (
          no_requirement p,
          no_actual p,
          ap (λ o. settled (figures terms (unwrap_or o (pos 0)) (t.past.accounts p) (tally_share t p)) (t.past.accounts p)) u.1
              ∙ (ap (λ a. settled (figures terms (pos 0) a (tally_share t p)) a) u.2
              ∙ (ap (λ x. settled (figures terms (pos 0) nothing_due x) nothing_due) no_share ∙ settled_nothing terms)),
          omega (arith, ints, no_share, received),
        )

    rows_closed : (rows : List RowView) → pos 0 <ℤ total t → RowsAgreeWith t rows → EachRow (λ r. r.paid ≡ tally_share t r.project) rows → RowsAgreeWith (next_year terms t) (map (closed_row (figures_of terms)) rows)
    rows_closed rows above k s =
        let work = figures_of terms in
        let received = sum_plus t.past.receipts (tally_share t) t.projects in
        let unpaid = nothing_paid work rows in
        let paid : sum_of_paid rows ≡ sum_over (tally_share t) t.projects =
        each_sum (λ r. r.paid) (λ r. tally_share t r.project) rows s
        ∙ (sym (sum_map (tally_share t) (λ r. r.project) rows) ∙ ap (sum_over (tally_share t)) k.same_projects) in
        let before = k.paid_out in
        record {
          same_projects = projects_mapped (closed_row work) (λ r. refl) rows ∙ k.same_projects;
          figures = figures_closed rows k.figures s;
          distinct = distinct_mapped (closed_row work) (λ r. refl) rows k.distinct;
          unknown = λ p e. unknown_closed p above (k.unknown p (sym (has_mapped (closed_row work) (λ r. refl) p rows) ∙ e));
          later_requirements = λ y p h. k.later_requirements y p (omega arith);
          later_actuals = λ y p h. k.later_actuals y p (omega arith);
          paid_out = omega (arith, ints, received, unpaid, paid);
        }

-- one close: the difference is in the true-up and the kept cents, with its interest
close_adds_up : (received now next kept actuals borne actual paid more up : ℤ) →
    (received +ℤ (cents (now +ℤ next) +ℤ kept)) ≡ (cents actuals +ℤ borne) →
    ((received +ℤ paid) +ℤ (cents (next +ℤ up) +ℤ (((difference actual now paid +ℤ more) +ℤ kept) -ℤ cents up))) ≡ (cents (actual +ℤ actuals) +ℤ (borne +ℤ more))
close_adds_up received now next kept actuals borne actual paid more up e =
    let before = simp hundreds at e in
    simp hundreds (in_cents received (pos 100 *ℤ now) (pos 100 *ℤ next) kept (pos 100 *ℤ actuals) borne (pos 100 *ℤ actual) paid more (pos 100 *ℤ up) before)
  where
    hundreds : (x y : ℤ) → (pos 100 *ℤ (x +ℤ y)) ≡ ((pos 100 *ℤ x) +ℤ (pos 100 *ℤ y))
    hundreds x y = omega (arith, ints)

    in_cents : (received now next kept actuals borne actual paid more up : ℤ) → (received +ℤ ((now +ℤ next) +ℤ kept)) ≡ (actuals +ℤ borne) → ((received +ℤ paid) +ℤ ((next +ℤ up) +ℤ (((((actual +ℤ now) -ℤ paid) +ℤ more) +ℤ kept) -ℤ up))) ≡ ((actual +ℤ actuals) +ℤ (borne +ℤ more))
    in_cents received now next kept actuals borne actual paid more up e = omega (arith, ints)

years_more : (x y : ℕ) (zs : List ℕ) → x ≤ y → YearsBefore x zs → YearsBefore y zs
years_more x y [] h e = tt
years_more x y (z ∷ zs) h e = (omega (arith, e.0), years_more x y zs h e.1)

lifetimes_closed : (t : Tally) (terms : Terms) → Lifetimes t → Lifetimes (next_year terms t)
lifetimes_closed t terms l = record {
  closed_before = (omega arith, years_more t.year (t.year + 1) t.past.years (omega arith) l.closed_before);
  adds_up = λ p.
      let account = t.past.accounts p in
      let f = tally_figures t terms p in
      close_adds_up (t.past.receipts p) account.due_now account.due_next account.kept (closed_actuals t p) (t.past.interest p) (actual_in t p t.year) (tally_share t p) f.interest f.true_up (l.adds_up p);
  kept_small = λ p. kept_within_fifty (((tally_figures t terms p).difference +ℤ (tally_figures t terms p).interest) +ℤ (t.past.accounts p).kept);
}

sound_closed : (t : Tally) (b : BookView) (terms : Terms) → Sound t b → is_posted b.state ≡ true → list_all (has_its_share b.money (total_of b.rows)) b.rows ≡ true → Sound (next_year terms t) (closed_book (figures_of terms) b)
sound_closed t b terms s posted paid =
    let k = s.rows in
    let above = s.total_above (posted_is_not_draft b.state posted) in
    let in_tally : total_of b.rows ≡ total t = total_is t b.rows k in
    let shares = shares_are t b.rows k b.money (money_is t b s) b.rows k.figures (each_has_its_share b.money (total_of b.rows) b.rows paid) in
    record {
      metered = metered_closed t b terms (figures_of terms) s.metered;
      rows = rows_closed t terms (λ p. k.later_requirements (t.year + 1) p (omega arith)) (λ p. k.later_actuals (t.year + 1) p (omega arith)) b.rows (omega (arith, ints)) k shares;
      lifetimes = lifetimes_closed t terms s.lifetimes;
      total_above = λ e. let n : ◌≡◌ {A = ℕ} 0 1 = cc in absurd (omega arith);
    }

pub sound_close : (months : ℕ) (t : Tally) (b b' : BookView) (lists : Lists) (u : Unit {0}) → Sound t b → Gives (closed months b lists) (Ok u) b' → Sound (next_year (terms_at months lists t.year) t) b'
sound_close months t b b' lists u s g =
    let terms = terms_at months lists b.year in
    let h = asked_ok b tt (closed_book (figures_of terms) b) b' u (close_questions months b lists) g in
    let same : terms_at months lists t.year ≡ terms = ap (terms_at months lists) s.metered.years in
    rw (h.2, same) (sound_closed t b terms s h.0.0 h.0.1.1.0)

-- one factor prices every difference
one_factor : (o : Option ℕ) → ConstantOnEachSign (unwrap_or (option_map (λ factor owed. factor) o) (λ owed. 0))
one_factor None = record { below = λ c d _ _. refl; above = λ c d _ _. refl }
one_factor (Some factor) = record { below = λ c d _ _. refl; above = λ c d _ _. refl }

interest_fair : (t : Tally) (terms : Terms) → ConstantOnEachSign terms → (p q : ℕ) → InterestIsFair t (next_year terms t) p q
interest_fair t terms steady p q =
    let borne : ℕ → ℤ = λ p. interest interest_scale terms (difference_in t p) in
    let more : (p : ℕ) → interest_borne t (next_year terms t) p ≡ borne p = λ p. added (t.past.interest p) (borne p) in
    let more_p = more p in
    let more_q = more q in
    let signs = interest_sign interest_scale (omega arith) terms (difference_in t p) in
    record {
      equal_differences_bear_equal_interest = λ e. more_p ∙ (ap (interest interest_scale terms) e ∙ sym more_q);
      a_larger_difference_bears_no_less = λ h. rw (more_p, more_q) (interest_grows interest_scale (omega arith) terms steady (difference_in t p) (difference_in t q) h);
      interest_on_a_credit_is_no_debit = λ h. rw more_p (signs.0 h);
      interest_on_a_debit_is_no_credit = λ h. rw more_p (signs.1 h);
    }
  where
    added : (x y : ℤ) → ((x +ℤ y) -ℤ x) ≡ y
    added x y = omega (arith, ints)

pub close_is_fair : (months : ℕ) (t : Tally) (lists : Lists) (p q : ℕ) → InterestIsFair t (next_year (terms_at months lists t.year) t) p q
close_is_fair months t lists p q = interest_fair t (terms_at months lists t.year) (one_factor (sum_of lists.rates (january t.year) months)) p q
