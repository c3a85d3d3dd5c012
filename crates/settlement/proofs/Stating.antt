-- A state keeps the tally and the book sound.
use Rattle.std.proofs.Common.{◌≡◌, ℕ, false, ◌&&◌, eqb, List, [], ◌∷◌, ℤ, pos, ◌+ℤ◌, Some, Ok, unwrap_or, sym, refl, ap, ◌∙◌, arith}
use Rattle.std.proofs.lemmas.Bool.{and_left, cond-false, ne_eqb}
use Rattle.settlement.specs.Rules.{cents, sum_over, unsigned}
use Rattle.settlement.specs.Books.{BookView, column_of, with_actual, with_filed}
use Rattle.settlement.specs.Stating.{state_questions, stated, stated_book}
use Rattle.settlement.specs.Outcomes.{Gives}
use Rattle.settlement.specs.Tally.{Tally, actual_in, note_actual}
use Rattle.settlement.proofs.Asking.{asked_ok}
use Rattle.settlement.proofs.Noting.{metered_rows, note_elsewhere, note_later, note_there, rows_noted}
use Rattle.settlement.proofs.Invariants.{Lifetimes, Sound, YearsBefore}
use Rattle.settlement.proofs.Rows.{sum_on_row}

-- an actual noted for this year is in no closed year
actuals_apart : (t : Tally) (p : ℕ) (x : ℤ) (q : ℕ) (ys : List ℕ) → YearsBefore t.year ys → sum_over (actual_in (note_actual p x t) q) ys ≡ sum_over (actual_in t q) ys
actuals_apart t p x q [] e = refl
actuals_apart t p x q (y ∷ ys) e =
    let before = e.0 in
    let other : (eqb t.year y && eqb p q) ≡ false = and_left _ _ (ne_eqb t.year y (λ same. omega arith)) in
    let here : actual_in (note_actual p x t) q y ≡ actual_in t q y = ap (λ o. unwrap_or o (pos 0)) (cond-false (eqb t.year y && eqb p q) (Some x) (t.filings.actuals y q) other) in
    ap (λ z. z +ℤ sum_over (actual_in (note_actual p x t) q) ys) here ∙ ap (λ z. actual_in t q y +ℤ z) (actuals_apart t p x q ys e.1)

lifetimes_stated : (t : Tally) (p : ℕ) (x : ℤ) → Lifetimes t → Lifetimes (note_actual p x t)
lifetimes_stated t p x l = record {
  closed_before = l.closed_before;
  adds_up = λ q. l.adds_up q ∙ ap (λ z. cents z +ℤ t.past.interest q) (sym (actuals_apart t p x q t.past.years l.closed_before));
  kept_small = l.kept_small;
}

pub sound_state : (t : Tally) (b b' : BookView) (project actual : ℤ) (u : Unit {0}) → Sound t b → Gives (stated b project actual) (Ok u) b' → Sound (note_actual (unsigned project) actual t) b'
sound_state t b b' project x u s g =
    let p = unsigned project in
    let h = asked_ok b tt (stated_book b p x) b' u (state_questions b project x) g in
    let change = with_filed (with_actual x) in
    let actuals = t.filings.actuals in
    let paid = sum_on_row p change (λ r. r.paid) (λ r. refl) b.rows in
    rw h.2 (record {
      metered = metered_rows t (note_actual p x t) b (stated_book b p x) s.metered refl refl refl refl refl refl refl paid;
      rows = rows_noted t.year t.payments t.filings (note_actual p x t).filings t.projects t.past b.rows s.rows p (with_actual x) h.0.1.1.0
          (λ r h e. (h.0, h.1, note_there t.year p r.project x actuals e))
          (λ q ne. (refl, note_elsewhere t.year p q x actuals ne))
          s.rows.later_requirements (note_later t.year p x actuals s.rows.later_actuals);
      lifetimes = lifetimes_stated t p x s.lifetimes;
      total_above = λ e. rw (sum_on_row p change column_of (λ r. refl) b.rows) (s.total_above e);
    })
