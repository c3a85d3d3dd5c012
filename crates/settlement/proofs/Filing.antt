-- A file keeps the tally and the book sound.
use Rattle.std.proofs.Common.{◌≡◌, ℕ, true, false, List, [], ◌∷◌, ◌++◌, ℤ, Ok, sym, refl, ap, ◌∙◌, ⊎_elim, arith}
use Rattle.std.proofs.lemmas.List.{map_push}
use Rattle.std.proofs.lemmas.Int.{ints}
use Rattle.std.proofs.lemmas.Bool.{cases_Bool, or_parts}
use Rattle.settlement.specs.declared.state.State.{State}
use Rattle.settlement.specs.declared.state.State.TheVariants.{Draft, Posted}
use Rattle.settlement.specs.Rules.{unsigned}
use Rattle.settlement.specs.Books.{BookView, RowView, has_row, is_draft, new_row, with_filed, with_requirement, with_row_for}
use Rattle.settlement.specs.Drafting.{filed, filed_book, file_questions}
use Rattle.settlement.specs.Outcomes.{Gives}
use Rattle.settlement.specs.Tally.{Filings, Past, Tally, is_in, note_requirement, with_project}
use Rattle.settlement.proofs.Asking.{asked_ok}
use Rattle.settlement.proofs.Invariants.{RowAgrees, RowsAgree, Sound, lifetimes_same}
use Rattle.settlement.proofs.Noting.{metered_rows, note_elsewhere, note_later, note_there, rows_noted}
use Rattle.settlement.proofs.Rows.{distinct_push, each_push, has_push, has_row_for, is_in_projects, paid_with_row_for, sum_on_row}
use Rattle.settlement.proofs.Sums.{sum_push}

module _ (year : ℕ) (payments : ℤ) (filings : Filings) (projects : List ℕ) (past : Past) (rows : List RowView) (k : RowsAgree year payments filings projects past rows) where
  -- a row for the project
  row_for : (p : ℕ) → RowsAgree year payments filings (with_project p projects) past (with_row_for p rows)
  row_for p =
      let same : is_in p projects ≡ has_row p rows = ap (is_in p) (sym k.same_projects) ∙ is_in_projects p rows in
      ⊎_elim
      (λ (h : has_row p rows ≡ true). let h' = same ∙ h in simp (h, h') k)
      (λ (h : has_row p rows ≡ false).
      let h' = same ∙ h in
      let none = k.unknown p h in
      let no_payment = sum_push (λ (r : RowView). r.paid) rows (new_row p) in
      let no_receipt = sum_push past.receipts projects p in
      let received = none.3 in
      let before = k.paid_out in
      simp (h, h') (record {
        same_projects = map_push (λ r. r.project) rows (new_row p) ∙ ap (λ ps. ps ++ p ∷ []) k.same_projects;
        figures = each_push (RowAgrees year filings past.accounts) rows (new_row p) k.figures (sym none.2, sym none.0, sym none.1);
        distinct = distinct_push rows (new_row p) k.distinct h;
        unknown = λ q e. k.unknown q (or_parts _ _ (sym (has_push q rows (new_row p)) ∙ e)).0;
        later_requirements = k.later_requirements;
        later_actuals = k.later_actuals;
        paid_out = omega (arith, ints, no_payment, no_receipt, received);
      }))
      (cases_Bool (has_row p rows))

draft_only : (s : State) → is_draft s ≡ true → is_draft s ≡ false → ⊥
draft_only Draft e f = let n : ◌≡◌ {A = ℕ} 0 1 = cc in omega arith
draft_only (Posted r) e f = let n : ◌≡◌ {A = ℕ} 0 1 = cc in omega arith

pub sound_file : (t : Tally) (b b' : BookView) (project requirement : ℤ) (u : Unit {0}) → Sound t b → Gives (filed b project requirement) (Ok u) b' → Sound (note_requirement (unsigned project) requirement t) b'
sound_file t b b' project x u s g =
    let p = unsigned project in
    let requirements = t.filings.requirements in
    let h = asked_ok b tt (filed_book b p x) b' u (file_questions b project x) g in
    let made = row_for t.year t.payments t.filings t.projects t.past b.rows s.rows p in
    let paid = sum_on_row p (with_filed (with_requirement x)) (λ r. r.paid) (λ r. refl) (with_row_for p b.rows) ∙ paid_with_row_for p b.rows in
    rw h.2 (record {
      metered = metered_rows t (note_requirement p x t) b (filed_book b p x) s.metered refl refl refl refl refl refl refl paid;
      rows = rows_noted t.year t.payments t.filings (note_requirement p x t).filings (with_project p t.projects) t.past (with_row_for p b.rows) made p (with_requirement x) (has_row_for p b.rows)
          (λ r h e. (h.0, note_there t.year p r.project x requirements e, h.2))
          (λ q ne. (note_elsewhere t.year p q x requirements ne, refl))
          (note_later t.year p x requirements s.rows.later_requirements) s.rows.later_actuals;
      lifetimes = lifetimes_same t (note_requirement p x t) refl refl refl s.lifetimes;
      total_above = λ e. absurd (draft_only b.state h.0.1.0 e);
    })
