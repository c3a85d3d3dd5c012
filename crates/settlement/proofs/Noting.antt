-- Dollars noted for a project with a row: in the tally, on its row, and on no other.
use Rattle.std.proofs.Common.{◌≡◌, ℕ, true, false, eqb, List, ℤ, ◌+ℤ◌, Some, sym, refl, ap, ◌∙◌, arith}
use Rattle.std.proofs.lemmas.Bool.{and_from, and_left, and_right, both_ways, cond-false, cond-true, eq-eqb, ne_eqb}
use Rattle.settlement.specs.declared.account.Filed.{Filed}
use Rattle.settlement.specs.Rules.{sum_over}
use Rattle.settlement.specs.Books.{BookView, RowView, has_row, on_row, sum_of_paid, with_filed}
use Rattle.settlement.specs.Tally.{Filings, Notes, Past, Tally, with_note}
use Rattle.settlement.proofs.Invariants.{MeteredAgrees, NoneLater, RowAgrees, RowsAgree}
use Rattle.settlement.proofs.Rows.{distinct_on_row, each_on_row, has_on_row, projects_on_row, sum_on_row}

-- a note elsewhere, there, and in later years
pub note_elsewhere : (y p q : ℕ) (x : ℤ) (notes : Notes) → (p ≡ q → ⊥) → with_note y p x notes y q ≡ notes y q
note_elsewhere y p q x notes ne = cond-false _ _ _ (and_right (eqb y y) (eqb p q) (ne_eqb p q ne))

pub note_there : (y p q : ℕ) (x : ℤ) (notes : Notes) → q ≡ p → Some x ≡ with_note y p x notes y q
note_there y p q x notes e = sym (cond-true _ _ _ (and_from (eqb y y) (eqb p q) (eq-eqb y y refl) (eq-eqb p q (sym e))))

pub note_later : (y p : ℕ) (x : ℤ) (notes : Notes) → NoneLater y notes → NoneLater y (with_note y p x notes)
note_later y p x notes none z q h = cond-false _ _ _ (and_left (eqb y z) (eqb p q) (ne_eqb y z (λ same. omega arith))) ∙ none z q h

apart : (p q : ℕ) (rows : List RowView) → has_row p rows ≡ true → has_row q rows ≡ false → p ≡ q → ⊥
apart p q rows here none e = both_ways (has_row q rows) none (rw (← e) here)

module _ (year : ℕ) (payments : ℤ) (filings noted : Filings) (projects : List ℕ) (past : Past) (rows : List RowView) (k : RowsAgree year payments filings projects past rows) where
  -- the filings differ at one project only, and its row is changed alike
  pub rows_noted : (p : ℕ) (change : Filed → Filed) → has_row p rows ≡ true →
      ((r : RowView) → RowAgrees year filings past.accounts r → r.project ≡ p → RowAgrees year noted past.accounts (with_filed change r)) →
      ((q : ℕ) → (p ≡ q → ⊥) → (noted.requirements year q ≡ filings.requirements year q) × (noted.actuals year q ≡ filings.actuals year q)) →
      NoneLater year noted.requirements → NoneLater year noted.actuals →
      RowsAgree year payments noted projects past (on_row p (with_filed change) rows)
  rows_noted p change here at_project elsewhere no_requirements no_actuals = record {
    same_projects = projects_on_row (with_filed change) (λ r. refl) p rows ∙ k.same_projects;
    figures = each_on_row (with_filed change) (λ r. refl) p (RowAgrees year filings past.accounts) (RowAgrees year noted past.accounts) at_project
        (λ r h ne. let same = elsewhere r.project (λ e. ne (sym e)) in (h.0, h.1 ∙ sym same.0, h.2 ∙ sym same.1))
        rows k.distinct k.figures;
    distinct = distinct_on_row (with_filed change) (λ r. refl) p rows k.distinct;
    unknown = λ q e.
        let none = sym (has_on_row (with_filed change) (λ r. refl) p q rows) ∙ e in
        let u = k.unknown q none in
        let same = elsewhere q (apart p q rows here none) in
        (same.0 ∙ u.0, same.1 ∙ u.1, u.2, u.3);
    later_requirements = no_requirements;
    later_actuals = no_actuals;
    paid_out = k.paid_out ∙ ap (λ s. sum_over past.receipts projects +ℤ s) (sym (sum_on_row p (with_filed change) (λ r. r.paid) (λ r. refl) rows));
  }

-- rows with the same sum of paid, and a tally that meters the same
pub metered_rows : (t u : Tally) (b b' : BookView) → MeteredAgrees t b → u.year ≡ t.year → u.metered ≡ t.metered → u.payments ≡ t.payments → b'.year ≡ b.year → b'.state ≡ b.state → b'.money ≡ b.money → b'.held ≡ b.held → sum_of_paid b'.rows ≡ sum_of_paid b.rows → MeteredAgrees u b'
metered_rows t u b b' a year metered payments year' state money held paid = record {
  years = year ∙ (a.years ∙ sym year');
  held = λ pair. rw (metered, year, held) (a.held pair);
  rate = λ e. rw (metered, year, state) (a.rate (rw state at e));
  early = rw (metered, year, state) a.early;
  balance = rw (metered, payments, money, paid) a.balance;
}
