-- What holds of a tally and a book after every call.
use Rattle.std.proofs.Common.{◌≡◌, ℕ, ◌+◌, ◌<◌, ◌≤◌, true, false, List, [], ◌∷◌, ℤ, pos, ◌+ℤ◌, nat_abs, ◌<ℤ◌, None, sym, refl, ap, ◌∙◌, arith}
use Rattle.std.proofs.lemmas.Int.{ints}
use Rattle.journals.specs.Journal.{Pair}
use Rattle.settlement.specs.declared.account.Account.{Account}
use Rattle.settlement.specs.declared.state.State.{State}
use Rattle.settlement.specs.declared.state.State.TheVariants.{Draft, Posted}
use Rattle.settlement.specs.Rules.{cents, column_16, nothing_due, outstanding, share, sum_over}
use Rattle.settlement.specs.Books.{BookView, RowView, column_of, has_row, is_draft, is_posted, rate_of, sum_of_paid, total_of}
use Rattle.settlement.specs.Balance.{ChargesEqualPaymentsPlusTill, EachRow}
use Rattle.settlement.specs.Drafting.{opened}
use Rattle.settlement.specs.Tally.{Filings, Notes, Past, Tally, closed_actuals, column, money_left, nothing_noted, reading_at, tally_share, total}
use Rattle.settlement.proofs.Readings.{AllBefore}
use Rattle.settlement.proofs.Rows.{Distinct, each_sum, projects_of}
use Rattle.settlement.proofs.Sums.{sum_map}

-- no reading is noted for this year or a later one
abbrev pub first_free : State → ℕ → ℕ
first_free Draft year = year
first_free (Posted rate) year = year + 1

-- what was metered is what the journal holds, at the posted rate, and the charges balance
pub record MeteredAgrees (t : Tally) (b : BookView) : Type 0 where
  pub years : t.year ≡ b.year
  pub held : (pair : Pair) → reading_at t.year pair t.metered.readings ≡ b.held pair
  pub rate : is_posted b.state ≡ true → t.metered.rates t.year ≡ rate_of b.state
  pub early : AllBefore (first_free b.state t.year) t.metered.readings
  pub balance : ChargesEqualPaymentsPlusTill t b

-- a row has its project's account and what is noted for its project this year
abbrev pub RowAgrees : ℕ → Filings → (ℕ → Account) → RowView → Type 0
RowAgrees year filings accounts r =
    (r.account ≡ accounts r.project)
    × (r.filed.requirement ≡ filings.requirements year r.project)
    × (r.filed.actual ≡ filings.actuals year r.project)

-- nothing is noted for a project without a row
abbrev pub Unknown : ℕ → Filings → Past → ℕ → Type 0
Unknown year filings past p = (filings.requirements year p ≡ None) × (filings.actuals year p ≡ None) × (past.accounts p ≡ nothing_due) × (past.receipts p ≡ pos 0)

abbrev pub NoneLater : ℕ → Notes → Type 0
NoneLater year notes = (y p : ℕ) → year < y → notes y p ≡ None

pub record RowsAgree (year : ℕ) (payments : ℤ) (filings : Filings) (projects : List ℕ) (past : Past) (rows : List RowView) : Type 0 where
  pub same_projects : projects_of rows ≡ projects
  pub figures : EachRow (RowAgrees year filings past.accounts) rows
  pub distinct : Distinct rows
  pub unknown : (p : ℕ) → has_row p rows ≡ false → Unknown year filings past p
  pub later_requirements : NoneLater year filings.requirements
  pub later_actuals : NoneLater year filings.actuals
  pub paid_out : payments ≡ (sum_over past.receipts projects +ℤ sum_of_paid rows)

abbrev pub RowsAgreeWith : Tally → List RowView → Type 0
RowsAgreeWith t rows = RowsAgree t.year t.payments t.filings t.projects t.past rows

-- every year of the list is before this one
abbrev pub YearsBefore : ℕ → List ℕ → Type 0
YearsBefore year [] = Unit {0}
YearsBefore year (y ∷ ys) = (y < year) × YearsBefore year ys

-- every project's closed years, in the tally alone
pub record Lifetimes (t : Tally) : Type 0 where
  pub closed_before : YearsBefore t.year t.past.years
  pub adds_up : (p : ℕ) → (t.past.receipts p +ℤ outstanding (t.past.accounts p)) ≡ (cents (closed_actuals t p) +ℤ t.past.interest p)
  pub kept_small : (p : ℕ) → nat_abs (t.past.accounts p).kept ≤ 50

pub record Sound (t : Tally) (b : BookView) : Type 0 where
  pub metered : MeteredAgrees t b
  pub rows : RowsAgreeWith t b.rows
  pub lifetimes : Lifetimes t
  pub total_above : is_draft b.state ≡ false → pos 0 <ℤ total_of b.rows

pub sound_opened : (year : ℕ) → Sound (nothing_noted year) (opened year)
sound_opened year = record {
  metered = record { years = refl; held = λ pair. refl; rate = λ e. refl; early = tt; balance = refl };
  rows = record { same_projects = refl; figures = tt; distinct = tt; unknown = λ p e. (refl, refl, refl, refl); later_requirements = λ y p h. refl; later_actuals = λ y p h. refl; paid_out = refl };
  lifetimes = record { closed_before = tt; adds_up = λ p. refl; kept_small = λ p. omega arith };
  total_above = λ e. let n : ◌≡◌ {A = ℕ} 0 1 = cc in absurd (omega arith);
}

-- lifetimes look at the year, the actuals and the past alone
pub lifetimes_same : (t u : Tally) → t.year ≡ u.year → t.filings.actuals ≡ u.filings.actuals → t.past ≡ u.past → Lifetimes t → Lifetimes u
lifetimes_same t u year actuals past l = record {
  closed_before = rw (← past, ← year) l.closed_before;
  adds_up = λ p. rw (← past, ← actuals) (l.adds_up p);
  kept_small = λ p. rw (← past) (l.kept_small p);
}

pub posted_is_not_draft : (s : State) → is_posted s ≡ true → is_draft s ≡ false
posted_is_not_draft Draft e = let n : ◌≡◌ {A = ℕ} 0 1 = cc in absurd (omega arith)
posted_is_not_draft (Posted r) e = refl

-- the book's money, columns, total and shares are the tally's
pub money_is : (t : Tally) (b : BookView) → Sound t b → b.money ≡ money_left t
money_is t b s =
    let balance = s.metered.balance in
    let paid = s.rows.paid_out in
    omega (arith, ints)

module _ (t : Tally) (rows : List RowView) (k : RowsAgreeWith t rows) where
  abbrev InTally : RowView → Type 0
  InTally r = RowAgrees t.year t.filings t.past.accounts r

  column_is : (r : RowView) → InTally r → column_of r ≡ column t r.project
  column_is r h = ap (λ a. column_16 r.filed.requirement a) h.0 ∙ ap (λ o. column_16 o (t.past.accounts r.project)) h.1

  columns_are : (rs : List RowView) → EachRow InTally rs → EachRow (λ r. column_of r ≡ column t r.project) rs
  columns_are [] e = tt
  columns_are (r ∷ rs) e = (column_is r e.0, columns_are rs e.1)

  pub total_is : total_of rows ≡ total t
  total_is =
      each_sum column_of (λ r. column t r.project) rows (columns_are rows k.figures)
      ∙ (sym (sum_map (column t) (λ r. r.project) rows) ∙ ap (sum_over (column t)) k.same_projects)

  module _ (money : ℤ) (same : money ≡ money_left t) where
    share_is : (r : RowView) → InTally r → share money (total_of rows) (column_of r) ≡ tally_share t r.project
    share_is r h =
        ap (λ m. share m (total_of rows) (column_of r)) same
        ∙ (ap (λ n. share (money_left t) n (column_of r)) total_is ∙ ap (λ c. share (money_left t) (total t) c) (column_is r h))

    pub shares_are : (rs : List RowView) → EachRow InTally rs → EachRow (λ r. r.paid ≡ share money (total_of rows) (column_of r)) rs → EachRow (λ r. r.paid ≡ tally_share t r.project) rs
    shares_are [] e s = tt
    shares_are (r ∷ rs) e s = (s.0 ∙ share_is r e.0, shares_are rs e.1 s.1)
