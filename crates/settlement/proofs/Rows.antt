-- Rows with one row to a project: what holds of each, and what a change of one or of all leaves.
use Rattle.std.proofs.Common.{◌≡◌, ℕ, Bool, true, false, ◌||◌, eqb, List, [], ◌∷◌, ◌++◌, map, ℤ, ◌+ℤ◌, sym, refl, ap, ◌∙◌, ⊎_elim, arith}
use Rattle.std.proofs.lemmas.Int.{ints}
use Rattle.std.proofs.lemmas.Bool.{cases_Bool, eqb-true, eqb-false, eq-eqb, ne_eqb, or_parts, or_from, or_right}
use Rattle.settlement.specs.Books.{RowView, has_row, new_row, on_row, with_row_for}
use Rattle.settlement.specs.Balance.{EachRow}
use Rattle.settlement.specs.Rules.{sum_over}
use Rattle.settlement.specs.Tally.{is_in}
use Rattle.settlement.proofs.Sums.{sum_push}

abbrev pub projects_of : List RowView → List ℕ
projects_of rows = map (λ r. r.project) rows

-- no project has two rows
abbrev pub Distinct : List RowView → Type 0
Distinct [] = Unit {0}
Distinct (r ∷ rs) = (has_row r.project rs ≡ false) × Distinct rs

pub each_push : (P : RowView → Type 0) (rows : List RowView) (x : RowView) → EachRow P rows → P x → EachRow P (rows ++ x ∷ [])
each_push P [] x e h = (h, tt)
each_push P (r ∷ rs) x e h = (e.0, each_push P rs x e.1 h)

-- the rows of other projects
each_other : (p : ℕ) (P Q : RowView → Type 0) → ((r : RowView) → P r → (r.project ≡ p → ⊥) → Q r) → (rows : List RowView) → has_row p rows ≡ false → EachRow P rows → EachRow Q rows
each_other p P Q f [] none e = tt
each_other p P Q f (r ∷ rs) none e =
    let parts = or_parts (eqb r.project p) (has_row p rs) none in
    (f r e.0 (eqb-false r.project p parts.0), each_other p P Q f rs parts.1 e.1)

pub each_sum : (f g : RowView → ℤ) (rows : List RowView) → EachRow (λ r. f r ≡ g r) rows → sum_over f rows ≡ sum_over g rows
each_sum f g [] e = refl
each_sum f g (r ∷ rs) e = ap (λ z. z +ℤ sum_over f rs) e.0 ∙ ap (λ z. g r +ℤ z) (each_sum f g rs e.1)

-- a change of every row that keeps its project
module _ (change : RowView → RowView) (same : (r : RowView) → (change r).project ≡ r.project) where
  pub each_mapped : (P Q : RowView → Type 0) → ((r : RowView) → P r → Q (change r)) → (rows : List RowView) → EachRow P rows → EachRow Q (map change rows)
  each_mapped P Q f [] e = tt
  each_mapped P Q f (r ∷ rs) e = (f r e.0, each_mapped P Q f rs e.1)

  pub projects_mapped : (rows : List RowView) → projects_of (map change rows) ≡ projects_of rows
  projects_mapped [] = refl
  projects_mapped (r ∷ rs) = ap (λ p. p ∷ projects_of (map change rs)) (same r) ∙ ap (λ ps. r.project ∷ ps) (projects_mapped rs)

  pub has_mapped : (p : ℕ) (rows : List RowView) → has_row p (map change rows) ≡ has_row p rows
  has_mapped p [] = refl
  has_mapped p (r ∷ rs) = ap (λ n. eqb n p || has_row p (map change rs)) (same r) ∙ ap (λ b. eqb r.project p || b) (has_mapped p rs)

  pub distinct_mapped : (rows : List RowView) → Distinct rows → Distinct (map change rows)
  distinct_mapped [] d = tt
  distinct_mapped (r ∷ rs) d = (ap (λ n. has_row n (map change rs)) (same r) ∙ (has_mapped r.project rs ∙ d.0), distinct_mapped rs d.1)

  -- the same change of one project's row
  module _ (p : ℕ) where
    pub each_on_row : (P Q : RowView → Type 0) → ((r : RowView) → P r → r.project ≡ p → Q (change r)) → ((r : RowView) → P r → (r.project ≡ p → ⊥) → Q r) → (rows : List RowView) → Distinct rows → EachRow P rows → EachRow Q (on_row p change rows)
    each_on_row P Q here other [] d e = tt
    each_on_row P Q here other (r ∷ rs) d e =
        let rest = each_on_row P Q here other rs d.1 e.1 in
        ⊎_elim
        (λ (h : eqb r.project p ≡ true).
        let is : r.project ≡ p = eqb-true r.project p h in
        let none : has_row p rs ≡ false = rw (← is) d.0 in
        simp h (here r e.0 is, each_other p P Q other rs none e.1))
        (λ (h : eqb r.project p ≡ false). simp h (other r e.0 (eqb-false r.project p h), rest))
        (cases_Bool (eqb r.project p))

    pub has_on_row : (q : ℕ) (rows : List RowView) → has_row q (on_row p change rows) ≡ has_row q rows
    has_on_row q [] = refl
    has_on_row q (r ∷ rs) =
        let rest = has_on_row q rs in
        ⊎_elim
        (λ (h : eqb r.project p ≡ true). simp h (ap (λ n. eqb n q || has_row q rs) (same r)))
        (λ (h : eqb r.project p ≡ false). simp h (ap (λ b. eqb r.project q || b) rest))
        (cases_Bool (eqb r.project p))

    pub distinct_on_row : (rows : List RowView) → Distinct rows → Distinct (on_row p change rows)
    distinct_on_row [] d = tt
    distinct_on_row (r ∷ rs) d =
        let rest = distinct_on_row rs d.1 in
        ⊎_elim
        (λ (h : eqb r.project p ≡ true). simp h (ap (λ n. has_row n rs) (same r) ∙ d.0, d.1))
        (λ (h : eqb r.project p ≡ false). simp h (has_on_row r.project rs ∙ d.0, rest))
        (cases_Bool (eqb r.project p))

    pub projects_on_row : (rows : List RowView) → projects_of (on_row p change rows) ≡ projects_of rows
    projects_on_row [] = refl
    projects_on_row (r ∷ rs) =
        let rest = projects_on_row rs in
        ⊎_elim
        (λ (h : eqb r.project p ≡ true). simp h (ap (λ d. d ∷ projects_of rs) (same r)))
        (λ (h : eqb r.project p ≡ false). simp h (ap (λ ds. r.project ∷ ds) rest))
        (cases_Bool (eqb r.project p))

-- a sum that the change of a row leaves
pub sum_on_row : (p : ℕ) (change : RowView → RowView) (f : RowView → ℤ) → ((r : RowView) → f (change r) ≡ f r) → (rows : List RowView) → sum_over f (on_row p change rows) ≡ sum_over f rows
sum_on_row p change f keeps [] = refl
sum_on_row p change f keeps (r ∷ rs) =
    let rest = sum_on_row p change f keeps rs in
    ⊎_elim
    (λ (h : eqb r.project p ≡ true). simp h (ap (λ z. z +ℤ sum_over f rs) (keeps r)))
    (λ (h : eqb r.project p ≡ false). simp h (ap (λ z. f r +ℤ z) rest))
    (cases_Bool (eqb r.project p))

-- a row more
or_false : (b : Bool) → (b || false) ≡ b
or_false true = refl
or_false false = refl

or_assoc : (a b c : Bool) → (a || (b || c)) ≡ ((a || b) || c)
or_assoc true b c = refl
or_assoc false b c = refl

pub has_push : (q : ℕ) (rows : List RowView) (x : RowView) → has_row q (rows ++ x ∷ []) ≡ (has_row q rows || eqb x.project q)
has_push q [] x = or_false (eqb x.project q)
has_push q (r ∷ rs) x = ap (λ b. eqb r.project q || b) (has_push q rs x) ∙ or_assoc (eqb r.project q) (has_row q rs) (eqb x.project q)

pub distinct_push : (rows : List RowView) (x : RowView) → Distinct rows → has_row x.project rows ≡ false → Distinct (rows ++ x ∷ [])
distinct_push [] x d none = (refl, tt)
distinct_push (r ∷ rs) x d none =
    let parts = or_parts (eqb r.project x.project) (has_row x.project rs) none in
    let ne = eqb-false r.project x.project parts.0 in
    (has_push r.project rs x ∙ or_from (has_row r.project rs) (eqb x.project r.project) d.0 (ne_eqb x.project r.project (λ e. ne (sym e))), distinct_push rs x d.1 parts.1)

pub has_row_for : (p : ℕ) (rows : List RowView) → has_row p (with_row_for p rows) ≡ true
has_row_for p rows =
    ⊎_elim
    (λ (h : has_row p rows ≡ true). simp h)
    (λ (h : has_row p rows ≡ false). simp h (has_push p rows (new_row p) ∙ or_right _ _ (eq-eqb p p refl)))
    (cases_Bool (has_row p rows))

pub paid_with_row_for : (p : ℕ) (rows : List RowView) → sum_over (λ r. r.paid) (with_row_for p rows) ≡ sum_over (λ r. r.paid) rows
paid_with_row_for p rows =
    let pushed = sum_push (λ (r : RowView). r.paid) rows (new_row p) in
    ⊎_elim
    (λ (here : has_row p rows ≡ true). simp here)
    (λ (else : has_row p rows ≡ false). simp else (pushed ∙ omega (arith, ints)))
    (cases_Bool (has_row p rows))

pub is_in_projects : (p : ℕ) (rows : List RowView) → is_in p (projects_of rows) ≡ has_row p rows
is_in_projects p [] = refl
is_in_projects p (r ∷ rs) = ap (λ b. eqb r.project p || b) (is_in_projects p rs)
