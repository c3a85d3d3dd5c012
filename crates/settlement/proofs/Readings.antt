-- A reading noted over another: what is noted then, and what the charges come to.
use Rattle.std.proofs.Common.{◌≡◌, ℕ, ◌<◌, ◌≤◌, true, false, cond, eqb, List, [], ◌∷◌, ℤ, pos, ◌+ℤ◌, Some, None, Option, refl, ap, ⊎_elim, arith}
use Rattle.std.proofs.lemmas.Int.{ints}
use Rattle.std.proofs.lemmas.Bool.{cases_Bool, and_left, and_parts, eqb-true, ne_eqb}
use Rattle.std.proofs.lemmas.Bool.Decides.{nat_tests}
use Rattle.journals.specs.Journal.{Pair, same_pair}
use Rattle.settlement.specs.Rules.{charge, charge_scale, sum_over}
use Rattle.settlement.specs.Tally.{Reading, charge_on, is_for, reading_at, with_rate, with_reading}

-- the charge on what may be noted
abbrev pub charge_if_noted : ℤ → Option ℕ → ℤ
charge_if_noted rate None = pos 0
charge_if_noted rate (Some kwh) = charge charge_scale kwh rate

pub noted_charges : (rates : ℕ → ℤ) (year : ℕ) (pair : Pair) (kwh : ℕ) (rs : List Reading) →
    (sum_over (charge_on rates) (with_reading year pair kwh rs) +ℤ charge_if_noted (rates year) (reading_at year pair rs)) ≡ (sum_over (charge_on rates) rs +ℤ charge charge_scale kwh (rates year))
noted_charges rates year pair kwh [] = omega (arith, ints)
noted_charges rates year pair kwh (r ∷ rs) =
    let rest = noted_charges rates year pair kwh rs in
    ⊎_elim
    (λ (e : is_for year pair r ≡ true).
    let same : r.year ≡ year = eqb-true r.year year (and_parts _ _ e).0 in
    let charged : charge_on rates r ≡ charge charge_scale r.kwh (rates year) = ap (λ y. charge charge_scale r.kwh (rates y)) same in
    simp e (omega (arith, ints, charged)))
    (λ (e : is_for year pair r ≡ false). simp e (omega (arith, ints, rest)))
    (cases_Bool (is_for year pair r))

pub reading_at_noted : (year : ℕ) (pair : Pair) (kwh : ℕ) (q : Pair) (rs : List Reading) → reading_at year q (with_reading year pair kwh rs) ≡ cond (same_pair pair q) (Some kwh) (reading_at year q rs)
reading_at_noted year pair kwh q [] = grind (arith, nat_tests)
reading_at_noted year pair kwh q (r ∷ rs) =
    let rest = reading_at_noted year pair kwh q rs in
    ⊎_elim
    (λ (e : is_for year pair r ≡ true). simp e (grind (arith, nat_tests)))
    (λ (e : is_for year pair r ≡ false). simp (e, rest) (grind (arith, nat_tests)))
    (cases_Bool (is_for year pair r))

-- every reading is of a year before this one
abbrev pub AllBefore : ℕ → List Reading → Type 0
AllBefore year [] = Unit {0}
AllBefore year (r ∷ rs) = (r.year < year) × AllBefore year rs

pub before_more : (x y : ℕ) (rs : List Reading) → x ≤ y → AllBefore x rs → AllBefore y rs
before_more x y [] h e = tt
before_more x y (r ∷ rs) h e = (omega (arith, e.0), before_more x y rs h e.1)

pub before_noted : (y year : ℕ) (pair : Pair) (kwh : ℕ) (rs : List Reading) → year < y → AllBefore y rs → AllBefore y (with_reading year pair kwh rs)
before_noted y year pair kwh [] h e = (h, tt)
before_noted y year pair kwh (r ∷ rs) h e =
    let rest = before_noted y year pair kwh rs h e.1 in
    ⊎_elim
    (λ (here : is_for year pair r ≡ true). simp here (h, e.1))
    (λ (else : is_for year pair r ≡ false). simp else (e.0, rest))
    (cases_Bool (is_for year pair r))

pub none_noted : (year : ℕ) (pair : Pair) (rs : List Reading) → AllBefore year rs → reading_at year pair rs ≡ None
none_noted year pair [] e = refl
none_noted year pair (r ∷ rs) e =
    let before = e.0 in
    let other : is_for year pair r ≡ false = and_left _ _ (ne_eqb r.year year (λ same. omega arith)) in
    simp other (none_noted year pair rs e.1)

-- a rate noted for a year that no reading is of
pub charges_kept : (year : ℕ) (rate : ℤ) (rates : ℕ → ℤ) (rs : List Reading) → AllBefore year rs → sum_over (charge_on (with_rate year rate rates)) rs ≡ sum_over (charge_on rates) rs
charges_kept year rate rates [] e = refl
charges_kept year rate rates (r ∷ rs) e =
    let before = e.0 in
    let other : eqb year r.year ≡ false = ne_eqb year r.year (λ same. omega arith) in
    let rest = charges_kept year rate rates rs e.1 in
    simp (other, rest)
