-- The sum of a run of months, one month at a time.
use Rattle.std.proofs.Common.{◌≡◌, ℕ, zero, suc, ◌+◌, ◌-◌, ◌*◌, ◌<◌, ◌≤◌, List, [], ◌∷◌, length, Some, None, Option, refl, sym, ap, ⊎_elim, subst, ◌∙◌, add-zero, add_assoc, arith}
use Rattle.std.proofs.Math.Nat.{eq-or-lt_of_le}
use Rattle.std.specs.declared.ops.Range.{Range}
use Rattle.std.specs.Iterator.{Yields}
use Rattle.std.specs.List.{FoldsTo}
use Rattle.std.specs.Option.{MatchOption}
use Rattle.rates.specs.Rates.{Rates, Within, NoRateAboveTheHighest, highest}
use Rattle.rates.specs.Factor.{AddsUp, RatesFrom, plus, sum_of, total}

plus_none : (a : Option ℕ) → plus a None ≡ None
plus_none None = refl
plus_none (Some x) = refl

-- a missing month leaves no sum
missing_month : (rates : Rates) (first n i : ℕ) → i < n → rates (first + i) ≡ None → sum_of rates first n ≡ None
unfolding sum_of
missing_month rates first zero i short missing = absurd (omega arith)
missing_month rates first (suc n) i short missing = ⊎_elim
    (λ (here : i ≡ n). rw (← here) (rw missing (plus_none (sum_of rates first i))))
    (λ (before : i < n). rw (missing_month rates first n i before missing))
    (eq-or-lt_of_le (omega arith))

-- the first month, then the others
plus_assoc : (a b c : Option ℕ) → plus (plus a b) c ≡ plus a (plus b c)
plus_assoc None b c = refl
plus_assoc (Some x) None c = refl
plus_assoc (Some x) (Some y) None = refl
plus_assoc (Some x) (Some y) (Some z) = ap Some (add_assoc x y z)

plus_zero : (a : Option ℕ) → plus (Some 0) a ≡ plus a (Some 0)
plus_zero None = refl
plus_zero (Some x) = ap Some (omega arith)

pub zero_plus : (a : Option ℕ) → plus (Some 0) a ≡ a
zero_plus None = refl
zero_plus (Some x) = ap Some (omega arith)

first_month : (rates : Rates) (first n : ℕ) → sum_of rates first (suc n) ≡ plus (rates first) (sum_of rates (suc first) n)
unfolding sum_of
first_month rates first zero = rw add-zero (plus_zero (rates first))
first_month rates first (suc n) =
    let next : first + suc n ≡ suc first + n = omega arith in
    rw (first_month rates first n, next, plus_assoc (rates first) (sum_of rates (suc first) n) (rates (suc first + n)))

pub total_of_rates : (rates : Rates) (first : ℕ) (xs : List ℕ) → RatesFrom rates first xs → sum_of rates first (length xs) ≡ Some (total xs)
unfolding sum_of
total_of_rates rates first [] all = refl
total_of_rates rates first (x ∷ xs) all =
    let here : rates first ≡ Some x = rw add-zero at (all 0 (omega arith)) in
    let others : RatesFrom rates (suc first) xs =
    λ i short. let next : first + suc i ≡ suc first + i = omega arith in rw next at (all (suc i) (omega arith)) in
    rw (first_month rates first (length xs), here, total_of_rates rates (suc first) xs others)

plus_within : (m n : ℕ) (a b : Option ℕ) → Within m a → Within n b → Within (m + n) (plus a b)
plus_within m n None b wa wb = tt
plus_within m n (Some x) None wa wb = tt
plus_within m n (Some x) (Some y) wa wb = omega arith

pub sum_within : (rates : Rates) → NoRateAboveTheHighest rates → (first n : ℕ) → Within (n * highest) (sum_of rates first n)
unfolding sum_of
sum_within rates none_above first zero = omega arith
sum_within rates none_above first (suc n) =
    let more : suc n * highest ≡ n * highest + highest = omega arith in
    rw more (plus_within (n * highest) highest (sum_of rates first n) (rates (first + n)) (sum_within rates none_above first n) (none_above (first + n)))

pub adds_up : (rates : Rates) → NoRateAboveTheHighest rates → (first count : ℕ) (sum : Option ℕ) → sum ≡ sum_of rates first count → AddsUp rates first count sum
adds_up rates none_above first count sum is = rw is (record {
  missing_month_leaves_no_sum = missing_month rates first count;
  sum_is_the_total_of_the_rates = λ xs long all. rw (← long) (total_of_rates rates first xs all);
  sum_is_at_most_the_highest_rate_each_month = sum_within rates none_above first count;
})

-- a range gives its next month, or ends
abbrev MonthsGive : Range ℕ → Option ℕ → Range ℕ → Type 0
MonthsGive s r t = (t.end ≡ s.end) × MatchOption r ((s.end - s.start ≡ 0) × (t.start ≡ s.start)) (λ x. (0 < s.end - s.start) × (x ≡ s.start) × (t.start ≡ s.start + 1))

-- the turns of a `try_fold` over months that went on
module _ (rates : Rates) {F : Type 0} (R : F × ℕ → ℕ → F × ℕ → Type 0) (f : F) (goes : (n x : ℕ) (q : F × ℕ) → R (f, n) x q → (q.0 ≡ f) × (plus (Some n) (rates x) ≡ Some q.1)) where
  pub months_added : (xs : List ℕ) (s t : Range ℕ) (n : ℕ) (q : F × ℕ) → Yields MonthsGive s xs t → FoldsTo R (f, n) xs q
      → (q.0 ≡ f) × (plus (Some n) (sum_of rates s.start (length xs)) ≡ Some q.1) × (t.start ≡ s.start + length xs) × (t.end ≡ s.end) × (s.start ≤ s.end → t.start ≤ t.end)
  unfolding sum_of
  months_added [] s t n q y c = (sym (ap (λ k. k.0) c), ap Some (omega (arith, ap (λ k. k.1) c)), omega (arith, ap (λ k. k.start) y), sym (ap (λ k. k.end) y), λ h. omega (arith, ap (λ k. k.start) y, ap (λ k. k.end) y))
  months_added (x ∷ xs) s t n q y c =
      let turn = goes n x c.0 c.1 in
      let rest = months_added xs y.0 t c.0.1 q y.2 (subst (λ (k : F × ℕ). FoldsTo R k xs q) {x = c.0} {y = (f, c.0.1)} (λ i. (turn.0 i, c.0.1)) c.2) in
      let next : suc s.start ≡ y.0.start = omega (arith, y.1.1.2) in
      let first : plus (Some n) (rates s.start) ≡ Some c.0.1 = ap (λ k. plus (Some n) (rates k)) (sym y.1.1.1) ∙ turn.1 in (
        rest.0,
        ap (plus (Some n)) (first_month rates s.start (length xs)) ∙ sym (plus_assoc (Some n) (rates s.start) (sum_of rates (suc s.start) (length xs)))
            ∙ (λ i. plus (first i) (sum_of rates (next i) (length xs))) ∙ rest.1,
        omega (arith, rest.2, y.1.1.2),
        rest.3 ∙ y.1.0,
        λ h. rest.4 (omega (arith, y.1.0, y.1.1.0, y.1.1.2)),
      )

-- after them came the end, or a month that is missing
pub months_tried : (rates : Rates) (first count : ℕ) (k a : ℕ) (o r : Option ℕ) (t u : Range ℕ) (Yes : Type 0) (No : ℕ → Type 0)
    → sum_of rates first k ≡ Some a → t.start ≡ first + k → t.end ≡ first + count → MonthsGive t o u → k ≤ count
    → (Yes → r ≡ Some a) → ((x : ℕ) → No x → (r ≡ None) × (rates x ≡ None)) → MatchOption o Yes No → r ≡ sum_of rates first count
months_tried rates first count k a None r t u Yes No sum from to step le all missing m = all m ∙ sym sum ∙ ap (sum_of rates first) (omega arith)
months_tried rates first count k a (Some x) r t u Yes No sum from to step le all missing m =
    let left = missing x m in
    left.0 ∙ sym (missing_month rates first count k (omega arith) (ap rates (omega arith) ∙ left.1))
