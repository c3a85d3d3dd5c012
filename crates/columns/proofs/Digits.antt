-- The digits of a size, one after another: what they are, how many, and what they spell.
use Rattle.std.proofs.Common.{◌≡◌, ℕ, zero, suc, ◌+◌, ◌*◌, ◌/◌, ◌%◌, ◌^◌, ◌<◌, ◌≤◌, eqb, List, [], ◌∷◌, ◌++◌, map, length, get_or, sym, refl, ap, ◌∙◌, subst, ⊎_elim, append_assoc, append-nil, arith}
use lib.ListN.{get_or-append}
use Rattle.std.proofs.lemmas.Int.Digits.{digits_of_step, digits_value-lt, digits_value_push, digits_push}
use Rattle.std.proofs.lemmas.List.{map_push, length_push}
use Rattle.std.proofs.lemmas.Str.Parse.{digit_from_value}
use Rattle.std.proofs.lemmas.Bool.{cases_lt, cond-false, ne_eqb}
use Rattle.std.proofs.lemmas.Str.{digit_value_digit}
use Rattle.std.specs.Str.Parse.{AllDigits, IsNumeral, digits_value, digits_value_after}
use Rattle.std.specs.Char.{digit_value}
use Rattle.std.specs.Int.Digits.{digits_with_fuel, digits_of as std_digits_of}
use Rattle.columns.specs.Texts.{digits_of, digits_up_to}

-- by the library's digits in base ten
by_base_ten : (k m : ℕ) → digits_up_to k m ≡ map (λ d. 48 + d) (digits_with_fuel 10 k m)
by_base_ten zero m = refl
by_base_ten (suc k) zero = refl
by_base_ten (suc k) (suc m) =
    let ds : List ℕ = digits_with_fuel 10 k (suc m / 10) in
    let d : ℕ = suc m % 10 in
    ap (λ xs. xs ++ ((48 + d) ∷ [])) (by_base_ten k (suc m / 10)) ∙ sym (map_push (λ d. 48 + d) ds d) ∙ ap (map (λ d. 48 + d)) (sym (cond-false (eqb (suc m) 0) [] (ds ++ (d ∷ [])) (ne_eqb (suc m) 0 (λ e. omega arith))))

front : (m : ℕ) → 0 < m → digits_of m ≡ map (λ d. 48 + d) (std_digits_of 10 m)
unfolding digits_of
front zero h = absurd (omega arith)
front (suc m) h = by_base_ten (suc m) (suc m)

pub one_digit : (m : ℕ) → m < 10 → digits_of m ≡ (48 + m) ∷ []
unfolding digits_of
one_digit zero h = refl
one_digit (suc m) h =
    let none : suc m / 10 ≡ 0 = omega arith in
    let last : suc m % 10 ≡ suc m = omega arith in
    front (suc m) (omega arith) ∙ ap (map (λ d. 48 + d)) (digits_of_step 10 (suc m) (omega arith) (omega arith) ∙ (λ i. std_digits_of 10 (none i) ++ (last i ∷ [])))

pub one_more_digit : (m : ℕ) → 10 ≤ m → digits_of m ≡ digits_of (m / 10) ++ ((48 + m % 10) ∷ [])
one_more_digit m h =
    front m (omega arith) ∙ ap (map (λ d. 48 + d)) (digits_of_step 10 m (omega arith) (omega arith)) ∙ map_push (λ d. 48 + d) (std_digits_of 10 (m / 10)) (m % 10)
    ∙ ap (λ ds. ds ++ ((48 + m % 10) ∷ [])) (sym (front (m / 10) (omega arith)))

module _ (P : ℕ → List ℕ → Type 0) (one : (m : ℕ) → m < 10 → P m ((48 + m) ∷ [])) (more : (m : ℕ) (ds : List ℕ) → 10 ≤ m → P (m / 10) ds → P m (ds ++ ((48 + m % 10) ∷ []))) where
  up_to : (k m : ℕ) → m ≤ k → P m (digits_of m)
  up_to zero m le = subst (P m) (sym (one_digit m (omega arith))) (one m (omega arith))
  up_to (suc k) m le =
      ⊎_elim
      (λ l. subst (P m) (sym (one_digit m l)) (one m l))
      (λ l. subst (P m) (sym (one_more_digit m l)) (more m (digits_of (m / 10)) l (up_to k (m / 10) (omega arith))))
      (cases_lt m 10)

  -- induction on the digits: one digit, and then one more at the end
  pub by_digits : (m : ℕ) → P m (digits_of m)
  by_digits m = up_to m m (omega arith)

pub some_digit : (m : ℕ) → 0 < length (digits_of m)
some_digit = by_digits (λ m ds. 0 < length ds) (λ m l. omega arith) (λ m ds l h. omega (arith, length_push ds (48 + m % 10)))

-- a size below 10 ^ k has at most k digits
pub digits_within : (k m : ℕ) → 0 < k → m < 10 ^ k → length (digits_of m) ≤ k
digits_within k m some fits = by_digits (λ m ds. (j : ℕ) → 0 < j → m < 10 ^ j → length ds ≤ j) (λ m l j a b. omega arith) more m k some fits
  where
    more : (m : ℕ) (ds : List ℕ) → 10 ≤ m → ((j : ℕ) → 0 < j → m / 10 < 10 ^ j → length ds ≤ j) → (j : ℕ) → 0 < j → m < 10 ^ j → length (ds ++ ((48 + m % 10) ∷ [])) ≤ j
    more m ds l h zero a b = absurd (omega arith)
    more m ds l h (suc zero) a b = absurd (omega arith)
    more m ds l h (suc (suc j)) a b = omega (arith, length_push ds (48 + m % 10), h (suc j) (omega arith) (omega arith))

-- the digits spell the size
pub digits_spell : (m : ℕ) → IsNumeral 10 (digits_of m) × (digits_value 10 (digits_of m) ≡ m)
digits_spell = by_digits (λ m ds. IsNumeral 10 ds × (digits_value 10 ds ≡ m))
    (λ m l. let v = digit_value_digit (48 + m) (omega arith, omega arith) in ((omega arith, (omega arith, tt)), omega arith))
    (λ m ds l h.
    let v = digit_value_digit (48 + m % 10) (omega arith, omega arith) in
    ((omega (arith, length_push ds (48 + m % 10)), digits_push 10 ds (48 + m % 10) h.0.1 (omega arith)), omega (arith, digits_value_push 10 ds (48 + m % 10), h.1)))

pub digits_below : (m : ℕ) → m < 10 ^ length (digits_of m)
digits_below m = let s = digits_spell m in omega (arith, digits_value-lt 10 (digits_of m) s.0.1, s.1)

-- a size above zero has no leading zero
pub leading_above_zero : (m : ℕ) → 0 < m → 48 < get_or (digits_of m) 0 0
leading_above_zero m some = (by_digits (λ m ds. (0 < length ds) × (0 < m → 48 < get_or ds 0 0)) (λ m l. (omega arith, λ a. omega arith))
    (λ m ds l h. (omega (arith, length_push ds (48 + m % 10)), λ a. omega (arith, get_or-append ds ((48 + m % 10) ∷ []) 0 0 h.0, h.1 (omega arith)))) m).1 some

-- digits after those of a size above zero
spelled_after : (m : ℕ) (ds : List ℕ) → 0 < m → AllDigits 10 ds → digits_of (digits_value_after 10 m ds) ≡ digits_of m ++ ds
spelled_after m [] some d = sym (append-nil (digits_of m))
spelled_after m (c ∷ cs) some d =
    let k : ℕ = m * 10 + digit_value c in
    let v = digit_value_digit c (digit_from_value c d.0) in
    let high : k / 10 ≡ m = omega (arith, d.0) in
    let low : 48 + k % 10 ≡ c = omega (arith, d.0) in
    spelled_after k cs (omega arith) d.1
    ∙ ap (λ x. x ++ cs) (one_more_digit k (omega arith) ∙ (λ i. digits_of (high i) ++ (low i ∷ [])))
    ∙ append_assoc (digits_of m) (c ∷ []) cs

-- a numeral with no needless zero is the digits of what it spells
pub numeral_is_digits : (ds : List ℕ) → IsNumeral 10 ds → (get_or ds 0 0 ≡ 48 → length ds ≡ 1) → digits_of (digits_value 10 ds) ≡ ds
numeral_is_digits [] d lead = absurd (omega (arith, d.0))
numeral_is_digits (c ∷ []) d lead =
    let v = digit_value_digit c (digit_from_value c d.1.0) in
    one_digit (0 * 10 + digit_value c) (omega (arith, d.1.0)) ∙ ap (λ x. x ∷ []) (omega arith)
numeral_is_digits (c ∷ e ∷ cs) d lead =
    let v = digit_value_digit c (digit_from_value c d.1.0) in
    let some : c ≡ 48 → ⊥ = λ z. omega (arith, lead z) in
    let is : 48 + (0 * 10 + digit_value c) ≡ c = omega arith in
    spelled_after (0 * 10 + digit_value c) (e ∷ cs) (omega arith) d.1.1
    ∙ ap (λ x. x ++ (e ∷ cs)) (one_digit (0 * 10 + digit_value c) (omega (arith, d.1.0)) ∙ ap (λ x. x ∷ []) is)
