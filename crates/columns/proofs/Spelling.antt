-- A number's text and the number that it spells.
use Rattle.std.proofs.Common.{◌≡◌, ℕ, zero, suc, ◌<◌, ◌≤◌, true, false, cond, eqb, ◌⊎◌, List, [], ◌∷◌, ◌++◌, length, get_or, ℤ, pos, negsuc, neg_ℤ, Ok, Err, Result, IsUtf8, sym, refl, ap, ◌∙◌, subst, inl, inr, ⊎_elim, arith, SFits}
use mir.Syntax.{w128}
use Rattle.std.proofs.lemmas.Fmt.{IsAscii-from_digits}
use Rattle.std.proofs.lemmas.Slice.Eq.{bytes_eq-Decides}
use Rattle.std.proofs.lemmas.List.{get_or_default}
use Rattle.std.proofs.lemmas.Str.Parse.{without_leading_plus_none, digit_at}
use Rattle.std.proofs.lemmas.Bool.{and_from, and_parts, cases_Bool, cases_lt, cond-false, cond-true, eqb-true, false≢true, le-ltb, lt-ltb, ltb-true, ne_eqb}
use Rattle.std.proofs.lemmas.Str.{IsUtf8-from_ascii}
use Rattle.std.proofs.lemmas.Str.Ascii.{IsAscii-cons}
use Rattle.std.proofs.lemmas.Bool.Decides.{nat_tests}
use Rattle.std.specs.Result.{MatchResult}
use Rattle.std.specs.Str.Parse.{IsNumeral, ParsesSigned, without_leading_plus, without_leading_sign, starts_with_minus, signed_digits_value, digits_value}
use Rattle.std.specs.Str.{bytes_eq}
use Rattle.columns.specs.declared.refusal.Refusal.{Refusal}
use Rattle.columns.specs.declared.refusal.Refusal.TheVariants.{NotANumber}
use Rattle.columns.specs.Fields.{in_range, number_in, well_formed}
use Rattle.columns.specs.Texts.{Spells, begins_plainly, digits_of, text_of}
use Rattle.columns.proofs.Digits.{digits_spell, leading_above_zero, numeral_is_digits, one_digit, some_digit}

-- what a text that is read has
abbrev Readable : List ℕ → Type 0
Readable bs = (begins_plainly bs ≡ true) × IsUtf8 bs × IsNumeral 10 (without_leading_sign bs)

first_digit : (m : ℕ) → (48 ≤ get_or (digits_of m) 0 0) × (get_or (digits_of m) 0 0 ≤ 57)
first_digit m = let r = digits_spell m in digit_at (digits_of m) 0 r.0.1 r.0.0

begins_with_digit : (ds : List ℕ) → 0 < length ds → (48 ≤ get_or ds 0 0) × (get_or ds 0 0 ≤ 57) → (length ds ≡ 1) ⊎ (48 < get_or ds 0 0) → begins_plainly ds ≡ true
begins_with_digit [] some d lead = absurd (omega arith)
begins_with_digit (b ∷ []) some d lead = grind (arith, nat_tests)
begins_with_digit (b ∷ c ∷ cs) some d lead = let above : 48 < b = ⊎_elim (λ e. absurd (omega arith)) (λ l. l) lead in grind (arith, nat_tests)

begins_with_minus : (ds : List ℕ) → 0 < length ds → 48 < get_or ds 0 0 → get_or ds 0 0 ≤ 57 → begins_plainly (45 ∷ ds) ≡ true
begins_with_minus [] some low high = absurd (omega arith)
begins_with_minus (c ∷ cs) some low high = grind (arith, nat_tests)

pub text_at_least_zero : (m : ℕ) → text_of (pos m) ≡ digits_of m
text_at_least_zero m = ap (λ b. cond b (45 ∷ []) [] ++ digits_of m) (le-ltb m 0 (omega arith))

text_readable : (n : ℤ) → Readable (text_of n) × (signed_digits_value 10 (text_of n) ≡ n)
text_readable (pos m) =
    let r = digits_spell m in
    let d = first_digit m in
    let lead : (length (digits_of m) ≡ 1) ⊎ (48 < get_or (digits_of m) 0 0) = ⊎_elim (λ l. inl (ap length (one_digit m l))) (λ l. inr (leading_above_zero m (omega arith))) (cases_lt m 10) in
    let unsigned : eqb (get_or (digits_of m) 0 0) 45 ≡ false = ne_eqb _ _ (λ e. omega arith) in
    let plain : without_leading_plus (digits_of m) ≡ digits_of m = without_leading_plus_none (digits_of m) (λ e. omega arith) in
    let Both : List ℕ → Type 0 = λ bs. Readable bs × (signed_digits_value 10 bs ≡ pos m) in
    subst Both (sym (text_at_least_zero m)) ((begins_with_digit (digits_of m) (some_digit m) d lead, IsUtf8-from_ascii _ (IsAscii-from_digits _ r.0.1), rw (unsigned, plain) r.0), rw (unsigned, plain) (ap pos r.1))
text_readable (negsuc m) =
    let r = digits_spell (suc m) in (
      (
        begins_with_minus (digits_of (suc m)) (some_digit (suc m)) (leading_above_zero (suc m) (omega arith)) (first_digit (suc m)).1,
        IsUtf8-from_ascii _ (IsAscii-cons 45 _ (omega arith) (IsAscii-from_digits _ r.0.1)),
        r.0,
      ),
      ap (λ v. neg_ℤ (pos v)) r.1,
    )

text_below : (v : ℕ) → 0 < v → text_of (neg_ℤ (pos v)) ≡ 45 ∷ digits_of v
text_below zero some = absurd (omega arith)
text_below (suc m) some = refl

-- after a minus sign stands a digit from 1 to 9
after_minus : (t : List ℕ) → begins_plainly (45 ∷ t) ≡ true → 49 ≤ get_or t 0 0
after_minus [] p = absurd (false≢true p)
after_minus (c ∷ cs) p = grind (arith, nat_tests)

lone_zero : (c : ℕ) (t : List ℕ) → begins_plainly (c ∷ t) ≡ true → eqb c 45 ≡ false → (c ≡ 43 → ⊥) × (c ≡ 48 → length (c ∷ t) ≡ 1)
lone_zero c [] p m = ((λ e. grind (arith, nat_tests)), λ e. refl)
lone_zero c (d ∷ ds) p m = ((λ e. grind (arith, nat_tests)), λ e. absurd (grind (arith, nat_tests)))

spelled_below : (t : List ℕ) → begins_plainly (45 ∷ t) ≡ true → IsNumeral 10 t → text_of (neg_ℤ (pos (digits_value 10 t))) ≡ 45 ∷ t
spelled_below t p n =
    let lead : 49 ≤ get_or t 0 0 = after_minus t p in
    let d : digits_of (digits_value 10 t) ≡ t = numeral_is_digits t n (λ e. absurd (omega arith)) in
    let some : 0 < digits_value 10 t = ⊎_elim (λ z. z) (λ z. absurd (let e : digits_value 10 t ≡ 0 = omega arith in
    omega (arith, ap (λ x. get_or x 0 0) (sym d ∙ ap digits_of e ∙ one_digit 0 (omega arith))))) (cases_lt 0 (digits_value 10 t)) in
    text_below _ some ∙ ap (λ x. 45 ∷ x) d

-- a text that begins plainly and has digits only is that of the number which it spells
spelled : (bs : List ℕ) → begins_plainly bs ≡ true → IsNumeral 10 (without_leading_sign bs) → text_of (signed_digits_value 10 bs) ≡ bs
spelled [] p n = absurd (false≢true p)
spelled (c ∷ t) p n =
    ⊎_elim
    (λ m. let P : ℕ → Type 0 = λ x. begins_plainly (x ∷ t) ≡ true → IsNumeral 10 (without_leading_sign (x ∷ t)) → text_of (signed_digits_value 10 (x ∷ t)) ≡ x ∷ t in
    subst P (sym (eqb-true c 45 m)) (spelled_below t) p n)
    (λ m. let lone = lone_zero c t p m in
    let s : without_leading_sign (c ∷ t) ≡ c ∷ t = cond-false (starts_with_minus (c ∷ t)) _ _ m ∙ without_leading_plus_none (c ∷ t) lone.0 in
    let v : signed_digits_value 10 (c ∷ t) ≡ pos (digits_value 10 (c ∷ t)) = cond-false (starts_with_minus (c ∷ t)) _ _ m ∙ ap (λ x. pos (digits_value 10 x)) s in
    ap text_of v ∙ text_at_least_zero _ ∙ numeral_is_digits (c ∷ t) (subst (IsNumeral 10) s n) lone.1)
    (cases_Bool (eqb c 45))

pub well_formed_from : (bs : List ℕ) → begins_plainly bs ≡ true → IsNumeral 10 (without_leading_sign bs) → SFits w128 (signed_digits_value 10 bs) → well_formed bs ≡ true
well_formed_from bs p n f = and_from _ _ ((bytes_eq-Decides bs _).1 (sym (spelled bs p n))) (lt-ltb _ _ f.sfits)

pub text_and_range : (bs : List ℕ) → well_formed bs ≡ true → (bs ≡ text_of (signed_digits_value 10 bs)) × (in_range (signed_digits_value 10 bs) ≡ true)
text_and_range bs h =
    let parts = and_parts (bytes_eq bs (text_of (signed_digits_value 10 bs))) (in_range (signed_digits_value 10 bs)) h in
    ((bytes_eq-Decides bs _).0 parts.0, parts.1)

pub well_formed_readable : (bs : List ℕ) → well_formed bs ≡ true → Readable bs × SFits w128 (signed_digits_value 10 bs)
well_formed_readable bs h =
    let parts = text_and_range bs h in
    (subst Readable (sym parts.0) (text_readable (signed_digits_value 10 bs)).0, record { sfits = ltb-true _ _ parts.1 })

pub text_well_formed : (n : ℤ) → in_range n ≡ true → well_formed (text_of n) ≡ true
text_well_formed n r =
    let t = text_readable n in
    well_formed_from (text_of n) t.0.0 t.0.2 (subst (SFits w128) (sym t.1) (record { sfits = ltb-true _ _ r }))

pub text_spells : (n : ℤ) → Spells (text_of n) n
text_spells n = let t = text_readable n in record { begins_as_a_number = t.0.0; has_digits_only = t.0.2; has_the_value = t.1 }

pub spelled_is_text : (text : List ℕ) (n : ℤ) → Spells text n → text ≡ text_of n
spelled_is_text text n s = sym (spelled text s.begins_as_a_number s.has_digits_only) ∙ ap text_of s.has_the_value

pub not_a_number : (text : List ℕ) → (well_formed text ≡ true → ⊥) → Err NotANumber ≡ number_in text
not_a_number text never = sym (cond-false (well_formed text) _ _ (⊎_elim (λ t. absurd (never t)) (λ f. f) (cases_Bool (well_formed text))))

pub number_spelled : (text : List ℕ) → well_formed text ≡ true → Ok (signed_digits_value 10 text) ≡ number_in text
number_spelled text t = sym (cond-true (well_formed text) _ _ t)

pub text_not_space : (n : ℤ) → get_or (text_of n) 0 32 ≡ 32 → ⊥
text_not_space (pos m) e = omega (arith, ap (λ bs. get_or bs 0 32) (text_at_least_zero m), first_digit m, get_or_default (digits_of m) 0 0 32 (some_digit m))
text_not_space (negsuc m) e = omega arith

-- what parsing a text that begins plainly gives
pub number_parsed : {E : Type 0} (text : List ℕ) (p : Result ℤ E) (r : Result ℤ Refusal) → begins_plainly text ≡ true → ParsesSigned w128 10 text p → MatchResult p (λ n. r ≡ Ok n) (λ _. r ≡ Err NotANumber) → r ≡ number_in text
number_parsed text (Ok n) r plain h e = e ∙ ap Ok h.1 ∙ number_spelled text (well_formed_from text plain h.0.0 h.0.1)
number_parsed text (Err x) r plain h e = e ∙ not_a_number text (λ w. let q = well_formed_readable text w in h (q.0.2, q.1))
