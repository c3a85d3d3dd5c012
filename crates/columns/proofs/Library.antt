-- What the library passes over and writes, in the words of specs/.
use Rattle.std.proofs.Common.{◌≡◌, ℕ, zero, suc, ◌+◌, ◌/◌, ◌%◌, ◌^◌, ◌<◌, ◌≤◌, false, eqb, ⊎_elim, List, [], ◌∷◌, ◌++◌, drop, ℤ, pos, negsuc, sym, refl, ap, ◌∙◌, append_assoc, append-nil, arith, SFits, to_z, of_z}
use mir.Syntax.{w128}
use Rattle.std.proofs.lemmas.Int.{to_z-of_z}
use Rattle.std.proofs.lemmas.Bool.{cases_Bool, cond-true, lt-ltb, ne_eqb}
use Rattle.std.specs.List.{prefix_len}
use Rattle.std.specs.Fmt.{decimal, digit_glyph, digits, digits_onto, signed_decimal}
use Rattle.columns.specs.Fields.{after_spaces}
use Rattle.columns.specs.Texts.{digits_of, text_of}
use Rattle.columns.proofs.Digits.{by_digits}
use Rattle.columns.proofs.Spelling.{text_at_least_zero}

-- the text begins after the spaces at the front
pub after_spaces-drop : (field : List ℕ) → after_spaces field ≡ drop (prefix_len (λ b. eqb b 32) field) field
unfolding after_spaces
after_spaces-drop [] = refl
after_spaces-drop (b ∷ bs) =
    ⊎_elim
    (λ t. let one : 1 + prefix_len (λ b. eqb b 32) bs ≡ suc (prefix_len (λ b. eqb b 32) bs) = omega arith in
    cond-true (eqb b 32) (after_spaces bs) (b ∷ bs) t ∙ after_spaces-drop bs ∙ sym (ap (λ k. drop k (b ∷ bs)) (cond-true (eqb b 32) (1 + prefix_len (λ b. eqb b 32) bs) 0 t ∙ one)))
    (λ f. rw f refl)
    (cases_Bool (eqb b 32))

glyph : (d : ℕ) → d < 10 → digit_glyph false d ≡ 48 + d
glyph d h = rw (lt-ltb _ _ h) refl

-- the library writes the same digits
digits_onto-append : (m k : ℕ) (acc : List ℕ) → m < 10 ^ suc k → digits_onto (suc k) 10 false m acc ≡ digits_of m ++ acc
digits_onto-append = by_digits (λ m ds. (k : ℕ) (acc : List ℕ) → m < 10 ^ suc k → digits_onto (suc k) 10 false m acc ≡ ds ++ acc) one more
  where
    one : (m : ℕ) → m < 10 → (k : ℕ) (acc : List ℕ) → m < 10 ^ suc k → digits_onto (suc k) 10 false m acc ≡ ((48 + m) ∷ []) ++ acc
    one m l k acc a =
        let none : m / 10 ≡ 0 = omega arith in
        let last : m % 10 ≡ m = omega arith in
        rw (none, last, glyph m l) refl

    more : (m : ℕ) (ds : List ℕ) → 10 ≤ m → ((k : ℕ) (acc : List ℕ) → m / 10 < 10 ^ suc k → digits_onto (suc k) 10 false (m / 10) acc ≡ ds ++ acc) → (k : ℕ) (acc : List ℕ) → m < 10 ^ suc k → digits_onto (suc k) 10 false m acc ≡ (ds ++ ((48 + m % 10) ∷ [])) ++ acc
    more m ds l h zero acc a = absurd (omega arith)
    more m ds l h (suc k) acc a =
        let some : eqb (m / 10) 0 ≡ false = ne_eqb _ _ (λ e. omega arith) in
        rw (some, glyph (m % 10) (omega arith), h k ((48 + m % 10) ∷ acc) (omega arith)) (sym (append_assoc ds ((48 + m % 10) ∷ []) acc))

pub decimal_is : (m : ℕ) → m < 2 ^ 128 → decimal m ≡ digits_of m
unfolding digits
decimal_is m h = digits_onto-append m 63 [] (omega arith) ∙ append-nil (digits_of m)

pub signed_decimal_is : (n : ℤ) → SFits w128 n → signed_decimal n ≡ text_of n
signed_decimal_is (pos m) h = decimal_is m (omega (arith, h.sfits)) ∙ sym (text_at_least_zero m)
signed_decimal_is (negsuc m) h = ap (λ ds. 45 ∷ ds) (decimal_is (suc m) (omega (arith, h.sfits)))

-- the same of a number of 128 bits as a call passes it on
pub number_written : (n : ℤ) → SFits w128 n → signed_decimal (to_z w128 (of_z w128 n)) ≡ text_of n
number_written n h = ap signed_decimal (to_z-of_z w128 n h) ∙ signed_decimal_is n h
