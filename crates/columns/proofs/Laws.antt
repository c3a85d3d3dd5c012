-- Reading and writing are each other's inverse.
use Rattle.std.proofs.Common.{◌≡◌, ℕ, zero, suc, ◌+◌, ◌-◌, ◌^◌, ◌<◌, ◌≤◌, true, eqb, List, [], ◌∷◌, ◌++◌, length, get_or, replicate, ℤ, nat_abs, Ok, sym, refl, ap, ◌∙◌, subst, ⊎_elim, arith, SFits}
use native.Mathlib.Nat.{pow-le-pow_right}
use mir.Syntax.{w128}
use Rattle.std.proofs.lemmas.List.{length-append, length-replicate}
use Rattle.std.proofs.lemmas.Bool.{both_ways, cases_Bool, cases_lt, cond-false, cond-true, eqb-true, lt-ltb, ne_eqb}
use Rattle.std.specs.Str.Parse.{signed_digits_value}
use Rattle.columns.specs.Fields.{Holds, ReadsWhatIsHeld, UndoesWriting, accepted, after_spaces, in_range, reading, right_justified, well_formed, written}
use Rattle.columns.specs.Texts.{Spells, digits_of, sign_of, text_of, width_of}
use Rattle.columns.proofs.Digits.{digits_below}
use Rattle.columns.proofs.Spelling.{not_a_number, number_spelled, spelled_is_text, text_and_range, text_not_space, text_spells, text_well_formed}
use Rattle.columns.proofs.Widths.{refused_where_too_wide, written_where_it_fits}

-- what stands before the text are spaces
pub spaces_before : (f : List ℕ) → (spaces : ℕ) × (f ≡ replicate spaces 32 ++ after_spaces f)
unfolding after_spaces
spaces_before [] = (0, refl)
spaces_before (b ∷ bs) =
    ⊎_elim
    (λ t. let r = spaces_before bs in (suc r.0, ap (λ x. x ∷ bs) (eqb-true b 32 t) ∙ ap (λ x. 32 ∷ x) r.1 ∙ ap (λ x. 32 ∷ (replicate r.0 32 ++ x)) (sym (cond-true (eqb b 32) _ (b ∷ bs) t))))
    (λ t. (0, sym (cond-false (eqb b 32) (after_spaces bs) _ t)))
    (cases_Bool (eqb b 32))

-- spaces are passed over, up to a text that begins with none
spaces_passed : (spaces : ℕ) (text : List ℕ) → (get_or text 0 32 ≡ 32 → ⊥) → after_spaces (replicate spaces 32 ++ text) ≡ text
unfolding after_spaces
spaces_passed zero [] ne = refl
spaces_passed zero (b ∷ bs) ne = cond-false (eqb b 32) _ _ (ne_eqb b 32 ne)
spaces_passed (suc n) text ne = spaces_passed n text ne

held_text : (field : List ℕ) (n : ℤ) → Holds field n → after_spaces field ≡ text_of n
held_text field n h = ap after_spaces h.1 ∙ spaces_passed h.0 (text_of n) (text_not_space n)

one_number : (field : List ℕ) (m n : ℤ) → Holds field m → Holds field n → m ≡ n
one_number field m n p q = sym (text_spells m).has_the_value ∙ ap (signed_digits_value 10) (sym (held_text field m p) ∙ held_text field n q) ∙ (text_spells n).has_the_value

held_is_spelled : (field : List ℕ) (n : ℤ) → Holds field n → Spells (after_spaces field) n
held_is_spelled field n h = subst (λ text. Spells text n) (sym (held_text field n h)) (text_spells n)

spelled_is_held : (field : List ℕ) (n : ℤ) → Spells (after_spaces field) n → Holds field n
spelled_is_held field n s = let b = spaces_before field in (b.0, b.1 ∙ ap (λ text. replicate b.0 32 ++ text) (spelled_is_text (after_spaces field) n s))

pub held_is_read : (field : List ℕ) (n : ℤ) → in_range n ≡ true → Holds field n → reading field ≡ Ok n
unfolding reading
held_is_read field n r h = rw (held_text field n h) (sym (number_spelled (text_of n) (text_well_formed n r)) ∙ ap Ok (text_spells n).has_the_value)

pub read_is_held : (field : List ℕ) (n : ℤ) → reading field ≡ Ok n → Holds field n × (in_range n ≡ true)
unfolding reading
read_is_held field n e =
    let text = after_spaces field in
    ⊎_elim
    (λ t. let v : signed_digits_value 10 text ≡ n = let q = number_spelled text t in cc in
    let s = spaces_before field in
    let parts = text_and_range text t in
    ((s.0, s.1 ∙ ap (λ x. replicate s.0 32 ++ x) (parts.0 ∙ ap text_of v)), ap in_range (sym v) ∙ parts.1))
    (λ t. absurd (let q = not_a_number text (λ h. both_ways _ t h) in let z : ◌≡◌ {A = ℕ} 0 1 = cc in omega arith))
    (cases_Bool (well_formed text))

-- what an accepted writing leaves holds the number
pub written_is_held : (columns field : List ℕ) (n : ℤ) → written columns n ≡ accepted field → Holds field n
unfolding right_justified
written_is_held columns field n e =
    ⊎_elim
    (λ l. absurd (let q = ap (λ w. w.answer) (sym (refused_where_too_wide columns n l) ∙ e) in let z : ◌≡◌ {A = ℕ} 0 1 = cc in omega arith))
    (λ l. (length columns - width_of n, ap (λ w. w.after) (sym e ∙ written_where_it_fits columns n l)))
    (cases_lt (length columns) (width_of n))

-- what holds a number is what writing it into as many columns leaves
pub held_is_written : (columns field : List ℕ) (n : ℤ) → length columns ≡ length field → Holds field n → written columns n ≡ accepted field
unfolding right_justified
held_is_written columns field n e h =
    let wide : length field ≡ h.0 + width_of n = ap length h.1 ∙ length-append _ (text_of n) ∙ ap (λ k. k + width_of n) (length-replicate {A = ℕ} h.0 32) in
    let spaces : length columns - width_of n ≡ h.0 = omega arith in
    written_where_it_fits columns n (omega arith) ∙ ap (λ k. accepted (replicate k 32 ++ text_of n)) spaces ∙ ap accepted (sym h.1)

pub reads_what_is_held : (field : List ℕ) → ReadsWhatIsHeld field (reading field)
reads_what_is_held field = record {
  field_holds_one_number = one_number field;
  number_held_is_spelled = held_is_spelled field;
  number_spelled_is_held = spelled_is_held field;
  number_held_is_read = held_is_read field;
  number_read_is_held = read_is_held field;
}

pub undoes_writing : (field : List ℕ) → UndoesWriting field (reading field)
undoes_writing field = record {
  number_written_is_read_back = λ columns n r e. held_is_read field n r (written_is_held columns field n e);
  number_read_is_written_back = λ columns n l e. held_is_written columns field n l (read_is_held field n e).0;
}

-- for callers: a number that fits its columns is read back from them
pub written_reads_back : (columns : List ℕ) (n : ℤ) → SFits w128 n → width_of n ≤ length columns → reading (written columns n).after ≡ Ok n
unfolding right_justified
written_reads_back columns n f fits = rw written_where_it_fits (held_is_read _ n (lt-ltb _ _ f.sfits) (_, refl))

-- for callers: a number read from at most k columns is below 10 ^ k
pub read_is_below : (k : ℕ) (field : List ℕ) (n : ℤ) → length field ≤ k → reading field ≡ Ok n → nat_abs n < 10 ^ k
read_is_below k field n narrow e =
    let h = (read_is_held field n e).0 in
    let wide : length field ≡ h.0 + (length (sign_of n) + length (digits_of (nat_abs n))) =
    ap length h.1 ∙ length-append _ (text_of n) ∙ (λ i. length-replicate {A = ℕ} h.0 32 i + length-append (sign_of n) (digits_of (nat_abs n)) i) in
    let grows : 10 ^ length (digits_of (nat_abs n)) ≤ 10 ^ k = pow-le-pow_right (omega arith) (omega arith) in
    omega (arith, digits_below (nat_abs n))
