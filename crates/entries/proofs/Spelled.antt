-- A word and the number whose text it is.
use Rattle.std.proofs.Common.{◌≡◌, ℕ, zero, suc, true, false, ◌&&◌, eqb, List, [], ◌∷◌, get_or, ℤ, Ok, Err, Result, Option, Some, None, sym, refl, ap, ◌∙◌, arith, SFits, to_z, of_z}
use mir.Syntax.{w64, w128}
use Rattle.std.proofs.lemmas.Bool.{false≢true, eqb-true, and_from, and_parts, cond-true, lt-ltb, ltb-true}
use Rattle.std.proofs.lemmas.Int.{to_z-of_z}
use Rattle.std.proofs.lemmas.Option.{cond_some, same_Some, none-some}
use Rattle.std.proofs.lemmas.Slice.Eq.{bytes_eq-Decides}
use Rattle.std.specs.List.{starts_with}
use Rattle.std.specs.Result.{OkIff, result_ok}
use Rattle.std.specs.Str.{bytes_eq}
use Rattle.std.specs.Str.Parse.{signed_digits_value}
use Rattle.columns.specs.Fields.{Holds, ReadsWhatIsHeld}
use Rattle.columns.specs.Fields as field
use Rattle.columns.specs.Texts.{text_of}
use Rattle.columns.specs.declared.refusal.Refusal.{Refusal}
use Rattle.columns.proofs.Spelling.{text_not_space, text_spells}
use Rattle.entries.specs.Numbers.{in_range, number_if_text, number_in}

pub number_of_text : (n : ℤ) → in_range n ≡ true → number_in (text_of n) ≡ Some n
unfolding number_in
number_of_text n r =
    ap (number_if_text (text_of n)) (text_spells n).has_the_value
    ∙ cond-true (bytes_eq (text_of n) (text_of n) && in_range n) (Some n) None (and_from _ _ ((bytes_eq-Decides (text_of n) (text_of n)).1 refl) r)

pub text_of_number : (word : List ℕ) (n : ℤ) → number_in word ≡ Some n → (word ≡ text_of n) × (in_range n ≡ true)
unfolding number_in
text_of_number word n e =
    let v : ℤ = signed_digits_value 10 word in
    let s = cond_some (bytes_eq word (text_of v) && in_range v) v n e in
    let parts = and_parts (bytes_eq word (text_of v)) (in_range v) s.0 in
    ((bytes_eq-Decides word (text_of v)).0 parts.0 ∙ ap text_of s.1, ap in_range (sym s.1) ∙ parts.1)

-- where it is that of none
pub nothing_unless : (o : Option ℤ) → ((n : ℤ) → o ≡ Some n → ⊥) → None ≡ o
nothing_unless None never = refl
nothing_unless (Some n) never = absurd (never n refl)

pub spaced_is_none : (word : List ℕ) → starts_with eqb word (32 ∷ []) ≡ true → None ≡ number_in word
spaced_is_none [] s = absurd (false≢true s)
spaced_is_none (b ∷ bs) s = nothing_unless _ (λ n e. text_not_space n (ap (λ w. get_or w 0 32) (sym (text_of_number (b ∷ bs) n e).0) ∙ sym (eqb-true 32 b (and_parts (eqb 32 b) true s).0)))

-- a field that begins with no space holds just the number whose text it is
held_bare : (word : List ℕ) (n : ℤ) → starts_with eqb word (32 ∷ []) ≡ false → Holds word n → word ≡ text_of n
held_bare word n s (zero, e) = e
held_bare word n s (suc k, e) = absurd (false≢true (sym s ∙ ap (λ w. starts_with eqb w (32 ∷ [])) e))

ok_of : {E : Type 0} (r : Result ℤ E) (n : ℤ) → result_ok r ≡ Some n → r ≡ Ok n
ok_of (Ok m) n e = ap Ok (same_Some m n e)
ok_of (Err x) n e = absurd (none-some n e)

module _ (word : List ℕ) (r : Result ℤ Refusal) (bare : starts_with eqb word (32 ∷ []) ≡ false) (reads : ReadsWhatIsHeld word r) where
  pub unread_is_none : result_ok r ≡ None → None ≡ number_in word
  unread_is_none e = nothing_unless _ (λ n f.
      let t = text_of_number word n f in
      let wide : field.in_range n ≡ true = lt-ltb _ _ (omega (arith, ltb-true _ _ t.1)) in
      let read : r ≡ Ok n = reads.number_held_is_read n wide (0, t.0) in
      none-some n (sym e ∙ ap result_ok read))

  -- the number read, where it fits 64 bits
  pub read_within : {E : Type 0} (n : ℤ) (q : Result ℤ E) → result_ok r ≡ Some n → OkIff q (SFits w64 (to_z w128 (of_z w128 n))) (to_z w128 (of_z w128 n)) → result_ok q ≡ number_in word
  read_within n q e h =
      let read : r ≡ Ok n = ok_of r n e in
      let held = reads.number_read_is_held n read in
      let text : word ≡ text_of n = held_bare word n bare held.0 in
      let same : to_z w128 (of_z w128 n) ≡ n = to_z-of_z w128 n (record { sfits = ltb-true _ _ held.1 }) in
      fitting q (rw same at h) text
    where
      fitting : {E : Type 0} (q : Result ℤ E) → OkIff q (SFits w64 n) n → word ≡ text_of n → result_ok q ≡ number_in word
      fitting (Ok m) h text = ap Some h.1 ∙ sym (ap number_in text ∙ number_of_text n (lt-ltb _ _ h.0.sfits))
      fitting (Err x) h text = nothing_unless _ (λ m f.
          let t = text_of_number word m f in
          let one : n ≡ m = sym (text_spells n).has_the_value ∙ ap (signed_digits_value 10) (sym text ∙ t.0) ∙ (text_spells m).has_the_value in
          h (record { sfits = ltb-true _ _ (ap in_range one ∙ t.1) }))
