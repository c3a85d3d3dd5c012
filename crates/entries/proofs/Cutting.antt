-- Joined words are cut into just those words.
use Rattle.std.proofs.Common.{◌≡◌, ℕ, ◌+◌, ◌<◌, false, not, cond, eqb, ltb, List, [], ◌∷◌, ◌++◌, length, get_or, take, drop, ℤ, pos, negsuc, Some, sym, refl, ap, ◌∙◌, subst, add-one, drop-cons, arith}
use Rattle.std.specs.List.{All, join_with_byte, position, position_or_len, slice_split}
use Rattle.std.proofs.Math.Seq.{drop-append-add}
use Rattle.std.proofs.lemmas.Bool.{cond-true, eq-eqb, eqb-true, lt-ltb}
use Rattle.std.proofs.lemmas.List.{length-drop, take-append-drop, take_at}
use Rattle.std.proofs.lemmas.List.Elements.{All-head, All-tail}
use Rattle.std.proofs.lemmas.List.Quantifiers.{position-Some}
use Rattle.std.proofs.lemmas.List.Splits.{slice_split_at, slice_split_none}
use Rattle.columns.proofs.Bytes.{Lacks, text_lacks}
use Rattle.columns.proofs.Digits.{some_digit}
use Rattle.columns.proofs.Spelling.{text_at_least_zero}
use Rattle.entries.specs.Numbers.{number}
use Rattle.entries.specs.Words.{first_word, is_comma, words_after}

abbrev pub NoComma : List ℕ → Type 0
NoComma word = Lacks 44 word

comma_at : (word rest : List ℕ) → NoComma word → position_or_len is_comma (word ++ (44 ∷ rest)) ≡ length word
comma_at [] rest h = refl
comma_at (b ∷ bs) rest h =
    let P : ℕ → Type 0 = λ b. is_comma b ≡ false in
    ap (λ t. cond (not t) (1 + position_or_len is_comma (bs ++ (44 ∷ rest))) 0) (All-head P b bs h) ∙ omega (arith, comma_at bs rest (All-tail P b bs h))

-- the first word and what follows it
pub cut : (word rest : List ℕ) → NoComma word → (first_word (word ++ (44 ∷ rest)) ≡ word) × (words_after (word ++ (44 ∷ rest)) ≡ rest)
cut word rest h =
    let at = comma_at word rest h in (
      take_at word (44 ∷ rest) _ (sym at),
      ap (λ k. drop (k + 1) (word ++ (44 ∷ rest))) at ∙ drop-append-add word (44 ∷ rest) 1,
    )

pub cut_is : (text word rest : List ℕ) → first_word text ≡ word → words_after text ≡ rest → 0 < length rest → text ≡ word ++ (44 ∷ rest)
cut_is text word rest f w some =
    let at : ℕ = position_or_len is_comma text in
    let within : at < length text = omega (arith, length-drop (at + 1) text, ap length w) in
    let found : position is_comma text ≡ Some at = cond-true (ltb at (length text)) (Some at) _ (lt-ltb _ _ within) in
    let is : get_or text at 0 ≡ 44 = eqb-true _ 44 (position-Some is_comma text at 0 found).1 in
    sym (take-append-drop at text) ∙ (λ i. take at text ++ (drop-cons text at 0 within ∙ (λ j. is j ∷ drop (sym (add-one at) j) text)) i) ∙ (λ i. f i ++ (44 ∷ w i))

pub number_no_comma : (n : ℤ) → NoComma (number n)
number_no_comma n = text_lacks 44 (omega arith) n

pub number_some : (n : ℤ) → 0 < length (number n)
number_some (pos m) = subst (λ ds. 0 < length ds) (sym (text_at_least_zero m)) (some_digit m)
number_some (negsuc m) = omega arith

-- joined words are split into just those words
pub split_joined : (c : ℕ) (word : List ℕ) (others : List (List ℕ)) → Lacks c word → All (Lacks c) others → slice_split (λ b. eqb b c) (join_with_byte c (word ∷ others)) ≡ word ∷ others
split_joined c word [] h hs = slice_split_none (λ b. eqb b c) word h
split_joined c word (next ∷ others) h hs =
    slice_split_at (λ b. eqb b c) word c (join_with_byte c (next ∷ others)) h (eq-eqb c c refl) ∙ ap (λ ws. word ∷ ws) (split_joined c next others (All-head (Lacks c) next others hs) (All-tail (Lacks c) next others hs))
