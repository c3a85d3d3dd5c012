-- A line without the carriage return at its end, and without the commas.
use Rattle.std.proofs.Common.{◌≡◌, ◌≢◌, ℕ, ◌-◌, ◌<◌, eqb, List, [], ◌∷◌, ◌++◌, length, get_or, take, drop, reverse, Bor, MatchOption, Option, Some, None, sym, ap, ◌∙◌, ⊎_elim, arith}
use Rattle.std.specs.Option.{unwrap_or}
use Rattle.std.specs.Str.Lines.{strip_carriage_return}
use Rattle.entries.specs.Lines.{past_commas, without_commas}
use Rattle.std.proofs.lemmas.Bool.{cases_Bool, cond-false, cond-true, eq-eqb, eqb-true}
use Rattle.std.proofs.lemmas.Grind.{common_steps, reverse_onto}
use Rattle.std.proofs.lemmas.List.{length_push, reverse-append, reverse-reverse, take-append-drop, take_at}

ends_in_one : (front : List ℕ) → strip_carriage_return (front ++ (13 ∷ [])) ≡ front
ends_in_one front =
    let n : length (front ++ (13 ∷ [])) - 1 ≡ length front = omega (arith, length_push front 13) in
    let last : get_or (front ++ (13 ∷ [])) (length (front ++ (13 ∷ [])) - 1) 0 ≡ 13 = grind (arith, common_steps) in
    cond-true (eqb (get_or (front ++ (13 ∷ [])) (length (front ++ (13 ∷ [])) - 1) 0) 13) _ _ (eq-eqb _ _ last) ∙ take_at front (13 ∷ []) _ (sym n)

ends_in_none : (line : List ℕ) → ((front : List ℕ) → line ≢ front ++ (13 ∷ [])) → line ≡ strip_carriage_return line
ends_in_none line never =
    ⊎_elim
    (λ t. absurd (let last = eqb-true _ 13 t in
    let some : 0 < length line = grind (arith, common_steps) in
    let rest : drop (length line - 1) line ≡ 13 ∷ [] = grind (arith, common_steps) in
    never (take (length line - 1) line) (sym (take-append-drop (length line - 1) line) ∙ ap (λ x. take (length line - 1) line ++ x) rest)))
    (λ f. sym (cond-false (eqb (get_or line (length line - 1) 0) 13) _ _ f))
    (cases_Bool (eqb (get_or line (length line - 1) 0) 13))

pub stripped : (line : List ℕ) (b : Bor (List ℕ)) (r : Option (Bor (List ℕ))) → b.now ≡ line → MatchOption r ((front : List ℕ) → line ≢ front ++ (13 ∷ [])) (λ x. line ≡ x.now ++ (13 ∷ [])) → (unwrap_or r b).now ≡ strip_carriage_return line
stripped line b None e h = e ∙ ends_in_none line h
stripped line b (Some x) e h = sym (ap strip_carriage_return h ∙ ends_in_one x.now)

pub comma_left_out : (front : List ℕ) → without_commas (front ++ (44 ∷ [])) ≡ without_commas front
comma_left_out front = ap (λ r. reverse (past_commas r)) (reverse-append front (44 ∷ []))

pub no_comma_at_the_end : (line : List ℕ) → ((front : List ℕ) → line ≢ front ++ (44 ∷ [])) → without_commas line ≡ line
no_comma_at_the_end line never = by (reverse line) (sym (reverse-reverse line))
  where
    by : (r : List ℕ) → line ≡ reverse r → reverse (past_commas r) ≡ line
    by [] e = sym e
    by (b ∷ bs) e =
        ⊎_elim
        (λ t. absurd (never (reverse bs) (e ∙ reverse_onto bs b [] ∙ ap (λ x. reverse bs ++ (x ∷ [])) (eqb-true _ 44 t))))
        (λ f. ap reverse (cond-false (eqb b 44) _ _ f) ∙ sym e)
        (cases_Bool (eqb b 44))
