-- A remark stays one without the carriage return and the commas at its end.
use Rattle.std.proofs.Common.{◌≡◌, ℕ, true, false, eqb, List, [], ◌∷◌, ◌++◌, reverse, refl, sym, ap, ◌∙◌, ⊎_elim, subst, arith}
use Rattle.std.specs.Str.Lines.{strip_carriage_return}
use Rattle.std.proofs.lemmas.Bool.{cases_Bool, cond-false, cond-true, eqb-true, false≢true}
use Rattle.std.proofs.lemmas.Grind.{common_steps}
use Rattle.std.proofs.lemmas.List.{reverse-append}
use Rattle.entries.specs.Lines.{begins_with_hash, content_of, line_in, passed_over, past_commas, without_commas}
use Rattle.entries.specs.declared.line.Line.TheVariants.{Passed}

past_commas_before : (ys : List ℕ) (x : ℕ) → eqb x 44 ≡ false → past_commas (ys ++ (x ∷ [])) ≡ past_commas ys ++ (x ∷ [])
past_commas_before [] x h = cond-false (eqb x 44) _ _ h
past_commas_before (y ∷ ys) x h =
    ⊎_elim
    (λ t. cond-true (eqb y 44) _ _ t ∙ past_commas_before ys x h ∙ ap (λ r. r ++ (x ∷ [])) (sym (cond-true (eqb y 44) _ _ t)))
    (λ f. cond-false (eqb y 44) _ _ f ∙ ap (λ r. r ++ (x ∷ [])) (sym (cond-false (eqb y 44) _ _ f)))
    (cases_Bool (eqb y 44))

commas_behind : (x : ℕ) (l : List ℕ) → eqb x 44 ≡ false → without_commas (x ∷ l) ≡ x ∷ without_commas l
commas_behind x l h =
    ap (λ r. reverse (past_commas r)) (reverse-append (x ∷ []) l) ∙ ap reverse (past_commas_before (reverse l) x h) ∙ reverse-append (past_commas (reverse l)) (x ∷ [])

return_behind : (x : ℕ) (l : List ℕ) → eqb x 13 ≡ false → strip_carriage_return (x ∷ l) ≡ x ∷ strip_carriage_return l
return_behind x [] h = cond-false (eqb x 13) _ _ h
return_behind x (y ∷ ys) h = grind (arith, common_steps)

-- the first byte of a line stays
begins : (x : ℕ) (l : List ℕ) → eqb x 13 ≡ false → eqb x 44 ≡ false → content_of (x ∷ l) ≡ x ∷ content_of l
begins x l r c = ap without_commas (return_behind x l r) ∙ commas_behind x (strip_carriage_return l) c

hash_stays : (l : List ℕ) → begins_with_hash l ≡ true → begins_with_hash (content_of l) ≡ true
hash_stays [] e = absurd (false≢true e)
hash_stays (b ∷ bs) e = subst (λ x. begins_with_hash (content_of (x ∷ bs)) ≡ true) (sym (eqb-true b 35 e)) (ap begins_with_hash (begins 35 bs refl refl))

quoted_stays : (bs : List ℕ) → begins_with_hash bs ≡ true → passed_over (content_of (34 ∷ bs)) ≡ true
quoted_stays bs e = ap passed_over (begins 34 bs refl refl) ∙ hash_stays bs e

pub stays : (line : List ℕ) → passed_over line ≡ true → passed_over (content_of line) ≡ true
stays [] e = refl
stays (b ∷ bs) e =
    ⊎_elim
    (λ t. subst (λ x. passed_over (content_of (x ∷ bs)) ≡ true) (sym (eqb-true b 35 t)) (ap passed_over (begins 35 bs refl refl)))
    (λ f. ⊎_elim
    (λ t. subst (λ x. passed_over (content_of (x ∷ bs)) ≡ true) (sym (eqb-true b 34 t)) (quoted_stays bs (grind (arith, common_steps))))
    (λ g. absurd (grind (arith, common_steps)))
    (cases_Bool (eqb b 34)))
    (cases_Bool (eqb b 35))

pub remark_is_passed : (line : List ℕ) → passed_over line ≡ true → line_in line ≡ Passed
unfolding line_in
remark_is_passed line e = cond-true (passed_over (content_of line)) Passed _ (stays line e)
