-- What look answers after a put, pair by pair.
use Rattle.std.proofs.Common.{◌≡◌, ◌≢◌, ◌∙◌, ℕ, Bool, Option, true, false, cond, Some, Ok, ⊎_elim, refl, sym}
use Rattle.std.proofs.lemmas.Bool.{cases_Bool, and_from, eq-eqb}
use Rattle.journals.specs.Journal.{Pair, Held, same_pair, holding}
use Rattle.journals.specs.Calls.{Same, PutThenLook}
use Rattle.journals.specs.EntryLaws.{same_pairs}

itself : (pair : Pair) → same_pair pair pair ≡ true
itself pair = and_from _ _ (eq-eqb pair.0 pair.0 refl) (eq-eqb pair.1 pair.1 refl)

apart : (pair q : Pair) → q ≢ pair → same_pair pair q ≡ false
apart pair q other = ⊎_elim
    (λ (same : same_pair pair q ≡ true). absurd (other (sym (same_pairs pair q same))))
    (λ (apart : same_pair pair q ≡ false). apart)
    (cases_Bool (same_pair pair q))

twice : (b : Bool) (x y z : Option ℕ) → cond b x (cond b y z) ≡ cond b x z
twice true x y z = refl
twice false x y z = refl

pub then_look : (before after : Held) (pair : Pair) (kwh : ℕ) → Same (holding before pair kwh) after → PutThenLook before pair kwh (Ok tt) after
then_look before after pair kwh holds = record {
  what_was_put_is_answered = λ _. holds pair ∙ rw (itself pair);
  every_other_pair_answers_as_before = λ q other. holds q ∙ rw (apart pair q other);
  second_put_replaces_the_first = λ earlier first was _ q. holds q ∙ rw (was q) (twice (same_pair pair q) (Some kwh) (Some first) (earlier q));
}
