-- Two amounts are equal where their bits are.
use Rattle.std.proofs.Common.{◌≡◌, ℤ, true, false, nat_eq, w64, SFits, sym, ap, ◌∙◌, ⊎_elim, of_z, to_z}
use Rattle.std.proofs.lemmas.Bool.{cases_Bool, both_ways}
use Rattle.std.proofs.lemmas.Bool.Decides.{Decides-eqb, Decides-int_eq}
use Rattle.std.proofs.lemmas.Int.{to_z-of_z}
use Rattle.std.specs.Ordering.{int_eq}

pub same_bits : (x y : ℤ) → SFits w64 x → SFits w64 y → nat_eq (of_z w64 x) (of_z w64 y) ≡ int_eq x y
same_bits x y fx fy =
    ⊎_elim
    (λ (e : nat_eq (of_z w64 x) (of_z w64 y) ≡ true).
    let bits = (Decides-eqb (of_z w64 x) (of_z w64 y)).0 e in
    e ∙ sym ((Decides-int_eq x y).1 (sym (to_z-of_z w64 x fx) ∙ (ap (to_z w64) bits ∙ to_z-of_z w64 y fy))))
    (λ (e : nat_eq (of_z w64 x) (of_z w64 y) ≡ false).
    ⊎_elim
    (λ (i : int_eq x y ≡ true). absurd (both_ways (nat_eq (of_z w64 x) (of_z w64 y)) e ((Decides-eqb _ _).1 (ap (of_z w64) ((Decides-int_eq x y).0 i)))))
    (λ (i : int_eq x y ≡ false). e ∙ sym i)
    (cases_Bool (int_eq x y)))
    (cases_Bool (nat_eq (of_z w64 x) (of_z w64 y)))
