-- What the laws of a journal say of kilowatt-hours that it holds.
use Rattle.std.proofs.Common.{◌≡◌, ℕ, ◌≤◌, true, Some, None, Option, IfSome, sym, arith}
use Rattle.std.proofs.lemmas.Bool.Decides.{nat_tests}
use Rattle.journals.specs.Journal.{Held, Pair}
use Rattle.journals.specs.Calls.{HeldWithinLimitAtPlacesInRange, Places}

module _ (held : Held) (place : Places) (laws : HeldWithinLimitAtPlacesInRange held place) (pair : Pair) where
  pub held_at_most : (o : Option ℕ) → o ≡ held pair → IfSome o (λ kwh. kwh ≤ 10000000000)
  held_at_most None e = tt
  held_at_most (Some kwh) e = let h = laws.held_number_is_at_most_the_limit pair kwh (sym e) in grind (arith, nat_tests)

  pub held_has_a_place : (o : Option ℕ) → o ≡ held pair → IfSome o (λ kwh. place pair ≡ true)
  held_has_a_place None e = tt
  held_has_a_place (Some kwh) e = laws.held_pair_has_a_place pair kwh (sym e)
