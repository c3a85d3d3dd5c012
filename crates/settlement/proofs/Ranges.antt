-- What an answered question about a range tells.
use Rattle.std.proofs.Common.{◌≡◌, true, ℤ, ◌≤ℤ◌}
use lib.Signed.{le_z}
use Rattle.std.proofs.lemmas.Bool.{and_parts}
use Rattle.std.proofs.lemmas.Bool.Decides.{Decides-int_eq}
use Rattle.std.specs.Ordering.{int_eq}
use Rattle.questions.specs.Questions.{within}

le_from : (x y : ℤ) → le_z x y ≡ true → x ≤ℤ y
le_from x y e = record { le = rw e tt }

pub at_least : (low high x : ℤ) → within low high x ≡ true → low ≤ℤ x
at_least low high x e = le_from low x (and_parts (le_z low x) (le_z x high) e).0

pub equal_is : (x y : ℤ) → int_eq x y ≡ true → x ≡ y
equal_is x y e = (Decides-int_eq x y).0 e
