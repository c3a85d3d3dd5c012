-- Sums over a list.
use Rattle.std.proofs.Common.{◌≡◌, List, [], ◌∷◌, ◌++◌, map, ℤ, ◌+ℤ◌, refl, ap, arith}
use Rattle.std.proofs.lemmas.Int.{ints}
use Rattle.settlement.specs.Rules.{sum_over}

module _ {X : Type 0} (f : X → ℤ) where
  pub sum_push : (xs : List X) (x : X) → sum_over f (xs ++ x ∷ []) ≡ (sum_over f xs +ℤ f x)
  sum_push [] x = omega (arith, ints)
  sum_push (y ∷ ys) x = let rest = sum_push ys x in omega (arith, ints)

  pub sum_plus : (g : X → ℤ) (xs : List X) → sum_over (λ x. f x +ℤ g x) xs ≡ (sum_over f xs +ℤ sum_over g xs)
  sum_plus g [] = refl
  sum_plus g (x ∷ xs) = let rest = sum_plus g xs in omega (arith, ints)

  pub sum_map : {Y : Type 0} (g : Y → X) (ys : List Y) → sum_over f (map g ys) ≡ sum_over (λ y. f (g y)) ys
  sum_map g [] = refl
  sum_map g (y ∷ ys) = ap (λ z. f (g y) +ℤ z) (sum_map g ys)
