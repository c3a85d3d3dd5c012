-- What is read of a reader that is cut off is the beginning of its bytes.
use Rattle.std.proofs.Common.{◌≡◌, ℕ, List, [], ◌++◌, take, IfSome, Some, None, Option, ◌∙◌, ap}
use Rattle.std.specs.Option.{option_map}
use Rattle.std.specs.Io.Take.{take_inner, take_limit, take_remaining}
use Rattle.std.specs.declared.io.traits.Take.{Take}

mapped : (f g : List ℕ → List ℕ) → ((xs : List ℕ) → g (f xs) ≡ f xs) → (o : Option (List ℕ)) (items : List ℕ) → IfSome (option_map f o) (λ xs. items ≡ g xs) → IfSome o (λ xs. items ≡ f xs)
mapped f g same None items h = tt
mapped f g same (Some xs) items h = h ∙ same xs

pub read_up_to : {R : Type 0} (remaining : R → Option (List ℕ)) (t : Take R) (before items : List ℕ) → before ≡ [] → IfSome (take_remaining remaining t) (λ xs. items ≡ before ++ xs) →
    IfSome (remaining (take_inner t)) (λ xs. items ≡ take (take_limit t) xs)
read_up_to remaining t before items none h = mapped (take (take_limit t)) (λ xs. before ++ xs) (λ xs. ap (λ b. b ++ take (take_limit t) xs) none) (remaining (take_inner t)) items h
