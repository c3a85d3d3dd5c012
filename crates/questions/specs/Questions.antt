-- The questions before a call: in their order, each with the refusal where its answer is no.
use Rattle.std.specs.Prelude.{Bool, cond, ◌&&◌, List, [], ◌∷◌, ℤ, int_le}

-- low ≤ x ≤ high
abbrev pub within : ℤ → ℤ → ℤ → Bool
within low high x = int_le low x && int_le x high

-- a question, with the refusal where its answer is no
pub record Question (E : Type 0) : Type 0 where
  pub holds : Bool
  pub otherwise : E

abbrev pub ask : {E : Type 0} → Bool → E → Question E
ask b why = record { holds = b; otherwise = why }

-- the questions in their order: the first that is answered no gives what `refuse` makes of its refusal; where none is, x is given
abbrev pub asked : {E X : Type 0} → (E → X) → List (Question E) → X → X
asked refuse [] x = x
asked refuse (q ∷ qs) x = cond q.holds (asked refuse qs x) (refuse q.otherwise)
