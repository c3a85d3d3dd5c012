-- A question that a function asks.
use Rattle.std.specs.Prelude.{◌≡◌, Bool, true, false, Result, MatchResult}
use Rattle.settlement.specs.declared.refusal.Refusal.{Refusal}

-- where the question is answered with yes, this holds of the answer; where it is answered with no, this is the refusal
abbrev pub Asks : {A : Type 0} → Bool → Refusal → (A → Type 0) → Result A Refusal → Type 0
Asks holds otherwise Yes answer = MatchResult answer (λ x. (holds ≡ true) × Yes x) (λ why. (holds ≡ false) × (why ≡ otherwise))
