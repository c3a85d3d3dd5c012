-- What a call gives: its answer, and the book after it.
use Rattle.std.specs.Prelude.{◌≡◌, Bool, ℤ, pos, Ok, Err, Result}
use Rattle.questions.specs.Questions.{within}
use Rattle.settlement.specs.declared.refusal.Refusal.{Refusal}
use Rattle.settlement.specs.Books.{BookView}

pub record Outcome (A : Type 0) : Type 0 where
  pub answer : Result A Refusal
  pub after : BookView

-- the call gave this outcome
abbrev pub Gives : {A : Type 0} → Outcome A → Result A Refusal → BookView → Type 0
Gives o answer b = (answer ≡ o.answer) × (b ≡ o.after)

-- an accepted call
abbrev pub done : {A : Type 0} → A → BookView → Outcome A
done x b = record { answer = Ok x; after = b }

-- a refusal changes nothing
abbrev pub refused : {A : Type 0} → BookView → Refusal → Outcome A
refused b why = record { answer = Err why; after = b }

-- a project number
abbrev pub is_project : ℤ → Bool
is_project number = within (pos 1) (pos 99999999) number

-- a filed or stated amount, and column 16, in dollars
abbrev pub in_dollars : ℤ → Bool
in_dollars x = within (pos 0) (pos 100000000) x

-- the year's money, in cents
abbrev pub in_money : ℤ → Bool
in_money x = within (pos 0) (pos 90000000000) x
