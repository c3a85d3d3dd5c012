-- What a call answers, and what it leaves.
use Rattle.std.specs.Prelude.{◌≡◌, ℕ, List, ◌++◌, length, drop}

pub record Outcome (A S : Type 0) : Type 0 where
  pub answer : A
  pub after : S

-- the call gave this outcome
abbrev pub Gives : {A S : Type 0} → Outcome A S → A → S → Type 0
Gives o r s = (r ≡ o.answer) × (s ≡ o.after)

-- a text printed at the start of some bytes: the answer is its length, and the bytes after it stay as found
abbrev pub printed : List ℕ → List ℕ → Outcome ℕ (List ℕ)
printed text bytes = record { answer = length text; after = text ++ drop (length text) bytes }
