-- What every journal keeps, and what its calls give.
use Rattle.std.specs.Prelude.{◌≡◌, ◌≢◌, ℕ, Bool, false, ◌&&◌, Some, None, Result, IsOk, IsTrue, MatchResult, nat_le}
use Rattle.journals.specs.Journal.{most, Pair, in_range, Held, holding}
use Rattle.journals.specs.declared.refusal.Refusal.{Refusal}
use Rattle.journals.specs.declared.refusal.Refusal.TheVariants.{NoPlace}

-- for each pair, whether it has a place
abbrev pub Places : Type 0
Places = Pair → Bool

-- the laws of every journal
pub record HeldWithinLimitAtPlacesInRange (held : Held) (place : Places) : Type 0 where
  pub held_pair_has_a_place : (q : Pair) (kwh : ℕ) → held q ≡ Some kwh → IsTrue (place q)
  pub held_number_is_at_most_the_limit : (q : Pair) (kwh : ℕ) → held q ≡ Some kwh → IsTrue (nat_le kwh most)
  pub pair_out_of_range_has_no_place : (q : Pair) → IsTrue (place q) → IsTrue (in_range q)

-- every pair has the same
abbrev pub Same : {A : Type 0} → (Pair → A) → (Pair → A) → Type 0
Same before after = (q : Pair) → after q ≡ before q

-- whether a put is accepted
abbrev pub accepts : Places → Pair → ℕ → Bool
accepts place pair kwh = place pair && nat_le kwh most

-- a put: the number held under the pair, where it is accepted; else refused, the journal itself unchanged
abbrev pub Puts : {J : Type 0} → (J → Held) → (J → Places) → (J → Pair → J → Type 0) → J → Pair → ℕ → Result (Unit {0}) Refusal → J → Type 0
Puts held place leaves before pair kwh answer after = MatchResult answer
    (λ _. IsTrue (accepts (place before) pair kwh) × Same (holding (held before) pair kwh) (held after) × leaves before pair after)
    (λ why. (accepts (place before) pair kwh ≡ false) × (why ≡ NoPlace) × (after ≡ before))

-- the same of the numbers that look answers, pair by pair
pub record PutThenLook (before : Held) (pair : Pair) (kwh : ℕ) (answer : Result (Unit {0}) Refusal) (after : Held) : Type 0 where
  pub what_was_put_is_answered : IsOk answer → after pair ≡ Some kwh
  pub every_other_pair_answers_as_before : (q : Pair) → q ≢ pair → after q ≡ before q
  pub second_put_replaces_the_first : (earlier : Held) (first : ℕ) → Same (holding earlier pair first) before → IsOk answer → Same (holding earlier pair kwh) after

-- no pair holds a number
abbrev pub NothingHeld : Held → Type 0
NothingHeld held = (q : Pair) → held q ≡ None
