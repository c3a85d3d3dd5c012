-- The seven calls, each with its arguments and its answer, and what the tally is told of them.
use Rattle.std.specs.Prelude.{Bool, ℤ, is_ok, Some, None, Ok, Err, Option, Result}
use Rattle.settlement.specs.declared.refusal.Refusal.{Refusal}
use Rattle.settlement.specs.Lists.{Lists}

-- what a call answers, or its refusal
abbrev pub Answer : Type 0 → Type 0
Answer A = Result A Refusal

-- a close has the meaning of its rate list
pub data Call : Type 0 where
  file : ℤ → ℤ → Answer (Unit {0}) → Call
  post : ℤ → Answer ℤ → Call
  bill : ℤ → ℤ → ℤ → Answer ℤ → Call
  resettle : ℤ → ℤ → ℤ → Answer ℤ → Call
  pay : Answer (ℤ × ℤ) → Call
  state : ℤ → ℤ → Answer (Unit {0}) → Call
  close : Lists → Answer (Unit {0}) → Call

-- what the tally is told: the arguments, whether the call was accepted, and what an accepted post and pay answered
pub data Fed : Type 0 where
  fed_file : ℤ → ℤ → Bool → Fed
  fed_post : ℤ → Option ℤ → Fed
  fed_bill : ℤ → ℤ → ℤ → Bool → Fed
  fed_resettle : ℤ → ℤ → ℤ → Bool → Fed
  fed_pay : Option (ℤ × ℤ) → Fed
  fed_state : ℤ → ℤ → Bool → Fed
  fed_close : Lists → Bool → Fed

-- the answer of an accepted call
abbrev pub accepted : {A : Type 0} → Answer A → Option A
accepted (Ok x) = Some x
accepted (Err why) = None

-- what the tally is told of a call
abbrev pub fed : Call → Fed
fed (file project requirement answer) = fed_file project requirement (is_ok answer)
fed (post forecast answer) = fed_post forecast (accepted answer)
fed (bill participant month kwh answer) = fed_bill participant month kwh (is_ok answer)
fed (resettle participant month kwh answer) = fed_resettle participant month kwh (is_ok answer)
fed (pay answer) = fed_pay (accepted answer)
fed (state project actual answer) = fed_state project actual (is_ok answer)
fed (close lists answer) = fed_close lists (is_ok answer)
