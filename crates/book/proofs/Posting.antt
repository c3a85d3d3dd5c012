-- A posted usage rate is the nearest, from the laws of rounding.
use Rattle.std.proofs.Common.{ℤ, pos, ◌*ℤ◌, Ok, Err, Result, IfOk, arith}
use Rattle.std.proofs.lemmas.Int.{ints}
use Rattle.amounts.proofs.Laws.{rounded_is_nearest}
use Rattle.amounts.specs.Rounding.{Nearest}
use Rattle.settlement.specs.declared.refusal.Refusal.{Refusal}
use Rattle.settlement.specs.declared.state.State.TheVariants.{Posted}
use Rattle.settlement.specs.Books.{BookView, total_of, with_state}
use Rattle.settlement.specs.Drafting.{post_questions, posted, rate_for}
use Rattle.settlement.specs.Outcomes.{Gives}
use Rattle.settlement.specs.Rules.{unsigned}
use Rattle.settlement.proofs.Asking.{asked_ok}
use Rattle.settlement.proofs.Ranges.{at_least}
use Rattle.settlement.proofs.Shares.{unsigned_is}

pub posted_rate_is_nearest : (b b' : BookView) (forecast : ℤ) (answer : Result ℤ Refusal) → Gives (posted b forecast) answer b' → IfOk answer (λ rate. Nearest (total_of b.rows *ℤ pos 10000) (unsigned forecast) rate)
posted_rate_is_nearest b b' forecast (Err why) g = tt
posted_rate_is_nearest b b' forecast (Ok rate) g =
    let h = asked_ok b (rate_for b forecast) (with_state (Posted (rate_for b forecast)) b) b' rate (post_questions b forecast) g in
    let least = at_least (pos 1) (pos 1000000000) forecast h.0.1.1.0 in
    let is = unsigned_is forecast (omega (arith, ints)) in
    rw h.1 (rounded_is_nearest (total_of b.rows *ℤ pos 10000) (unsigned forecast) (omega (arith, ints)))
