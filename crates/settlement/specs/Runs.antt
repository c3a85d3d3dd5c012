-- Runs of calls on a book, over any type of books with a view, and any places of their journals.
use Rattle.std.specs.Prelude.{Bool, List, [], ◌∷◌}
use Rattle.journals.specs.Journal.{Pair}
use Rattle.rates.specs.Factor.{interest_months}
use Rattle.settlement.specs.Books.{BookView}
use Rattle.settlement.specs.Billing.{billed, resettled}
use Rattle.settlement.specs.Calls.{Call, file, post, bill, resettle, pay, state, close}
use Rattle.settlement.specs.Closing.{closed}
use Rattle.settlement.specs.Drafting.{filed, posted}
use Rattle.settlement.specs.Stating.{stated}
use Rattle.settlement.specs.Outcomes.{Gives}
use Rattle.settlement.specs.Paying.{paid}
use Rattle.settlement.specs.Rules.{pair_of}

-- one call takes a book to the next, as its outcome says
abbrev pub Step : {B : Type 0} → (B → BookView) → (B → Pair → Bool) → Call → B → B → Type 0
Step view place (file project requirement answer) b b' = Gives (filed (view b) project requirement) answer (view b')
Step view place (post forecast answer) b b' = Gives (posted (view b) forecast) answer (view b')
Step view place (bill participant month kwh answer) b b' = Gives (billed (view b) (place b (pair_of participant month)) participant month kwh) answer (view b')
Step view place (resettle participant month kwh answer) b b' = Gives (resettled (view b) participant month kwh) answer (view b')
Step view place (pay answer) b b' = Gives (paid (view b)) answer (view b')
Step view place (state project actual answer) b b' = Gives (stated (view b) project actual) answer (view b')
Step view place (close lists answer) b b' = Gives (closed interest_months (view b) lists) answer (view b')

-- calls, the newest first, that take a book from one end to the other
pub data Run {B : Type 0} (view : B → BookView) (place : B → Pair → Bool) (start : B) : List Call → B → Type 0 where
  no_call : Run view place start [] start
  one_more : {calls : List Call} (c : Call) (b b' : B) → Run view place start calls b → Step view place c b b' → Run view place start (c ∷ calls) b'
