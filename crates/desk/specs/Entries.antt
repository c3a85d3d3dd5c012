-- What an entry gives on the open book: its answer, and the book after it.
use Rattle.std.specs.Prelude.{◌≡◌, Ok, Err, Result}
use Rattle.answers.specs.declared.answer.Answer.{Answer}
use Rattle.answers.specs.declared.answer.Answer.TheVariants as answer
use Rattle.entries.specs.Lists.{HasQuarterRates, rates_given}
use Rattle.entries.specs.declared.entry.Entry.{Entry}
use Rattle.entries.specs.declared.entry.Entry.TheVariants.{Open, File, Post, Bill, Resettle, Pay, State, Close, Look}
use Rattle.book.specs.Views.{Leaves}
use Rattle.journals.specs.Calls.{Places}
use Rattle.journals.specs.Journal.{Pair}
use Rattle.rates.specs.Factor.{interest_months}
use Rattle.rates.specs.Rates.{Rates}
use Rattle.settlement.specs.declared.refusal.Refusal.{Refusal}
use Rattle.settlement.specs.Billing.{billed, resettled}
use Rattle.settlement.specs.Books.{BookView}
use Rattle.settlement.specs.Closing.{closed}
use Rattle.settlement.specs.Drafting.{filed, posted}
use Rattle.settlement.specs.Looking.{looked}
use Rattle.settlement.specs.Stating.{stated}
use Rattle.settlement.specs.Outcomes.{Outcome, done}
use Rattle.settlement.specs.Paying.{paid}
use Rattle.settlement.specs.Rules.{pair_of}

-- an accepted answer, said as one of a daybook; a refusal stays
abbrev pub said : {A : Type 0} → (A → Answer) → Result A Refusal → Result Answer Refusal
said say (Ok x) = Ok (say x)
said say (Err why) = Err why

-- a call, with what an accepted one answers
abbrev pub saying : {A : Type 0} → (A → Answer) → Outcome A → Outcome Answer
saying say o = record { answer = said say o.answer; after = o.after }

-- a close answers the year that is then open
abbrev pub closing : BookView → Rates → Outcome Answer
closing b rates =
    let o = closed interest_months b (record { rates = rates }) in
    saying (λ _. answer.Closed o.after.year) o

-- the call of an entry; an open begins another book
abbrev pub called : BookView → Places → Entry → Outcome Answer
called b place (Open year journal) = done answer.Unread b
called b place (File project requirement) = saying (λ _. answer.Filed) (filed b project requirement)
called b place (Post forecast) = saying answer.Rate (posted b forecast)
called b place (Bill r) = saying answer.Charge (billed b (place (pair_of r.participant r.month)) r.participant r.month r.kwh)
called b place (Resettle r) = saying answer.Change (resettled b r.participant r.month r.kwh)
called b place Pay = saying (λ p. answer.Paid p.0 p.1) (paid b)
called b place (State project actual) = saying (λ _. answer.Stated) (stated b project actual)
called b place (Close list) = closing b (rates_given list)
called b place (Look project) = saying answer.Row (looked b project)

-- a refusal is told as an answer too
abbrev pub told : Result Answer Refusal → Answer
told (Ok answer) = answer
told (Err why) = answer.Refused why

-- the entry has this answer, and the book is then as its call leaves it
abbrev pub Performs : Outcome Answer → Answer → BookView → Type 0
Performs o answer b = (answer ≡ told o.answer) × (b ≡ o.after)

-- the journal after an entry: after an accepted bill or resettlement as a put leaves it, after an accepted close as a wipe does, and else as it was
abbrev pub JournalLeft : {J : Type 0} → (J → Pair → J → Type 0) → (J → J → Type 0) → Entry → Result Answer Refusal → J → J → Type 0
JournalLeft put wipe (Bill r) answer before after = Leaves (λ b a. put b (pair_of r.participant r.month) a) before answer after
JournalLeft put wipe (Resettle r) answer before after = Leaves (λ b a. put b (pair_of r.participant r.month) a) before answer after
JournalLeft put wipe (Close list) answer before after = Leaves wipe before answer after
JournalLeft put wipe (Open year journal) answer before after = after ≡ before
JournalLeft put wipe (File project requirement) answer before after = after ≡ before
JournalLeft put wipe (Post forecast) answer before after = after ≡ before
JournalLeft put wipe Pay answer before after = after ≡ before
JournalLeft put wipe (State project actual) answer before after = after ≡ before
JournalLeft put wipe (Look project) answer before after = after ≡ before

-- a close by a list that has the rates of quarters; no other entry is answered by want of memory
abbrev pub ClosesByQuarterRates : Entry → Type 0
ClosesByQuarterRates (Close list) = HasQuarterRates list
ClosesByQuarterRates (Open year journal) = ⊥
ClosesByQuarterRates (File project requirement) = ⊥
ClosesByQuarterRates (Post forecast) = ⊥
ClosesByQuarterRates (Bill r) = ⊥
ClosesByQuarterRates (Resettle r) = ⊥
ClosesByQuarterRates Pay = ⊥
ClosesByQuarterRates (State project actual) = ⊥
ClosesByQuarterRates (Look project) = ⊥
