-- A book as its reader sees it, over any journal.
use Rattle.std.specs.Prelude.{◌≡◌, Result, MatchResult}
use Rattle.journals.specs.Calls.{Places}
use Rattle.journals.specs.Journal.{Held, Pair}
use Rattle.settlement.specs.declared.refusal.Refusal.{Refusal}
use Rattle.settlement.specs.Books.{BookView}
use Rattle.book.specs.Tables.{book_of}
use Rattle.book.specs.declared.book.Book.{Book}
use Rattle.book.specs.declared.reading.Reading.{Reading}

-- the view of a book whose journal means `held`
abbrev pub view : {J : Type 0} → (J → Held) → Book J → BookView
view held b = book_of (held b.journal) b.table

-- the places of its journal
abbrev pub places : {J : Type 0} → (J → Places) → Book J → Places
places place b = place b.journal

-- a journal after a call: as the call leaves it where it is accepted, and else as it was
abbrev pub Leaves : {J A : Type 0} → (J → J → Type 0) → J → Result A Refusal → J → Type 0
Leaves leaves before answer after = MatchResult answer (λ _. leaves before after) (λ _. after ≡ before)

-- the participant and the month of a reading
abbrev pub pair_in : Reading → Pair
pair_in r = (r.participant, r.month)
