-- The text of an entry: its words, a comma between each two.
use Rattle.std.specs.Prelude.{ℕ, ◌^◌, ◌<◌, ◌≤◌, cond, List, [], ◌∷◌, length, map, codes}
use Rattle.std.specs.List.{All}
use Rattle.entries.specs.Numbers.{FitsI64, natural, number}
use Rattle.entries.specs.Words.{joined}
use Rattle.entries.specs.declared.entry.Entry.{Entry}
use Rattle.entries.specs.declared.entry.Entry.TheVariants.{Open, File, Post, Bill, Resettle, Pay, State, Close, Look}
use Rattle.entries.specs.declared.entry.MeterReading.{MeterReading}
use Rattle.entries.specs.declared.given_list.GivenList.{GivenList}
use Rattle.entries.specs.declared.given_list.GivenList.TheVariants.{Flat, Quarter}
use Rattle.entries.specs.declared.given_list.ListEntry.{ListEntry}
use Rattle.entries.specs.declared.journal_kind.JournalKind.{JournalKind}
use Rattle.entries.specs.declared.journal_kind.JournalKind.TheVariants.{Table, Entries}

-- the words of the journal, of a reading and of a rate list
abbrev pub journal_words : JournalKind → List (List ℕ)
journal_words (Table participants) = codes "table" ∷ natural participants ∷ []
journal_words (Entries records) = codes "entries" ∷ natural records ∷ []

abbrev pub meter_words : MeterReading → List (List ℕ)
meter_words r = number r.participant ∷ number r.month ∷ number r.kwh ∷ []

abbrev pub given_list_words : GivenList → List (List ℕ)
given_list_words (Flat rate) = codes "flat" ∷ natural rate ∷ []
given_list_words (Quarter first rates) = codes "quarter" ∷ natural first ∷ map natural rates

abbrev pub list_words : ListEntry → List (List ℕ)
list_words l = cond l.holding (codes "holding" ∷ given_list_words l.list) (given_list_words l.list)

-- the words of each entry
abbrev pub entry_words : Entry → List (List ℕ)
entry_words (Open year journal) = codes "open" ∷ natural year ∷ journal_words journal
entry_words (File project requirement) = codes "file" ∷ number project ∷ number requirement ∷ []
entry_words (Post forecast) = codes "post" ∷ number forecast ∷ []
entry_words (Bill reading) = codes "bill" ∷ meter_words reading
entry_words (Resettle reading) = codes "resettle" ∷ meter_words reading
entry_words Pay = codes "pay" ∷ []
entry_words (State project actual) = codes "state" ∷ number project ∷ number actual ∷ []
entry_words (Close list) = codes "close" ∷ list_words list
entry_words (Look project) = codes "look" ∷ number project ∷ []

-- the words with a comma between each two
abbrev pub entry_text : Entry → List ℕ
entry_text e = joined (entry_words e)

-- the ranges of their numbers
abbrev pub JournalFits : JournalKind → Type 0
JournalFits (Table participants) = participants < 2 ^ 16
JournalFits (Entries records) = records ≤ 1000000

abbrev pub MeterFits : MeterReading → Type 0
MeterFits r = FitsI64 r.participant × (FitsI64 r.month × FitsI64 r.kwh)

abbrev pub GivenListFits : GivenList → Type 0
GivenListFits (Flat rate) = rate < 2 ^ 32
GivenListFits (Quarter first rates) = (first < 2 ^ 32) × ((0 < length rates) × All (λ rate. rate < 2 ^ 32) rates)

-- its numbers are within their ranges, and a quarter list has a rate
abbrev pub Fits : Entry → Type 0
Fits (Open year journal) = (year < 2 ^ 16) × JournalFits journal
Fits (File project requirement) = FitsI64 project × FitsI64 requirement
Fits (Post forecast) = FitsI64 forecast
Fits (Bill reading) = MeterFits reading
Fits (Resettle reading) = MeterFits reading
Fits Pay = Unit {0}
Fits (State project actual) = FitsI64 project × FitsI64 actual
Fits (Close list) = GivenListFits list.list
Fits (Look project) = FitsI64 project
