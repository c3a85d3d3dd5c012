-- The entry in a line, word by word.
use Rattle.std.specs.Prelude.{ℕ, Bool, cond, List, Some, None, Option, codes, nat_le}
use Rattle.std.specs.Option.{option_and_then, option_map, option_zip}
use Rattle.std.specs.Str.{bytes_eq}
use Rattle.entries.specs.Words.{first_word, words_after}
use Rattle.entries.specs.Numbers.{number_in, two_numbers_in, u16_in, u32_in}
use Rattle.entries.specs.Rates.{rates_in}
use Rattle.entries.specs.declared.entry.Entry.{Entry}
use Rattle.entries.specs.declared.entry.Entry.TheVariants.{Open, File, Post, Bill, Resettle, Pay, State, Close, Look}
use Rattle.entries.specs.declared.entry.MeterReading.{MeterReading}
use Rattle.entries.specs.declared.given_list.GivenList.{GivenList}
use Rattle.entries.specs.declared.given_list.GivenList.TheVariants.{Flat, Quarter}
use Rattle.entries.specs.declared.given_list.ListEntry.{ListEntry}
use Rattle.entries.specs.declared.journal_kind.JournalKind.{JournalKind}
use Rattle.entries.specs.declared.journal_kind.JournalKind.TheVariants.{Table, Entries}

-- a number that is not above the limit
abbrev pub at_most : ℕ → ℕ → Option ℕ
at_most limit n = cond (nat_le n limit) (Some n) None

-- `table,PARTICIPANTS` or `entries,RECORDS`, by its first word
abbrev pub journal_by : List ℕ → List ℕ → Option JournalKind
journal_by kind size =
    cond (bytes_eq kind (codes "table")) (option_map Table (u16_in size))
    (cond (bytes_eq kind (codes "entries")) (option_map Entries (option_and_then (at_most 1000000) (u32_in size)))
    None)

abbrev pub journal_in : List ℕ → Option JournalKind
journal_in words = journal_by (first_word words) (words_after words)

-- YEAR and then the journal
abbrev pub open_in : List ℕ → Option Entry
open_in words = option_map (λ p. Open p.0 p.1) (option_zip (u16_in (first_word words)) (journal_in (words_after words)))

-- `PARTICIPANT,MONTH,KWH`
abbrev pub meter_reading_in : List ℕ → Option MeterReading
meter_reading_in words = option_map (λ p. record { participant = p.0; month = p.1.0; kwh = p.1.1 }) (option_zip (number_in (first_word words)) (two_numbers_in (words_after words)))

-- `FIRST,RATE,…`
abbrev pub quarter_in : List ℕ → Option GivenList
quarter_in words = option_map (λ p. Quarter p.0 p.1) (option_zip (u32_in (first_word words)) (rates_in (words_after words)))

-- `flat,RATE` or `quarter,FIRST,RATE,…`, by its first word
abbrev pub given_list_by : List ℕ → List ℕ → Option GivenList
given_list_by kind words =
    cond (bytes_eq kind (codes "flat")) (option_map Flat (u32_in words))
    (cond (bytes_eq kind (codes "quarter")) (quarter_in words)
    None)

abbrev pub given_list_in : List ℕ → Option GivenList
given_list_in words = given_list_by (first_word words) (words_after words)

-- a list that is given, or the word `holding` and then one
abbrev pub list_by : Bool → List ℕ → Option ListEntry
list_by holding words = option_map (λ list. record { holding = holding; list = list }) (given_list_in words)

abbrev pub list_in : List ℕ → Option ListEntry
list_in words = let holding = bytes_eq (first_word words) (codes "holding") in list_by holding (cond holding (words_after words) words)

-- an entry by its first word, but for `pay`
abbrev pub named_in : List ℕ → List ℕ → Option Entry
named_in name words =
    cond (bytes_eq name (codes "open")) (open_in words)
    (cond (bytes_eq name (codes "file")) (option_map (λ p. File p.0 p.1) (two_numbers_in words))
    (cond (bytes_eq name (codes "post")) (option_map Post (number_in words))
    (cond (bytes_eq name (codes "bill")) (option_map Bill (meter_reading_in words))
    (cond (bytes_eq name (codes "resettle")) (option_map Resettle (meter_reading_in words))
    (cond (bytes_eq name (codes "state")) (option_map (λ p. State p.0 p.1) (two_numbers_in words))
    (cond (bytes_eq name (codes "close")) (option_map Close (list_in words))
    (cond (bytes_eq name (codes "look")) (option_map Look (number_in words))
    None)))))))

-- `pay` has no more words; every other entry has
abbrev pub entry_in : List ℕ → Option Entry
entry_in line = cond (bytes_eq line (codes "pay")) (Some Pay) (named_in (first_word line) (words_after line))
