-- What the journal of an opened book means, and what its calls leave.
use Rattle.std.specs.Prelude.{◌≡◌, ◌*◌, replicate, vec_items}
use Rattle.entries.specs.declared.journal_kind.JournalKind.{JournalKind}
use Rattle.entries.specs.declared.journal_kind.JournalKind.TheVariants as kind
use Rattle.journals.specs.Calls.{Places}
use Rattle.journals.specs.Journal.{Held, Pair}
use Rattle.journals.specs.Entries.{EntriesWiped, EntryPut, entries_held, entries_place}
use Rattle.journals.specs.Table.{TablePut, TableWiped, places_in, table_held, table_place}
use Rattle.journals.specs.declared.entry_journal.Entry.{Entry}
use Rattle.desk.specs.declared.journal.DeskJournal.{DeskJournal}
use Rattle.desk.specs.declared.journal.DeskJournal.TheVariants.{Table, Entries}

abbrev pub desk_held : DeskJournal → Held
desk_held (Table journal) = table_held journal
desk_held (Entries journal) = entries_held journal

abbrev pub desk_place : DeskJournal → Places
desk_place (Table journal) = table_place journal
desk_place (Entries journal) = entries_place journal

-- a put, and a wipe, leave a journal of the same kind, as that kind leaves it
abbrev pub DeskPut : DeskJournal → Pair → DeskJournal → Type 0
DeskPut (Table before) pair (Table after) = TablePut before pair after
DeskPut (Table before) pair (Entries after) = ⊥
DeskPut (Entries before) pair (Table after) = ⊥
DeskPut (Entries before) pair (Entries after) = EntryPut before pair after

abbrev pub DeskWiped : DeskJournal → DeskJournal → Type 0
DeskWiped (Table before) (Table after) = TableWiped before after
DeskWiped (Table before) (Entries after) = ⊥
DeskWiped (Entries before) (Table after) = ⊥
DeskWiped (Entries before) (Entries after) = EntriesWiped before after

abbrev pub unused_entry : Entry
unused_entry = record { participant = 0; month = 0; kwh = 0 }

-- a journal of this kind, with the room that it names: places for twelve numbers of each participant, or so many unused entries
abbrev pub HasRoom : JournalKind → DeskJournal → Type 0
HasRoom (kind.Table participants) (Table journal) = table_place journal ≡ places_in (12 * participants)
HasRoom (kind.Table participants) (Entries journal) = ⊥
HasRoom (kind.Entries records) (Table journal) = ⊥
HasRoom (kind.Entries records) (Entries journal) = vec_items journal.entries ≡ replicate records unused_entry
