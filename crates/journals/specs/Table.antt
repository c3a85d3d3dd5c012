-- The table journal: twelve numbers for each participant, from participant 1 on.
use Rattle.std.specs.Prelude.{◌↔◌, ℕ, ◌+◌, ◌-◌, ◌*◌, ◌/◌, ◌≤◌, cond, ◌&&◌, List, length, Some, None, Option, IsTrue, nat_le, slice_index, vec_items}
use Rattle.journals.specs.Journal.{most, Pair, in_range, Held}
use Rattle.journals.specs.Calls.{Places, Same}
use Rattle.journals.specs.declared.table_journal.TableJournal.{TableJournal}

-- the participants 1 to the length divided by 12, rounded down, have places
abbrev pub places_in : ℕ → Places
places_in len q = in_range q && nat_le q.0 (len / 12)

-- where the number of a participant and a month stands: twelve for each participant, January first
abbrev pub index_of : Pair → ℕ
index_of q = 12 * (q.0 - 1) + (q.1 - 1)

-- where the number of a pair stands, if it has a place
abbrev pub spot_in : ℕ → Pair → Option ℕ
spot_in len q = cond (places_in len q) (Some (index_of q)) None

-- a stored number above the limit counts as none
abbrev pub counted : ℕ → Option ℕ
counted kwh = cond (nat_le kwh most) (Some kwh) None

-- what the run holds for a pair that has a place
abbrev pub held_in : List ℕ → Held
held_in numbers q = cond (places_in (length numbers) q) (counted (slice_index numbers (index_of q))) None

-- what the table journal holds, and its places
abbrev pub table_held : TableJournal → Held
table_held t = held_in (vec_items t.numbers)

abbrev pub table_place : TableJournal → Places
table_place t = places_in (length (vec_items t.numbers))

-- a put changes no place
abbrev pub TablePut : TableJournal → Pair → TableJournal → Type 0
TablePut before pair after = Same (table_place before) (table_place after)

-- after a wipe the places are those that they were: a pair in range has one exactly where the run has its number
pub record TableWiped (before after : TableJournal) : Type 0 where
  pub places_stay : Same (table_place before) (table_place after)
  pub place_exactly_within_the_run : (q : Pair) → IsTrue (in_range q) → IsTrue (table_place after q) ↔ (12 * q.0 ≤ length (vec_items before.numbers))
