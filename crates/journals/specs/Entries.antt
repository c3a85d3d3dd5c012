-- The entry journal: a run of entries, each with a pair and a number, or unused.
use Rattle.std.specs.Prelude.{◌≡◌, ◌↔◌, ℕ, ◌-◌, ◌<◌, Bool, cond, ◌&&◌, ◌||◌, not, false, List, length, Ok, Option, slice_set, IsTrue, is_some, nat_le, nat_lt, vec_items}
use Rattle.std.specs.List.{count_by, find, position}
use Rattle.std.specs.Option.{MatchOption, option_map, option_or}
use Rattle.journals.specs.Journal.{most, Pair, in_range, same_pair, Held, holding}
use Rattle.journals.specs.Calls.{Places, Same, accepts, PutThenLook}
use Rattle.journals.specs.declared.entry_journal.Entry.{Entry}
use Rattle.journals.specs.declared.entry_journal.EntryJournal.{EntryJournal}

-- the pair of an entry
abbrev pub pair_of : Entry → Pair
pair_of e = (e.participant, e.month)

-- an entry is used where its pair and its number can be held
abbrev pub used : Entry → Bool
used e = in_range (pair_of e) && nat_le e.kwh most

abbrev pub unused : Entry → Bool
unused e = not (used e)

-- a used entry of this pair
abbrev pub is_of : Pair → Entry → Bool
is_of q e = same_pair q (pair_of e) && used e

-- of the used entries of a pair the first counts
abbrev pub held_among : List Entry → Held
held_among entries q = option_map (λ e. e.kwh) (find (is_of q) entries)

-- how many entries are unused
abbrev pub unused_among : List Entry → ℕ
unused_among entries = count_by unused entries

-- while an entry is unused every pair in range has a place, and else only those that are held
abbrev pub places_among : List Entry → Places
places_among entries q = is_some (held_among entries q) || (in_range q && nat_lt 0 (unused_among entries))

-- where a put writes: at the first entry of the pair, or else at the first unused one
abbrev pub spot_among : List Entry → Pair → Option ℕ
spot_among entries q = option_or (position (is_of q) entries) (position unused entries)

-- what a put leaves of a run, where it is accepted and writes at a spot
pub record PutAt (entries : List Entry) (q : Pair) (kwh spot : ℕ) : Type 0 where
  pub spot_is_within_the_run : spot < length entries
  pub pair_is_in_range : IsTrue (in_range q)
  pub put_is_accepted : IsTrue (accepts (places_among entries) q kwh)
  pub run_then_holds_the_number : Same (holding (held_among entries) q kwh) (held_among (slice_set entries spot (record { participant = q.0; month = q.1; kwh = kwh })))
  pub look_then_answers_it : PutThenLook (held_among entries) q kwh (Ok tt) (held_among (slice_set entries spot (record { participant = q.0; month = q.1; kwh = kwh })))
  pub new_pair_takes_an_unused_entry : unused_among (slice_set entries spot (record { participant = q.0; month = q.1; kwh = kwh })) ≡ cond (is_some (held_among entries q)) (unused_among entries) (unused_among entries - 1)

-- the spot of a put: none where it is refused
abbrev pub SpotFor : List Entry → Pair → ℕ → Option ℕ → Type 0
SpotFor entries q kwh spot = MatchOption spot (accepts (places_among entries) q kwh ≡ false) (λ i. PutAt entries q kwh i)

-- what the entry journal holds, and its places
abbrev pub entries_held : EntryJournal → Held
entries_held j = held_among (vec_items j.entries)

abbrev pub entries_place : EntryJournal → Places
entries_place j = places_among (vec_items j.entries)

-- a put takes an unused entry for a pair that was not held, and none for one that was
pub record EntryPut (before : EntryJournal) (pair : Pair) (after : EntryJournal) : Type 0 where
  pub run_keeps_its_length : length (vec_items after.entries) ≡ length (vec_items before.entries)
  pub new_pair_takes_an_unused_entry : unused_among (vec_items after.entries)
      ≡ cond (is_some (entries_held before pair)) (unused_among (vec_items before.entries)) (unused_among (vec_items before.entries) - 1)

-- after a wipe all entries are unused: a pair in range has a place exactly where there are entries
pub record EntriesWiped (before after : EntryJournal) : Type 0 where
  pub run_keeps_its_length : length (vec_items after.entries) ≡ length (vec_items before.entries)
  pub every_entry_is_unused : unused_among (vec_items after.entries) ≡ length (vec_items before.entries)
  pub place_exactly_where_the_run_has_room : (q : Pair) → IsTrue (in_range q) → IsTrue (entries_place after q) ↔ (0 < length (vec_items before.entries))
