use Rattle.std.proofs.Common.{◌≡◌, ◌*◌, ◌∙◌, ap, arith, length}
use Rattle.journals.specs.Table.{places_in}
use Rattle.desk.proofs.journal.DeskJournal.new.Goals as goal
use Rattle.desk.proofs.journal.DeskJournal.new.Goals.{in-Table+in_ok-numbers-in-Table, in-Entries+in_ok-entries-in-Entries}

pub returns : goal.returns
returns c = elim c.match-kind.branch [
  | in-Table+in_ok-numbers-in-Table w ↦
      let from = w.from.ensures in
      let len = w.in_ok-numbers-in-Table.ensures.len in
      let ok = w.in_ok-numbers-in-Table.numbers.ok in
      let room : length w.in_ok-numbers-in-Table.numbers.items ≡ 12 * w.in-Table.participants = omega arith in
      rw (w.in-Table.is, w.result-is) (w.new.ensures.places ∙ ap places_in room)
  | in-Entries+in_ok-entries-in-Entries w ↦
      let room = w.in_ok-entries-in-Entries.ensures.items_if_clones_equal (λ y e. e) in
      rw (w.in-Entries.is, w.result-is) (w.new-in-Entries.ensures.run ∙ room)
]
