use Rattle.std.proofs.Common.{◌≡◌, true, false, nat_le, vec_items, arith}
use Rattle.std.proofs.lemmas.Bool.{and_left, and_right, lt-leb, le-leb}
use Rattle.journals.specs.Journal.{in_range, most}
use Rattle.journals.proofs.Entries.{unfit, spot_for}
use Rattle.journals.proofs.entry_journal.EntryJournal.spot_for.Goals as goal
use Rattle.journals.proofs.entry_journal.EntryJournal.spot_for.Goals.{then-not-in_range-via-then-not-in_range, then-not-in_range-via-else-not-in_range+then-kwh-gt-MOST_KWH}

pub returns-then-not-in_range : goal.returns-then-not-in_range
returns-then-not-in_range c = elim c.then-not-in_range.branch [
  | then-not-in_range-via-then-not-in_range w ↦
      let asked = c.in_range.ensures in
      let out : in_range (c.args.participant, c.args.month) ≡ false = grind arith in
      and_left _ _ (unfit (vec_items c.args.self.now.entries) (c.args.participant, c.args.month) out)
  | then-not-in_range-via-else-not-in_range+then-kwh-gt-MOST_KWH w ↦ and_right _ _ (lt-leb c.args.kwh most (omega arith))
]

pub returns : goal.returns
returns c =
    let asked = c.in_range.ensures in
    let ranged : in_range (c.args.participant, c.args.month) ≡ true = grind arith in
    let fits : nat_le c.args.kwh most ≡ true = le-leb c.args.kwh most (omega arith) in
    spot_for (vec_items c.args.self.now.entries) (c.args.participant, c.args.month) c.args.kwh ranged fits c.spot.result c.spot.ensures
