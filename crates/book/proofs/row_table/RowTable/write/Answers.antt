use Rattle.std.proofs.Common.{◌<◌, arith, ap, length-take}
use Rattle.book.proofs.Places.{written_over}
use Rattle.book.proofs.row_table.RowTable.write.Goals as goal

pub returns-else-place-self : goal.returns-else-place-self
returns-else-place-self c =
    let t = c.self.inside in
    let few = c.self.invariant in
    let place = rw (← c.self.view_is) at c.requires.place in
    let in_use : c.args.place < t.count = omega (arith, length-take t.count t.rows, c.if-place-self.false) in
    rw (← c.self.view_is) (ap (λ rows. record { year = t.year; state = t.state; money = t.money; rows = rows }) (written_over t.rows t.count c.args.place c.args.row in_use (omega arith)))
