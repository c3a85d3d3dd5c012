use Rattle.std.proofs.Common.{arith, take}
use Rattle.std.proofs.lemmas.List.Edits.{map_over_more}
use Rattle.book.proofs.row_table.RowTable.pay_rows.Goals as goal

pub loop-row-preserved : goal.loop-row-preserved
loop-row-preserved c =
    let same = c.loop-row.auto.row-items in
    let within = c.loop-row-test.true in
    record { paid = rw (c.pay.ensures, ← c.row-item.is) (map_over_more _ (take c.self.inside.count c.self.inside.rows) c.loop-row.row-items c.loop-row.row-index c.row-item.result (omega arith) c.loop-row.invariant.paid c.row-item.is) }
