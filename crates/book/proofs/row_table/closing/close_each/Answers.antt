use Rattle.std.proofs.Common.{◌<◌, arith, length}
use Rattle.book.proofs.Closed.{one_more_closed}
use Rattle.book.proofs.row_table.closing.close_each.Goals as goal

pub loop-place-preserved : goal.loop-place-preserved
loop-place-preserved c =
    let same = c.loop-place.auto.rows in
    let test = c.loop-place-test.true in
    let enough = c.requires in
    let within : c.loop-place.place < length c.args.rows.now = omega arith in
    record {
      closed = rw (c.close_with.ensures, ← c.index-rows-place.is)
          (one_more_closed c.args.rows.now c.loop-place.rows c.args.figures.now c.loop-place.place c.index-rows-place.result c.index-figures-place.result within (omega arith) c.loop-place.invariant.closed c.index-rows-place.is c.index-figures-place.is);
    }
