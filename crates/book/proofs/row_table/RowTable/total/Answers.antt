use Rattle.std.proofs.Common.{arith, to_z, w64}
use Rattle.std.proofs.lemmas.Grind.{common_steps}
use Rattle.book.proofs.Totals.{one_part_more}
use Rattle.book.proofs.row_table.RowTable.total.Goals as goal

pub loop-row-preserved : goal.loop-row-preserved
loop-row-preserved c =
    let few = c.loop-row.invariant.few in
    let added = c.loop-row.invariant.added in
    let not_below = c.loop-row.invariant.not_below in
    let bound = c.loop-row.invariant.bound in
    let column = c.column_16-sum.ensures in
    record {
      few = few;
      added = grind (arith, common_steps);
      not_below = grind (arith, common_steps);
      bound = grind (arith, common_steps);
      parts = one_part_more c.in_use-row-items.result.now c.loop-row.row-index c.row-item.result (to_z w64 c.loop-row.sum-bits) _ c.loop-row-test.true c.row-item.is (grind (arith, common_steps)) not_below (grind (arith, common_steps)) c.loop-row.invariant.parts;
    }
