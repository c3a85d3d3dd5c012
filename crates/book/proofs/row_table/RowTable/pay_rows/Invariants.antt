use Rattle.std.proofs.Common.{◌≡◌, ◌++◌, take, drop, map}
use Rattle.settlement.specs.Paying.{with_share}
use Rattle.book.proofs.row_table.RowTable.pay_rows.Given as goal

-- the rows before this one are paid, the others are as they were
abbrev pub invariant-loop-row : goal.invariant-loop-row
invariant-loop-row l = record {
  paid : l.row-items ≡ map (with_share l.money l.total) (take l.row-index l.initial.row-items) ++ drop l.row-index l.initial.row-items;
}
