use Rattle.std.proofs.Common.{◌≡◌, ◌*◌, ◌≤◌, length, drop, pos, ◌+ℤ◌, ◌≤ℤ◌}
use Rattle.settlement.specs.Books.{sum_of_paid}
use Rattle.book.proofs.row_table.RowTable.sum_of_paid.Given as goal

-- the rows before this one are added
abbrev pub invariant-loop-row : goal.invariant-loop-row
invariant-loop-row l = record {
  few : length l.row-items ≤ 64;
  added : (l.sum +ℤ sum_of_paid (drop l.row-index l.row-items)) ≡ sum_of_paid l.row-items;
  not_below : pos 0 ≤ℤ l.sum;
  bound : l.sum ≤ℤ pos (l.row-index * 90000000000);
}
