use Rattle.std.proofs.Common.{◌≡◌, ℕ, ◌*◌, ◌<◌, ◌≤◌, length, drop, get_or, pos, ◌+ℤ◌, ◌≤ℤ◌}
use Rattle.settlement.specs.Books.{RowView, column_of, total_of}
use Rattle.book.proofs.row_table.RowTable.total.Given as goal

-- the rows before this one are added
abbrev pub invariant-loop-row : goal.invariant-loop-row
invariant-loop-row l = record {
  few : length l.row-items ≤ 64;
  added : (l.sum +ℤ total_of (drop l.row-index l.row-items)) ≡ total_of l.row-items;
  not_below : pos 0 ≤ℤ l.sum;
  bound : l.sum ≤ℤ pos (l.row-index * 100000000);
  parts : (place : ℕ) (blank : RowView) → place < l.row-index → column_of (get_or l.row-items place blank) ≤ℤ l.sum;
}
