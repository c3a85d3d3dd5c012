use Rattle.std.proofs.Common.{◌≡◌, ◌++◌, take, drop}
use Rattle.book.specs.Tables.{closed_rows}
use Rattle.book.proofs.row_table.closing.close_each.Given as goal

-- the rows before this one are closed, the others are as they were
abbrev pub invariant-loop-place : goal.invariant-loop-place
invariant-loop-place l = record {
  closed : l.rows ≡ closed_rows (take l.place l.fn.rows) l.figures ++ drop l.place l.fn.rows;
}
