use Rattle.std.proofs.Common.{◌≡◌, ◌≤◌, length, map, take}
use Rattle.page_text.specs.Lines.{sums_line, sums_of}
use Rattle.page_text.specs.Rows.{row_of}
use Rattle.page_text.proofs.line.add_up.Given as goal

-- the rows before this one are added
abbrev pub invariant-loop-row : goal.invariant-loop-row
invariant-loop-row l = record {
  few : length l.rows ≤ 64;
  added : sums_line l.sums ≡ sums_of (map row_of (take l.row-index l.rows));
}
