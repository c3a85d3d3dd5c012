use Rattle.std.proofs.Common.{◌≡◌, ◌*◌, ◌^◌, ◌≤◌, nat_abs, take}
use Rattle.printed_pages.specs.Sums.{sum_of_column}
use Rattle.printed_pages.proofs.pages.column_sum.Given as goal

-- the rows before this one are added
abbrev pub invariant-loop-row : goal.invariant-loop-row
invariant-loop-row l = record {
  added : l.sum ≡ sum_of_column l.summed (take l.row-index l.rows);
  small : nat_abs l.sum ≤ 2 ^ 63 * l.row-index;
}
