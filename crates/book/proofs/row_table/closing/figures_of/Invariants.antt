use Rattle.std.proofs.Common.{◌≡◌, ◌≤◌, true, length, take, map}
use Rattle.std.specs.List.{list_all}
use Rattle.settlement.specs.Closing.{figures_of, is_true_up}
use Rattle.book.proofs.row_table.closing.figures_of.Given as goal

-- the figures of the rows before this one are worked, and their true-ups are in range
abbrev pub invariant-loop-place : goal.invariant-loop-place
invariant-loop-place l = record {
  few : length l.rows ≤ 64;
  places : length l.figures ≡ 64;
  worked : take l.place l.figures ≡ map (figures_of (λ owed. l.factor)) (take l.place l.rows);
  in_range : list_all (λ r. is_true_up (figures_of (λ owed. l.factor) r).true_up) (take l.place l.rows) ≡ true;
}
