use Rattle.std.proofs.Common.{◌≡◌, length}
use denote.Text.{Utf8}
use denote.Shadow.{shadow}
use Rattle.entries.specs.Lines.{without_commas as without_commas_of}
use Rattle.entries.proofs.line.without_commas.Given as goal

-- what is left of the line has the same text without commas
abbrev pub invariant-loop-front : goal.invariant-loop-front
invariant-loop-front l = record {
  text : shadow (Utf8 l.rest);
  same : without_commas_of l.rest ≡ without_commas_of l.fn.line;
}

abbrev pub decreases-loop-front : goal.decreases-loop-front
decreases-loop-front l = length l.rest
