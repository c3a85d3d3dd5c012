use Rattle.std.proofs.Common.{◌≡◌, ◌+◌, ◌-◌}
use Rattle.filing.specs.Filed.{entering, from}
use Rattle.filing.specs.Lines.{unread}
use Rattle.filing.proofs.pages.calls.read_lines.Given as goal

-- the lines that are left give what all of them give
abbrev pub invariant-lines : goal.invariant-lines
invariant-lines g l =
    let t = g.T.Template.rules in
    from t (l.initial.reader.lines + 1) (entering l.initial.sheet) (unread l.initial.reader) ≡ from t (l.reader.lines + 1) (entering l.sheet) (unread l.reader)

abbrev pub decreases-lines : goal.decreases-lines
decreases-lines g l = 1150 - l.reader.lines
