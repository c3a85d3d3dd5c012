use Rattle.std.proofs.Common.{◌≡◌, take, sum_by}
use Rattle.std.specs.List.{flat_map}
use Rattle.page_text.specs.Outcomes.{Gives, printed}
use Rattle.page_text.proofs.written.write_all.Given as goal

-- the items before this one are written
abbrev pub invariant-loop-item : goal.invariant-loop-item
invariant-loop-item g l =
    Gives (printed (flat_map g.T.Written.text (take l.item-index l.items)) l.initial.bytes) l.at l.bytes
    × (l.at ≡ sum_by g.T.Written.width (take l.item-index l.items))
