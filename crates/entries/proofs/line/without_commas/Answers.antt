use Rattle.std.proofs.Common.{sym, ◌∙◌}
use Rattle.entries.proofs.Endings.{no_comma_at_the_end}
use Rattle.entries.proofs.line.without_commas.Goals as goal

pub returns : goal.returns
unfolding lib.Utf8.encode
returns c = sym (no_comma_at_the_end c.loop-front.rest.now c.in_default.ensures.cases) ∙ c.loop-front.invariant.same
