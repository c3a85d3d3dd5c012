use Rattle.std.proofs.Common.{lit<, refl, ap, ◌∙◌}
use Rattle.std.proofs.lemmas.Str.Pattern.{strip_suffix_char}
use Rattle.entries.proofs.Endings.{stripped}
use Rattle.entries.proofs.line.without_cr.Goals as goal

pub returns : goal.returns
returns c =
    ap (λ x. x.now) c.unwrap_or.ensures ∙ stripped c.args.line.now c.args.line c.strip_suffix.result refl (strip_suffix_char 13 c.args.line.now c.strip_suffix.result c.strip_suffix.ensures.cases (lit< tt))
