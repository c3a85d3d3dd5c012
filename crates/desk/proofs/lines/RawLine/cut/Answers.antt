use Rattle.std.proofs.Common.{◌∙◌, ap, take}
use Rattle.std.proofs.lemmas.List.{take_min}
use Rattle.desk.specs.Lines.{longest}
use Rattle.desk.proofs.lines.RawLine.cut.Goals as goal

pub returns-clause-first_bytes_before_the_newline_are_kept : goal.returns-clause-first_bytes_before_the_newline_are_kept
returns-clause-first_bytes_before_the_newline_are_kept c =
    let line = c.without_last-line.result.now in
    ap (λ count. take count line) c.min.ensures ∙ take_min longest line ∙ ap (take longest) c.without_last-line.ensures
