use Rattle.std.proofs.Common.{ap, ◌∙◌}
use Rattle.std.proofs.lemmas.Option.{IfSome_then}
use Rattle.filing.specs.Filing.{filed}
use Rattle.filing_input.proofs.Cut.{cut_is_filed_as_whole}
use Rattle.filing_input.proofs.Taking.{read_up_to}
use Rattle.filing_input.proofs.read_file.Goals as goal

pub returns-clause-is_the_first_65537_bytes_of_the_input : goal.returns-clause-is_the_first_65537_bytes_of_the_input
returns-clause-is_the_first_65537_bytes_of_the_input g c =
    let read = read_up_to g.R.Read.remaining c.take.result c.new-file.result.items c.read_to_end.new.buf.items c.new-file.ensures.items c.in_ok-read_to_end.ensures.bytes in
    rw (← c.take.ensures.inner, ← c.most_read.ensures, ← c.take.ensures.limit) read

pub returns-clause-is_filed_as_the_whole_input : goal.returns-clause-is_filed_as_the_whole_input
returns-clause-is_filed_as_the_whole_input g c =
    IfSome_then (g.R.Read.remaining c.args.input) (returns-clause-is_the_first_65537_bytes_of_the_input g c) (λ bytes is. ap filed is ∙ cut_is_filed_as_whole bytes)
