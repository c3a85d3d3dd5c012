use Rattle.std.proofs.Common.{ap, length, take, arith}
use Rattle.std.proofs.lemmas.List.{length-take}
use Rattle.filing.specs.Lines.{rest_of}
use Rattle.filing.proofs.Lines.{too_short}
use Rattle.filing.proofs.reader.FilingReader.columns.Goals as goal

pub returns-in_err-line : goal.returns-in_err-line
returns-in_err-line c =
    let rest = rest_of c.args.self.now in
    rw c.from_residual.ensures (too_short (take 57 rest) (omega (arith, length-take 57 rest, c.in_err-line.ensures.cases, ap length c.rest.ensures)))
