use Rattle.std.proofs.Common.{pos, sym}
use Rattle.sheets.proofs.Told.{within_told}
use Rattle.filing.proofs.sheet_lines.price.Goals as goal

pub invariant_of-result-clause-number_in_range : goal.invariant_of-result-clause-number_in_range
invariant_of-result-clause-number_in_range g c = within_told (pos 1) (pos 99999999) _ (sym c.if-not-number_fits.ensures)
