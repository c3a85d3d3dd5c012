use Rattle.std.proofs.Common.{arith}
use Rattle.std.proofs.lemmas.Grind.{common_steps}
use Rattle.book.proofs.row_table.RowTable.close.Goals as goal

pub returns : goal.returns
returns g c held =
    let h = c.close_at_rates.ensures held in
    grind (arith, common_steps)
