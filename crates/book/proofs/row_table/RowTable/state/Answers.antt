use Rattle.std.proofs.Common.{arith}
use Rattle.std.proofs.lemmas.Grind.{common_steps}
use Rattle.book.proofs.row_table.RowTable.state.Goals as goal

pub returns : goal.returns
returns c held =
    let h = c.state_row.ensures held in
    grind (arith, common_steps)
