use Rattle.std.proofs.Common.{rules}
use Rattle.book.proofs.row_table.RowTable.file.Goals as goal

pub returns : goal.returns
returns c held =
    let h = c.file_row.ensures held in
    search rules
