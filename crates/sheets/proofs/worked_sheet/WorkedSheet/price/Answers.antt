use Rattle.std.proofs.Common.{arith}
use Rattle.sheets.specs.Factors.{hundredths}
use Rattle.sheets.proofs.Tariff.{columns_follow}
use Rattle.sheets.proofs.worked_sheet.WorkedSheet.price.Goals as goal

pub returns-clause-follows_the_tariff : goal.returns-clause-follows_the_tariff
returns-clause-follows_the_tariff g c = rw c.columns-columns.ensures.value (columns_follow hundredths _ _ _ (omega arith))
