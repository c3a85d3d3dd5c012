use Rattle.std.proofs.Common.{sym}
use Rattle.std.proofs.lemmas.Int.{to_z-of_z}
use Rattle.sheets.proofs.Ranges.{in_range_after}
use Rattle.sheets.proofs.open_sheet.OpenSheet.enter.Goals as goal

-- the amounts stay within their range
pub invariant_of-self : goal.invariant_of-self
invariant_of-self g c =
    let fits = c.ranges.amount in
    rw (simp to_z-of_z at c.put.ensures) (in_range_after _ c.args.amount _ (sym (simp to_z-of_z at c.if-not-takes.ensures)) c.self.invariant)
