use Rattle.std.proofs.Common.{◌≡◌, sym, subst, arith}
use Rattle.std.proofs.lemmas.Int.{to_z-of_z}
use Rattle.amounts.specs.Rounding.{rounded_down, RoundsDown}
use Rattle.amounts.proofs.Laws.{rounds_down, down_by_division, down_fits}
use Rattle.amounts.proofs.rounding.rounded_down.Goals as goal

pub returns : goal.returns
returns c =
    let n = c.args.n in
    let d = c.args.d.value in
    let value : _ ≡ rounded_down n d = grind (arith, to_z-of_z, down_by_division, down_fits) in
    record { value = value; largest_not_above = subst (RoundsDown n d) (sym value) (rounds_down n d c.args.d.ok) }
