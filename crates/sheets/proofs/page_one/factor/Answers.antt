use Rattle.std.proofs.Common.{◌*ℤ◌, pos, arith, rules, w64, SFits}
use Rattle.std.proofs.lemmas.Int.{ints, to_z-of_z}
use Rattle.sheets.proofs.page_one.factor.Goals as goal

pub returns : goal.returns
returns c =
    let range = c.ranges.amount in
    let amount : SFits w64 c.args.amount = omega (arith, ints) in
    let product : SFits w64 (c.args.amount *ℤ pos 10000) = omega (arith, ints) in
    let value = simp to_z-of_z at c.rounded.ensures.value in
    search rules
