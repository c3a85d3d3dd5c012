use Rattle.std.proofs.Common.{◌*ℤ◌, nat_abs, arith, refl, w64, SFits}
use Rattle.std.proofs.lemmas.Int.{ints, to_z-of_z}
use Rattle.amounts.proofs.Products.{product_within}
use Rattle.book.proofs.rules.times.Goals as goal

pub returns : goal.returns
returns c =
    let a = c.ranges.amount in
    let b = c.ranges.factor in
    let amount : SFits w64 c.args.amount = omega (arith, ints) in
    let factor : SFits w64 c.args.factor = omega (arith, ints) in
    let product = product_within c.args.amount c.args.factor (nat_abs c.args.amount) 10000000 (omega arith) c.requires.factor in
    let h = c.requires.amount in
    let fits : SFits w64 (c.args.amount *ℤ c.args.factor) = omega (arith, ints) in
    simp to_z-of_z (record { value = refl; bound = product })
