use Rattle.std.proofs.Common.{◌≡◌, ◌*ℤ◌, ◌≤◌, nat_abs, ap, arith, w64, SFits}
use Rattle.amounts.proofs.Laws.{rounded_within}
use Rattle.amounts.proofs.Products.{product_within}
use Rattle.amounts.specs.Rounding.{rounded}
use Rattle.std.proofs.lemmas.Int.{ints, to_z-of_z}
use Rattle.sheets.proofs.worked_sheet.Charge.of.Goals as goal
use Rattle.sheets.proofs.worked_sheet.Charge.of.Goals.{After-rounded}

-- the product fits, so it is what is rounded
charged : (c : After-rounded) → (c.rounded.result ≡ rounded (c.args.amount *ℤ c.args.factor) 10000) × (nat_abs c.rounded.result ≤ 100000000000)
charged c =
    let a = c.ranges.amount in
    let b = c.ranges.factor in
    let product = product_within c.args.amount c.args.factor 10000000000 100000 c.requires.0 c.requires.1 in
    let fits : SFits w64 (c.args.amount *ℤ c.args.factor) = omega (arith, ints) in
    let size = rounded_within (c.args.amount *ℤ c.args.factor) 10000 100000000000 (omega arith) product in
    let value : c.rounded.result ≡ rounded (c.args.amount *ℤ c.args.factor) 10000 = simp (to_z-of_z, c.scale.ensures) at c.rounded.ensures.value in
    (value, omega (arith, ap nat_abs value))

pub invariant_of-result : goal.invariant_of-result
invariant_of-result c = let h = charged c in record { small = omega (arith, ints) }

pub returns : goal.returns
returns c = let h = charged (goal.at.returns c).After-rounded in omega (arith, ints)
