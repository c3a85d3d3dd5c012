use Rattle.std.proofs.Common.{arith, rules, w64, SFits}
use Rattle.std.proofs.lemmas.Int.{ints, to_z-of_z}
use Rattle.book.proofs.row.Row.pay.Goals as goal

pub invariant_of-self : goal.invariant_of-self
invariant_of-self c =
    let r = c.ranges.total in
    let total : SFits w64 c.args.total = omega (arith, ints) in
    let range = c.share.ensures.range (simp to_z-of_z c.requires.part) in
    search rules
