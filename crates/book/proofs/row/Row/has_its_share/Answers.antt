use Rattle.std.proofs.Common.{arith, rules, w64, SFits, ◌∙◌, ap}
use Rattle.std.proofs.lemmas.Int.{ints, to_z-of_z}
use Rattle.std.specs.Ordering.{int_eq}
use Rattle.book.proofs.Equal.{same_bits}
use Rattle.book.proofs.row.Row.has_its_share.Goals as goal

pub returns : goal.returns
returns c =
    let m = c.ranges.money in
    let t = c.ranges.total in
    let p = c.self.invariant.paid_in_range in
    let s = c.share.type_inv in
    let money : SFits w64 c.args.money = omega (arith, ints) in
    let total : SFits w64 c.args.total = omega (arith, ints) in
    let paid : SFits w64 c.self.inside.paid = search rules in
    let share : SFits w64 c.share.result = omega (arith, ints) in
    let is = simp (to_z-of_z, ← c.self.view_is) at c.share.ensures.value in
    rw (← c.self.view_is) (same_bits c.self.inside.paid c.share.result paid share ∙ ap (int_eq c.self.inside.paid) is)
