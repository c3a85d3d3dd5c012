use Rattle.std.proofs.Common.{◌≡◌, sym, ap, ◌∙◌, subst, arith, w64, to_z, of_z}
use Rattle.std.proofs.lemmas.Int.{ints, to_z-of_z}
use Rattle.amounts.specs.Rounding.{rounded, Rounds}
use Rattle.amounts.proofs.Laws.{rounds, rounded_below, rounded_above, rounded_fits}
use Rattle.amounts.proofs.rounding.rounded.Goals as goal
use Rattle.amounts.proofs.rounding.rounded.Goals.{then-n-lt0, else-n-lt0}

signed-is : (c : goal.Joined-n-lt0) → c.if-n-lt0.signed ≡ rounded c.args.n c.args.d.value
signed-is c =
    let n = c.args.n in
    let d = c.args.d.value in
    let m = c.unsigned_abs.result in
    elim c.if-n-lt0.branch [
      | then-n-lt0 w ↦ omega (arith, ints, w.signed-is, rounded_below n d m (omega (arith, ints)) (omega (arith, ints)))
      | else-n-lt0 w ↦ omega (arith, ints, w.signed-is, rounded_above n d m (omega (arith, ints)) (omega (arith, ints)))
    ]

pub returns : goal.returns
returns c =
    let n = c.args.n in
    let d = c.args.d.value in
    let fits = rounded_fits w64 n d c.args.d.ok c.ranges.n in
    let value = ap (λ z. to_z w64 (of_z w64 z)) (c.if-n-lt0.signed-is ∙ signed-is c) ∙ to_z-of_z w64 (rounded n d) fits in
    record { value = value; nearest_half_away_from_zero = subst (Rounds n d) (sym value) (rounds n d c.args.d.ok) }
