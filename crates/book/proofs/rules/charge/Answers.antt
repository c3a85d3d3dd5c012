use Rattle.std.proofs.Common.{◌≡◌, pos, arith, rules, w64, to_z}
use Rattle.std.proofs.lemmas.Int.{to_z_pos}
use Rattle.book.proofs.rules.charge.Goals as goal

pub returns-clause-value : goal.returns-clause-value
returns-clause-value c =
    let h = c.requires.kwh in
    let kwh : to_z w64 c.args.kwh ≡ pos c.args.kwh = to_z_pos w64 c.args.kwh (omega arith) in
    let value = simp kwh at c.times.ensures.value in
    search rules
