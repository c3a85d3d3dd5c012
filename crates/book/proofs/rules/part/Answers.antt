use Rattle.std.proofs.Common.{◌*ℤ◌, arith, rules, w64, SFits}
use Rattle.std.proofs.lemmas.Int.{ints, to_z-of_z}
use Rattle.book.proofs.Shares.{money_times_column}
use Rattle.book.proofs.rules.part.Goals as goal

pub returns : goal.returns
returns c =
    let a = c.ranges.money in
    let b = c.ranges.column in
    let money : SFits w64 c.args.money = omega (arith, ints) in
    let column : SFits w64 c.args.column = omega (arith, ints) in
    let product : SFits w64 (c.args.money *ℤ c.args.column) = omega (arith, ints, money_times_column c.args.money c.args.column c.requires.money c.requires.column) in
    let value = simp to_z-of_z at c.rounded_down.ensures.value in
    search rules
