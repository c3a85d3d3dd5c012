use Rattle.std.proofs.Common.{◌+ℤ◌, arith, rules, w64, SFits}
use Rattle.std.proofs.lemmas.Int.{ints}
use Rattle.sheets.proofs.Told.{factors_told}
use Rattle.sheets.proofs.worked_sheet.WorkedSheet.columns.Goals as goal

pub of-returned-requires : goal.of-returned-requires
of-returned-requires g c = let told = factors_told c.self.inside.factors c.self.invariant in (omega (arith, ints), omega (arith, ints))

pub returns-clause-value : goal.returns-clause-value
returns-clause-value g c =
    let om = c.om_charge-om.result in
    let other = c.of-other.result in
    let return = c.of-returned.result in
    let two : SFits w64 (om.dollars +ℤ other.dollars) = omega (arith, ints) in
    let three : SFits w64 (om.dollars +ℤ other.dollars +ℤ return.dollars) = omega (arith, ints) in
    let four : SFits w64 (om.dollars +ℤ other.dollars +ℤ return.dollars +ℤ c.args.project.now.depreciation_expense) = omega (arith, ints) in
    search rules
