use Rattle.std.proofs.Common.{◌+ℤ◌, arith, rules, SFits}
use Rattle.std.specs.Int.{w128}
use Rattle.std.proofs.lemmas.Int.{ints}
use Rattle.sheets.proofs.page_one.expense_factors.Goals as goal

pub returns : goal.returns
returns c =
    let e = c.args.expense in
    let part : SFits w128 (e.other_om +ℤ e.general_depreciation) = omega (arith, ints) in
    let total : SFits w128 (e.other_om +ℤ e.general_depreciation +ℤ e.other_taxes) = omega (arith, ints) in
    search rules
