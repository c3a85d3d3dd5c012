use Rattle.std.proofs.Common.{rules}
use Rattle.sheets.proofs.Told.{based_told}
use Rattle.sheets.proofs.page_one.page_one.Goals as goal

pub returns-then-not-factors_fit : goal.returns-then-not-factors_fit
returns-then-not-factors_fit c =
    let told = based_told _ _ _ c.in_ok-factors.ensures in
    let bases = told.0 in
    let same = told.1 in
    search rules

-- the check finds it too, but not with half its limits
pub returns : goal.returns
returns c =
    let told = based_told _ _ _ c.in_ok-factors.ensures in
    let bases = told.0 in
    let same = told.1 in
    search rules
