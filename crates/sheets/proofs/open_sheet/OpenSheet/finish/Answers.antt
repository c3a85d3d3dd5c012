use Rattle.std.proofs.Common.{rules, ◌≡◌, true, Ok}
use Rattle.sheets.specs.Factors.{factors_fit, hundredths}
use Rattle.sheets.specs.Tariff.{PageOneFollows}
use Rattle.sheets.proofs.Tariff.{finished_told}
use Rattle.sheets.proofs.open_sheet.OpenSheet.finish.Goals as goal
use Rattle.sheets.proofs.open_sheet.OpenSheet.finish.Goals.{In_ok-factors}

-- page 1 was finished, so the factors fit and follow the tariff
told : (g : _) (c : In_ok-factors g) → (factors_fit hundredths c.in_ok-factors.factors ≡ true) × PageOneFollows hundredths (g.T.Template.rules.elements_of c.args.self) c.in_ok-factors.factors
told g c =
    let done : c.finished.result ≡ Ok c.in_ok-factors.factors = search rules in
    rw c.self.view_is at (finished_told hundredths g.T.Template.rules c.self.inside.figures c.in_ok-factors.factors (rw c.finished.ensures at done))

pub invariant_of-result : goal.invariant_of-result
invariant_of-result g c = (told g c).0

pub returns-clause-page_two_factors_are_within_1000_percent : goal.returns-clause-page_two_factors_are_within_1000_percent
returns-clause-page_two_factors_are_within_1000_percent g c = (told g c).0

pub returns-clause-follows_the_tariff : goal.returns-clause-follows_the_tariff
returns-clause-follows_the_tariff g c = (told g c).1

pub returns-clause-factors_divide_printed_lines : goal.returns-clause-factors_divide_printed_lines
returns-clause-factors_divide_printed_lines g c = g.met.T.Template.factors_divide_printed_lines hundredths c.args.self c.in_ok-factors.factors (told g c).1
