use Rattle.std.proofs.Common.{[], sym, subst, rules}
use Rattle.std.specs.List.{All}
use Rattle.std.proofs.lemmas.List.Elements.{All-cons, All-nil}
use Rattle.filing.specs.Filed.{IsPricedOn}
use Rattle.filing.specs.Rows.{row_of}
use Rattle.filing.proofs.pages.Pages.open.Goals as goal

pub invariant_of-result : goal.invariant_of-result
invariant_of-result g c =
    let priced = IsPricedOn g.T.Template.rules c.in_ok-sheet.sheet.factors in
    subst (All priced) (sym c.of.ensures) (All-cons priced (row_of c.in_ok-first.first) [] (search rules) (All-nil priced))
