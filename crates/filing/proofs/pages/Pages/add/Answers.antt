use Rattle.std.proofs.Common.{sym, subst, rules}
use Rattle.std.specs.List.{All}
use Rattle.std.proofs.lemmas.List.Elements.{All-push}
use Rattle.filing.specs.Filed.{IsPricedOn}
use Rattle.filing.specs.Rows.{row_of, rows_of}
use Rattle.filing.proofs.pages.Pages.add.Goals as goal

pub invariant_of-self-2 : goal.invariant_of-self-2
invariant_of-self-2 g c =
    let priced = IsPricedOn g.T.Template.rules c.self.inside.sheet.factors in
    subst (All priced) (sym c.push.ensures) (All-push priced (rows_of c.self.inside.projects) (row_of c.in_ok-price.field-0) c.self.invariant (search rules))
