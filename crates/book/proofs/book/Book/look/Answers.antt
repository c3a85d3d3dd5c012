use Rattle.std.proofs.Common.{arith}
use Rattle.std.proofs.lemmas.Grind.{common_steps}
use Rattle.book.proofs.book.Book.look.Goals as goal

pub returns-clause-answers_the_projects_row : goal.returns-clause-answers_the_projects_row
returns-clause-answers_the_projects_row g c =
    let h = c.look.ensures.answers_the_projects_row (g.J.Journal.held c.args.self.now.journal) in
    grind (arith, common_steps)
