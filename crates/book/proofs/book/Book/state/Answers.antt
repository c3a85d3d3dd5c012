use Rattle.std.proofs.Common.{arith}
use Rattle.std.proofs.lemmas.Grind.{common_steps}
use Rattle.book.proofs.book.Book.state.Goals as goal

pub returns-clause-outcome : goal.returns-clause-outcome
returns-clause-outcome g c =
    let h = c.state.ensures (g.J.Journal.held c.args.self.now.journal) in
    grind (arith, common_steps)

pub returns-clause-is_a_step_of_the_runs_that_the_law_covers : goal.returns-clause-is_a_step_of_the_runs_that_the_law_covers
returns-clause-is_a_step_of_the_runs_that_the_law_covers g c = returns-clause-outcome g c
