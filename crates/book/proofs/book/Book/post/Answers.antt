use Rattle.std.proofs.Common.{arith}
use Rattle.std.proofs.lemmas.Grind.{common_steps}
use Rattle.book.specs.Tables.{book_of}
use Rattle.book.proofs.Posting.{posted_rate_is_nearest}
use Rattle.book.proofs.book.Book.post.Goals as goal

pub returns-clause-outcome : goal.returns-clause-outcome
returns-clause-outcome g c =
    let h = c.post.ensures (g.J.Journal.held c.args.self.now.journal) in
    grind (arith, common_steps)

pub returns-clause-is_a_step_of_the_runs_that_the_law_covers : goal.returns-clause-is_a_step_of_the_runs_that_the_law_covers
returns-clause-is_a_step_of_the_runs_that_the_law_covers g c = returns-clause-outcome g c

pub returns-clause-usage_rate_is_nearest_to_10000_times_the_total_over_the_forecast : goal.returns-clause-usage_rate_is_nearest_to_10000_times_the_total_over_the_forecast
returns-clause-usage_rate_is_nearest_to_10000_times_the_total_over_the_forecast g c =
    let held = g.J.Journal.held c.args.self.now.journal in
    posted_rate_is_nearest (book_of held c.args.self.now.table) (book_of held c.post.new.self) c.args.forecast c.post.result (returns-clause-outcome g c)
