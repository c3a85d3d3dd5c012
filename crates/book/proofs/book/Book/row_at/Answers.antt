use Rattle.book.proofs.book.Book.row_at.Goals as goal

pub returns-clause-answers_the_row_there : goal.returns-clause-answers_the_row_there
returns-clause-answers_the_row_there g c = c.row_at.ensures.answers_the_row_there (g.J.Journal.held c.args.self.now.journal)
