use Rattle.book.proofs.book.Book.standing.Goals as goal

pub returns-clause-answers_where_the_book_stands : goal.returns-clause-answers_where_the_book_stands
returns-clause-answers_where_the_book_stands g c = c.standing.ensures.answers_where_the_book_stands (g.J.Journal.held c.args.self.now.journal)

pub returns-clause-answer_has_at_most_64_rows : goal.returns-clause-answer_has_at_most_64_rows
returns-clause-answer_has_at_most_64_rows g c = rw (c.standing.ensures.answers_where_the_book_stands (g.J.Journal.held c.args.self.now.journal)) c.standing.ensures.at_most_64_rows
