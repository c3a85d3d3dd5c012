use Rattle.settlement.proofs.Runs.{conservation}
use Rattle.book.specs.Views.{places, view}
use Rattle.book.proofs.book.Book.open.Goals as goal

pub returns-clause-no_cent_is_made_or_lost : goal.returns-clause-no_cent_is_made_or_lost
returns-clause-no_cent_is_made_or_lost g c = conservation (view g.J.Journal.held) (places g.J.Journal.place) c.args.year c.draft.result c.draft.ensures.opened
