use Rattle.book.proofs.Held.{held_at_most, held_has_a_place}
use Rattle.book.proofs.book.Book.held.Goals as goal

pub returns : goal.returns
returns g c =
    let journal = c.args.self.now.journal in
    let laws = g.met.J.Journal.held_within_limit_at_places_in_range journal in
    record {
      value = c.look.ensures;
      at_most = held_at_most (g.J.Journal.held journal) (g.J.Journal.place journal) laws _ c.look.result c.look.ensures;
      place = held_has_a_place (g.J.Journal.held journal) (g.J.Journal.place journal) laws _ c.look.result c.look.ensures;
    }
