use Rattle.std.proofs.Common.{sym, ap, ◌∙◌, subst, get_or}
use Rattle.book.specs.Tables.{StandsAt}
use Rattle.book.proofs.Places.{found, not_found, room_before_the_last}
use Rattle.book.proofs.row_table.RowTable.row_of.Goals as goal

pub returns-in-Some : goal.returns-in-Some
returns-in-Some c =
    let is = sym c.first_place.ensures ∙ c.in-Some.is in
    let here = c.index-rows-place.is ∙ ap (λ rows. get_or rows c.in-Some.place c.index-rows-place.result) c.in_use-rows.ensures.rows in
    let h = subst (StandsAt c.args.project c.args.self.now.rows c.in-Some.place) (sym here) (found c.args.project c.args.self.now.rows c.in-Some.place c.index-rows-place.result is) in
    let few = rw c.in_use-rows.ensures.rows at c.in_use-rows.ensures.few in
    record { stands = h; room = room_before_the_last c.args.project c.args.self.now.rows c.in-Some.place c.index-rows-place.result h few }

pub returns-in-None : goal.returns-in-None
returns-in-None c =
    let h = not_found c.args.project c.args.self.now.rows (sym c.first_place.ensures ∙ c.in-None.is) in
    let few = rw c.in_use-rows.ensures.rows at c.in_use-rows.ensures.few in
    rw (c.in_use-rows.ensures.rows, c.new.ensures) (record { stands = h; room = room_before_the_last c.args.project c.args.self.now.rows _ _ h few })
