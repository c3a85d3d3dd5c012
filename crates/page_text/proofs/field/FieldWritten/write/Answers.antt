use Rattle.std.proofs.Common.{◌≡◌, ◌≤◌, ◌++◌, take, drop, is_ok, Ok, sym, refl, ap, subst, arith, w64, SFits, to_z, of_z, rules}
use mir.Syntax.{w128}
use Rattle.std.proofs.lemmas.List.{length-take-le}
use Rattle.std.proofs.lemmas.Int.{ints}
use Rattle.columns.specs.Fields.{Gives as Wrote, right_justified, written}
use Rattle.columns.specs.Texts.{width_of}
use Rattle.columns.proofs.Widths.{right_justified_fills}
use Rattle.page_text.specs.Fields.{field_text}
use Rattle.page_text.specs.Outcomes.{Gives, printed}
use Rattle.page_text.proofs.Columns.{accepted_there, wide_enough}
use Rattle.page_text.proofs.field.FieldWritten.write.Goals as goal
use Rattle.page_text.proofs.field.FieldWritten.write.Goals.{After-write_number}

narrow : (c : After-write_number) → width_of c.self.inside.number ≤ c.self.inside.columns
narrow c = let f = c.self.inside in wide_enough f.columns f.number c.self.invariant.0 c.self.invariant.1

-- the number is written into its columns
wrote : (c : After-write_number) → (c.write_number.result ≡ Ok tt) × (c.write_number.new.field ≡ right_justified c.self.inside.columns c.self.inside.number)
wrote c =
    let f = c.self.inside in
    let part = take f.columns c.args.bytes.now in
    let fits : SFits w64 f.number = search rules in
    let number : to_z w128 (of_z w128 c.from.result) ≡ f.number = omega (arith, ints) in
    accepted_there f.columns f.number part c.write_number.new.field c.write_number.result
    (length-take-le f.columns c.args.bytes.now (omega (arith, ap (λ p. p.columns) c.self.view_is))) (narrow c)
    (subst (λ n. Wrote (written part n) c.write_number.result c.write_number.new.field) number c.write_number.ensures)

pub unwrap-requires : goal.unwrap-requires
unwrap-requires c = ap is_ok (wrote (goal.at.unwrap-requires c).After-write_number).0

pub returns-clause-text : goal.returns-clause-text
returns-clause-text c =
    let before = (goal.at.returns-clause-text c).After-write_number in
    let f = c.self.inside in
    let long = right_justified_fills f.columns f.number (narrow before) in
    let text : Gives (printed (right_justified f.columns f.number) c.args.bytes.now) f.columns (c.write_number.new.field ++ drop f.columns c.args.bytes.now) = (sym long, rw (long, (wrote before).1) refl) in
    subst (λ p. Gives (printed (field_text p) c.args.bytes.now) f.columns (c.write_number.new.field ++ drop f.columns c.args.bytes.now)) c.self.view_is text
