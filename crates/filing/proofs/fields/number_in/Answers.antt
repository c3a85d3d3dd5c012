use Rattle.std.proofs.Common.{◌≡◌, ◌^◌, ◌<◌, nat_abs, Ok, sym, ap, ◌∙◌, arith, w64, to_z, of_z, rules}
use mir.Syntax.{w128}
use Rattle.std.proofs.lemmas.Int.{ints}
use Rattle.columns.proofs.Laws.{read_is_below}
use Rattle.filing.specs.Fields.{as_field}
use Rattle.filing.proofs.fields.number_in.Goals as goal

below : (c : goal.In_ok-read_number) → nat_abs c.in_ok-read_number.field-0 < 10 ^ 12
below c = read_is_below 12 c.args.field.now c.in_ok-read_number.field-0 c.requires (sym c.in_ok-read_number.ensures.answer)

pub overflow_cast-result : goal.overflow_cast-result
overflow_cast-result c = let b = below c in search (rules, ints)

pub returns : goal.returns
returns c =
    let b = below c in
    let n = c.in_ok-read_number.field-0 in
    let same : to_z w64 (of_z w64 (to_z w128 (of_z w128 n))) ≡ n = omega (arith, ints) in
    ap Ok same ∙ ap as_field c.in_ok-read_number.ensures.answer
