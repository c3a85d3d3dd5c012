use Rattle.std.proofs.Common.{◌≡◌, Ok, Err, IsUtf8, sym, ap, ◌∙◌, rules}
use Rattle.std.proofs.lemmas.Bool.{both_ways}
use Rattle.std.specs.Result.{MatchResult}
use Rattle.columns.specs.declared.refusal.Refusal.TheVariants.{NotANumber}
use Rattle.columns.specs.Fields.{number_in}
use Rattle.columns.specs.Texts.{begins_plainly}
use Rattle.columns.proofs.Spelling.{not_a_number, number_parsed, well_formed_readable}
use Rattle.columns.proofs.reading.number_in.Goals as goal

pub returns-then-not-begins_plainly : goal.returns-then-not-begins_plainly
returns-then-not-begins_plainly c =
    let text = c.args.text.now in
    not_a_number text (λ h. both_ways _ (sym c.if-not-begins_plainly.ensures) (well_formed_readable text h).0.0)

pub returns-in_err-text : goal.returns-in_err-text
returns-in_err-text c =
    let text = c.args.text.now in
    let answer : c.from_residual.result ≡ Err NotANumber = search rules in
    let no_text : IsUtf8 text → ⊥ = search rules in
    answer ∙ not_a_number text (λ h. no_text (well_formed_readable text h).0.1)

pub returns : goal.returns
returns c =
    let same : c.in_ok-text.text.now ≡ c.args.text.now = search rules in
    let answer : MatchResult c.parse.result (λ n. c.map_err-2.result ≡ Ok n) (λ _. c.map_err-2.result ≡ Err NotANumber) = search rules in
    number_parsed c.in_ok-text.text.now c.parse.result c.map_err-2.result (ap begins_plainly same ∙ sym c.if-not-begins_plainly.ensures) c.parse.ensures.value.0 answer ∙ ap number_in same
