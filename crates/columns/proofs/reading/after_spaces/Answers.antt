use Rattle.std.proofs.Common.{eqb, drop, sym, ap, ◌∙◌, rules, tests}
use Rattle.std.proofs.lemmas.Iterator.{YieldsList-from_slice}
use Rattle.std.proofs.lemmas.Iterator.Consumers.{count_from_yields_List}
use Rattle.std.proofs.lemmas.Iterator.Search.{YieldsList-from_take_while}
use Rattle.std.proofs.lemmas.List.{take_rest}
use Rattle.std.proofs.lemmas.List.Folds.{length-prefix_len}
use Rattle.columns.proofs.Library.{after_spaces-drop}
use Rattle.columns.proofs.reading.after_spaces.Goals as goal

pub returns : goal.returns
returns c =
    let field = c.args.field.now in
    let spaces = count_from_yields_List c.take_while.result _ c.count-spaces.ensures.ran (YieldsList-from_take_while _ (λ b. eqb b 32) (YieldsList-from_slice field cc) c.take_while.ensures.closure c.take_while.ensures.done (λ x b q k. search (rules, tests))) ∙ length-prefix_len (λ b. eqb b 32) field in
    take_rest field c.count-spaces.result ∙ ap (λ k. drop k field) spaces ∙ sym (after_spaces-drop field)
