use Rattle.std.proofs.Common.{◌≡◌, lit<, IfOk, subst, ◌∙◌, rules, tests, vec_items}
use Rattle.std.specs.List.{slice_split}
use Rattle.std.proofs.lemmas.Iterator.{items_from_collect}
use Rattle.std.proofs.lemmas.Iterator.Consumers.{YieldsList-from_filter_map}
use Rattle.std.proofs.lemmas.Iterator.Splits.{YieldsList-from_str_split}
use Rattle.entries.specs.Numbers.{u32_in}
use Rattle.entries.specs.Words.{is_comma}
use Rattle.entries.proofs.Rating.{kept_all}
use Rattle.entries.proofs.given_list.GivenRates.to_vec.Goals as goal

pub returns : goal.returns
returns c =
    let words = slice_split is_comma c.self.inside.words.now in
    subst (λ rates. IfOk c.collect.result (λ run. vec_items run ≡ rates)) (kept_all u32_in words c.self.invariant ∙ c.self.view_is)
    (items_from_collect _ c.collect.ensures.ran (YieldsList-from_filter_map _ u32_in (YieldsList-from_str_split 44 c.self.inside.words.now (lit< tt) (cc) (cc) (cc)) c.filter_map.ensures.closure (λ x r q k. search (rules, tests))))
