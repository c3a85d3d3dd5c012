use Rattle.std.proofs.Common.{◌≡◌, lit<, sym, ◌∙◌, rules, tests}
use Rattle.std.specs.List.{list_all, slice_split}
use Rattle.std.specs.Option.{is_some}
use Rattle.std.proofs.lemmas.Iterator.Search.{all_from_yields_List}
use Rattle.std.proofs.lemmas.Iterator.Splits.{YieldsList-from_str_split}
use Rattle.entries.specs.Numbers.{u32_in}
use Rattle.entries.specs.Rates.{rates_in}
use Rattle.entries.specs.Words.{is_comma}
use Rattle.entries.proofs.Rating.{all_there, one_missing, some_of}
use Rattle.entries.proofs.given_list.read_rates.Goals as goal

pub returns-then-not-all : goal.returns-then-not-all
returns-then-not-all c =
    let words = slice_split is_comma c.args.words.now in
    let all : c.all.result ≡ list_all (λ word. is_some (u32_in word)) words = all_from_yields_List (λ word. is_some (u32_in word)) _ _ c.all.result c.all.ensures.ran (YieldsList-from_str_split 44 c.args.words.now (lit< tt) c.split.ensures.text c.split.ensures.has_more c.split.ensures.pattern) (λ x b q k. search (rules, tests)) in
    one_missing u32_in words (sym all ∙ c.if-not-all.true)

pub invariant_of-result : goal.invariant_of-result
invariant_of-result c =
    let words = slice_split is_comma c.args.words.now in
    let all : c.all.result ≡ list_all (λ word. is_some (u32_in word)) words = all_from_yields_List (λ word. is_some (u32_in word)) _ _ c.all.result c.all.ensures.ran (YieldsList-from_str_split 44 c.args.words.now (lit< tt) c.split.ensures.text c.split.ensures.has_more c.split.ensures.pattern) (λ x b q k. search (rules, tests)) in
    all_there u32_in words (sym all ∙ c.if-not-all.false)

pub returns : goal.returns
returns c = some_of (rates_in c.args.words.now) (invariant_of-result c)
