use Rattle.std.proofs.Common.{◌≡◌, ◌*◌, ◌<◌, ◌≤◌, length, arith, sym, ap, subst, ◌∙◌, rules}
use Rattle.rates.specs.Rates.{Within, january, highest}
use Rattle.rates.specs.Factor.{interest_months, sum_of}
use Rattle.rates.proofs.Sums.{adds_up, months_added, months_tried, sum_within, zero_plus}
use Rattle.rates.proofs.factors.factor.Goals as goal

pub try_fold-requires-clause-callable : goal.try_fold-requires-clause-callable
try_fold-requires-clause-callable g c =
    let rates = g.L.RateList.rates c.args.list.now in
    record {
      at = λ xs s q x u ys fs step.
          let added = months_added rates _ (record { 0 = c.args.list }) (λ n x q r. (search rules, search rules)) xs _ s 0 q ys fs in
          let small : q.1 ≤ length xs * highest = subst (Within (length xs * highest)) (sym (zero_plus _) ∙ added.1) (sum_within rates (g.met.L.RateList.no_rate_above_the_highest c.args.list.now) _ (length xs)) in
          let few : length xs < interest_months = omega (arith, added.2, added.3) in
          let same = added.0 in
          search rules;
    }

pub returns : goal.returns
returns g c =
    let rates = g.L.RateList.rates c.args.list.now in
    let ran = c.try_fold.ensures.ran in
    let added = months_added rates _ (record { 0 = c.args.list }) (λ n x q r. (search rules, search rules)) ran.0 _ ran.4.0 0 (ran.2, ran.3) ran.4.1 ran.5 in
    let value : c.try_fold.result ≡ sum_of rates (january c.args.year) interest_months =
    months_tried rates (12 * c.from-january.result) interest_months (length ran.0) ran.3 ran.1 c.try_fold.result ran.4.0 _ _ _ (sym (zero_plus _) ∙ added.1) added.2 added.3 ran.4.2 (omega (arith, added.4 (omega arith))) (λ a. search rules) (λ x m. (search rules, search rules)) ran.6
    ∙ ap (λ y. sum_of rates (january y) interest_months) c.from-january.ensures in
    record { value = value; adds_up_the_rates_of_24_months = adds_up rates (g.met.L.RateList.no_rate_above_the_highest c.args.list.now) (january c.args.year) interest_months c.try_fold.result value }
