use Rattle.std.proofs.Common.{◌∙◌, ap, rules}
use Rattle.rates.proofs.Held.{latest_found}
use Rattle.rates.proofs.holding_list.latest_rate_before.Goals as goal

pub returns : goal.returns
returns g c =
    let run = c.find_map.ensures.runs in
    let behind = c.rev.ensures.runs run.0 run.0.seen run.1 in
    latest_found _ _ run.0 behind.0 (g.L.RateList.rates c.args.list.now) c.args.month c.args.count c.find_map.result
    (behind.2, ap (λ r. r.start) behind.1 ∙ c.saturating_sub.ensures, ap (λ r. r.end) behind.1) (λ x r q k. search rules) run.2
