use Rattle.std.proofs.Common.{refl}
use Rattle.rates.proofs.Held.{holds}
use Rattle.rates.proofs.holding_list.HoldingList.new.Goals as goal

pub returns : goal.returns
returns g c = record { stands_over_the_list = refl; holds_the_latest_rate = holds (g.L.RateList.rates c.args.list) }
