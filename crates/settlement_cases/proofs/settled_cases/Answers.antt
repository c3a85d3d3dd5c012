use Rattle.std.proofs.Common.{refl}
use Rattle.settlement_cases.proofs.Table.{settled}
use Rattle.settlement_cases.proofs.settled_cases.Goals as goal

pub returns : goal.returns
returns c = record { settled_cases_hold = settled; counts_17_cases = refl }
