-- What the lists that a line of text can name mean.
use Rattle.rates.specs.Rates.{Rates}
use Rattle.rates.specs.Holding.{held}
use Rattle.rates.specs.Lists.{flat_rates, quarter_rates}
use Rattle.rates.specs.declared.named_list.NamedList.{NamedList}
use Rattle.rates.specs.declared.named_list.NamedList.TheVariants.{Flat, Quarter, HoldingFlat, HoldingQuarter}

abbrev pub named_rates : NamedList → Rates
named_rates (Flat list) = flat_rates list
named_rates (Quarter list) = quarter_rates list
named_rates (HoldingFlat list) = held (flat_rates list.list)
named_rates (HoldingQuarter list) = held (quarter_rates list.list)
