-- What the flat list and the quarter list mean.
use Rattle.std.specs.Prelude.{vec_items}
use Rattle.rates.specs.Rates.{Rates}
use Rattle.rates.specs.Given.{flat, quarterly}
use Rattle.rates.specs.declared.flat_list.FlatList.{FlatList}
use Rattle.rates.specs.declared.quarter_list.QuarterList.{QuarterList}

abbrev pub flat_rates : FlatList → Rates
flat_rates list = flat list.rate

abbrev pub quarter_rates : QuarterList → Rates
quarter_rates list = quarterly list.first (vec_items list.run)
