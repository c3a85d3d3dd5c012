-- What the list of an entry means.
use Rattle.std.specs.Prelude.{cond, ⊤}
use Rattle.rates.specs.Rates.{Rates}
use Rattle.rates.specs.Given.{flat, quarterly}
use Rattle.rates.specs.Holding.{held}
use Rattle.entries.specs.declared.given_list.GivenList.{GivenList}
use Rattle.entries.specs.declared.given_list.GivenList.TheVariants.{Flat, Quarter}
use Rattle.entries.specs.declared.given_list.ListEntry.{ListEntry}

-- the list that is given, and the list that holds its rates where the entry says `holding`
abbrev pub given_rates : GivenList → Rates
given_rates (Flat rate) = flat rate
given_rates (Quarter first rates) = quarterly first rates

abbrev pub rates_given : ListEntry → Rates
rates_given l = cond l.holding (held (given_rates l.list)) (given_rates l.list)

-- a list has the rates of quarters where it is a quarter list, or holds one
abbrev pub IsQuarterList : GivenList → Type 0
IsQuarterList (Flat rate) = ⊥
IsQuarterList (Quarter first rates) = ⊤

abbrev pub HasQuarterRates : ListEntry → Type 0
HasQuarterRates l = IsQuarterList l.list
