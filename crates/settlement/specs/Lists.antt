-- The rate list that a close takes, and the terms that it gives a year.
use Rattle.std.specs.Prelude.{ℕ, Option}
use Rattle.std.specs.Option.{option_map, unwrap_or}
use Rattle.rates.specs.Factor.{sum_of}
use Rattle.rates.specs.Rates.{Rates, january}
use Rattle.settlement.specs.Rules.{Terms}

-- by its meaning; a record, since a close may come to take more than one
pub record Lists : Type 0 where
  pub rates : Rates

-- one factor for every difference: what the rates of so many months add up to, January of the year first, where each has one
abbrev pub terms_of : ℕ → Lists → ℕ → Option Terms
terms_of months lists year = option_map (λ factor owed. factor) (sum_of lists.rates (january year) months)

-- the terms where there are any; without them a close is refused
abbrev pub terms_at : ℕ → Lists → ℕ → Terms
terms_at months lists year = unwrap_or (terms_of months lists year) (λ owed. 0)
