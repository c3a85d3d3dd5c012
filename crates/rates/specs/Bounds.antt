-- Holding keeps the rates of a list within the highest.
use Rattle.std.specs.Prelude.{ℕ, zero, suc, Some, None, Option}
use Rattle.std.specs.Option.{option_or}
use Rattle.rates.specs.Rates.{Rates, Within, NoRateAboveTheHighest, highest}
use Rattle.rates.specs.Holding.{latest_before, held}

option_or_within : (a b : Option ℕ) → Within highest a → Within highest b → Within highest (option_or a b)
option_or_within None b wa wb = wb
option_or_within (Some x) b wa wb = wa

latest_within : (rates : Rates) → NoRateAboveTheHighest rates → (month n : ℕ) → Within highest (latest_before rates month n)
unfolding latest_before
latest_within rates none_above month zero = tt
latest_within rates none_above zero (suc n) = tt
latest_within rates none_above (suc month) (suc n) =
    option_or_within (rates month) (latest_before rates month n) (none_above month) (latest_within rates none_above month n)

-- a list that holds the rates of another has none above the highest, if the other has none
pub held_has_no_rate_above_the_highest : (rates : Rates) → NoRateAboveTheHighest rates → NoRateAboveTheHighest (held rates)
held_has_no_rate_above_the_highest rates none_above month =
    option_or_within (rates month) (latest_before rates month 24) (none_above month) (latest_within rates none_above month 24)
