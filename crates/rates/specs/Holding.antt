-- Holding: where a list has no rate, the latest one of the 24 months before is taken.
use Rattle.std.specs.Prelude.{◌≡◌, ℕ, zero, suc, ◌+◌, ◌<◌, ◌≤◌, Some, None, Option}
use Rattle.std.specs.Option.{option_or}
use Rattle.rates.specs.Rates.{Rates, Has}

-- the latest rate among the `count` months before a month; there is no month below 0
unfoldable pub latest_before : Rates → ℕ → ℕ → Option ℕ
latest_before rates month zero = None
latest_before rates zero (suc n) = None
latest_before rates (suc month) (suc n) = option_or (rates month) (latest_before rates month n)

-- the month's own rate, or else the latest that one of 24 months before has
abbrev pub held : Rates → Rates
held rates month = option_or (rates month) (latest_before rates month 24)

-- one of the 25 months up to a month
abbrev pub UpTo : ℕ → ℕ → Type 0
UpTo month earlier = (earlier ≤ month) × (month ≤ earlier + 24)

-- no month after the one up to the other has a rate
abbrev pub NothingAfter : Rates → ℕ → ℕ → Type 0
NothingAfter rates last month = (later : ℕ) → last < later → later ≤ month → rates later ≡ None

-- what holds of a list that holds the rates of another
pub record Holds (rates holding : Rates) : Type 0 where
  pub month_with_a_rate_is_never_changed : (month rate : ℕ) → rates month ≡ Some rate → holding month ≡ Some rate
  pub latest_rate_is_taken : (last month rate : ℕ) → UpTo month last → rates last ≡ Some rate → NothingAfter rates last month → holding month ≡ Some rate
  pub rate_where_one_of_25_months_has_one : (month earlier : ℕ) → UpTo month earlier → Has rates earlier → Has holding month
  pub rate_only_where_one_of_25_months_has_one : (month : ℕ) → Has holding month → (earlier : ℕ) × (UpTo month earlier × Has rates earlier)
