-- The meaning of a rate list: the months, counted through from January of year 0, and the rate of each if it has one.
-- Rates count ten-millionths for one month.
use Rattle.std.specs.Prelude.{ℕ, ◌+◌, ◌*◌, ◌≤◌, cond, IsSome, IfSome, Some, None, Option, nat_le}

-- for each month its rate, or nothing
abbrev pub Rates : Type 0
Rates = ℕ → Option ℕ

-- the first and the last month of a year
abbrev pub january : ℕ → ℕ
january year = 12 * year

abbrev pub december : ℕ → ℕ
december year = 12 * year + 11

-- a month has a rate
abbrev pub Has : Rates → ℕ → Type 0
Has rates month = IsSome (rates month)

-- one percent a month
abbrev pub highest : ℕ
highest = 100000

-- a number that is there is not above the limit
abbrev pub Within : ℕ → Option ℕ → Type 0
Within limit number = IfSome number (λ n. n ≤ limit)

-- every rate is within 0 to the highest
abbrev pub NoRateAboveTheHighest : Rates → Type 0
NoRateAboveTheHighest rates = (month : ℕ) → Within highest (rates month)

-- a given rate above the highest counts as nothing
abbrev pub counted : ℕ → Option ℕ
counted rate = cond (nat_le rate highest) (Some rate) None
