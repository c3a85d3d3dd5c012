-- The factor of a year: the sum of its rates from January on.
use Rattle.std.specs.Prelude.{◌≡◌, ℕ, zero, suc, ◌+◌, ◌*◌, ◌<◌, List, [], ◌∷◌, length, Some, None, Option, slice_index}
use Rattle.rates.specs.Rates.{Rates, Within, highest, january}

-- a sum, where both are there
abbrev pub plus : Option ℕ → Option ℕ → Option ℕ
plus None b = None
plus (Some x) None = None
plus (Some x) (Some y) = Some (x + y)

-- what the rates of `count` months from `first` on add up to, or nothing where a month has none
unfoldable pub sum_of : Rates → ℕ → ℕ → Option ℕ
sum_of rates first zero = Some 0
sum_of rates first (suc n) = plus (sum_of rates first n) (rates (first + n))

-- the months of a factor: two years
abbrev pub interest_months : ℕ
interest_months = 24

-- the factor of a year: the sum of 24 rates from its January on
abbrev pub factor_of : Rates → ℕ → Option ℕ
factor_of rates year = sum_of rates (january year) interest_months

-- the sum of some numbers
abbrev pub total : List ℕ → ℕ
total [] = 0
total (x ∷ xs) = x + total xs

-- the months from `first` on have these rates
abbrev pub RatesFrom : Rates → ℕ → List ℕ → Type 0
RatesFrom rates first xs = (i : ℕ) → i < length xs → rates (first + i) ≡ Some (slice_index xs i)

-- what holds of the sum of `count` months from `first` on
pub record AddsUp (rates : Rates) (first count : ℕ) (sum : Option ℕ) : Type 0 where
  pub missing_month_leaves_no_sum : (i : ℕ) → i < count → rates (first + i) ≡ None → sum ≡ None
  pub sum_is_the_total_of_the_rates : (xs : List ℕ) → length xs ≡ count → RatesFrom rates first xs → sum ≡ Some (total xs)
  pub sum_is_at_most_the_highest_rate_each_month : Within (count * highest) sum
