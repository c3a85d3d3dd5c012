-- The lists of given rates: one for every month, or one for each quarter of a run.
use Rattle.std.specs.Prelude.{◌≡◌, ℕ, ◌+◌, ◌-◌, ◌*◌, ◌/◌, ◌<◌, ◌≤◌, cond, ◌&&◌, List, length, None, nat_le, nat_lt, slice_index}
use Rattle.rates.specs.Rates.{Rates, counted}

-- one rate in every month
abbrev pub flat : ℕ → Rates
flat rate month = counted rate

-- each rate of the run for three months, from the first quarter on; other months have nothing
abbrev pub quarterly : ℕ → List ℕ → Rates
quarterly first run month =
    let quarter = month / 3 in
    cond (nat_le first quarter && nat_lt (quarter - first) (length run)) (counted (slice_index run (quarter - first))) None

-- the same, month by month
pub record QuarterByQuarter (first : ℕ) (run : List ℕ) (rates : Rates) : Type 0 where
  pub each_rate_stands_for_three_months : (place month : ℕ) → place < length run → month < 3 → rates (3 * (first + place) + month) ≡ counted (slice_index run place)
  pub months_before_the_run_have_nothing : (month : ℕ) → month < 3 * first → rates month ≡ None
  pub months_after_the_run_have_nothing : (month : ℕ) → 3 * (first + length run) ≤ month → rates month ≡ None
