-- A rate is held for 24 months and no longer.
use Rattle.std.proofs.Common.{◌≡◌, ℕ, ◌<◌, true, is_some, Some, None, Option, refl, arith}
use Rattle.rates.proofs.Held.{holds}
use Rattle.rates.specs.Holding.{held}
use Rattle.rates.specs.Rates.{Rates, december, january}
use Rattle.cases.specs.Table.{LastRate}

none : (o : Option ℕ) → (is_some o ≡ true → ⊥) → o ≡ None
none None h = refl
none (Some x) h = absurd (h refl)

pub held_to_december_2014 : (rates : Rates) (rate : ℕ) → LastRate rates (december 2012) rate → held rates (december 2014) ≡ Some rate
held_to_december_2014 rates rate h = (holds rates).latest_rate_is_taken (december 2012) (december 2014) rate (omega arith, omega arith) h.0 (λ month after _. h.1 month after)

pub none_in_january_2015 : (rates : Rates) (rate : ℕ) → LastRate rates (december 2012) rate → held rates (january 2015) ≡ None
none_in_january_2015 rates rate h =
    none (held rates (january 2015))
    (λ has.
    let found = (holds rates).rate_only_where_one_of_25_months_has_one (january 2015) has in
    let after : december 2012 < found.0 = omega arith in
    let missing = h.1 found.0 after in
    let there = found.1.1 in
    let z : ◌≡◌ {A = ℕ} 0 1 = cc in
    omega arith)
