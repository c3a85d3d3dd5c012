-- The settlement's worked figures, computed.
use Rattle.std.proofs.Common.{◌≡◌, ℕ, pos, neg_ℤ, refl}
use Rattle.amounts.specs.Rounding.{rounded}
use Rattle.rates.specs.Factor.{interest_months, sum_of}
use Rattle.rates.specs.Given.{flat}
use Rattle.settlement.specs.Lists.{terms_at}
use Rattle.settlement.specs.Rules.{figures, nothing_due}

pub refunded : (year : ℕ) → figures (terms_at interest_months (record { rates = flat 25000 }) year) (pos 1950000) nothing_due (pos 197625000) ≡ record { difference = neg_ℤ (pos 2625000); interest = neg_ℤ (pos 157500); true_up = neg_ℤ (pos 27825); kept = pos 0 }
unfolding rounded sum_of
refunded year = refl
