-- The worked cases of the book: each says what the definitions of settlement give for figures worked by hand.
use Rattle.std.specs.Prelude.{◌≡◌, ℕ, [], ◌∷◌, ℤ, pos, neg_ℤ, Some, None, Ok}
use Rattle.journals.specs.Journal.{holding}
use Rattle.rates.specs.Factor.{interest_months}
use Rattle.rates.specs.Given.{flat}
use Rattle.settlement.specs.declared.refusal.Refusal.TheVariants.{RequirementOutOfRange, UsageRateOutOfRange}
use Rattle.settlement.specs.declared.state.State.TheVariants.{Draft, Posted}
use Rattle.settlement.specs.Billing.{resettled}
use Rattle.settlement.specs.Books.{BookView, nothing_held}
use Rattle.settlement.specs.Lists.{terms_at}
use Rattle.settlement.specs.Drafting.{filed, posted}
use Rattle.settlement.specs.Outcomes.{done, refused}
use Rattle.settlement.specs.Paying.{paid}
use Rattle.settlement.specs.Rules.{charge, charge_scale, figures, figures_on, left_over, nothing_due, rate_scale, true_up, usage_rate}
use Rattle.settlement_cases.specs.Correction.{CorrectionRun, column_1, columns_1_and_2}
use Rattle.settlement_cases.specs.Years.{ThreeYearsRun, book, row}

-- a posted year in which column 16 is 1 for one row and 2 for the other, its money, what the two rows are paid, and the one reading
abbrev pub two_columns : ℤ → ℤ → ℤ → ℤ → ℕ → BookView
two_columns rate money paid_1 paid_2 kwh =
    columns_1_and_2 (Posted rate) money paid_1 paid_2 (holding nothing_held (1, 1) kwh)

-- a draft with one row that owes 27,825 dollars this year, and its requirement
abbrev pub refund_due : BookView
refund_due = book 2028 Draft (pos 0) (row 7 (neg_ℤ (pos 27825)) (pos 0) (pos 0) None None (pos 0) ∷ []) nothing_held

-- the same, with this requirement filed
abbrev pub refund_filed : ℤ → BookView
refund_filed requirement = book 2028 Draft (pos 0) (row 7 (neg_ℤ (pos 27825)) (pos 0) (pos 0) (Some requirement) None (pos 0) ∷ []) nothing_held

pub record SettledCases : Type 0 where
  -- with 1 and 2 as column 16: one book from its opening through 100 cents of money to 50, and three steps of one cent
  pub correction_goes_as_worked : CorrectionRun
  pub first_cent_pays_nothing : paid (two_columns (pos 30000) (pos 1) (pos 0) (pos 0) 3) ≡ done (pos 0, pos 1) (two_columns (pos 30000) (pos 1) (pos 0) (pos 0) 3)
  pub second_cent_pays_0_and_1 : paid (two_columns (pos 30000) (pos 2) (pos 0) (pos 0) 7) ≡ done (pos 1, pos 1) (two_columns (pos 30000) (pos 2) (pos 0) (pos 1) 7)
  pub third_cent_pays_1_and_2 : paid (two_columns (pos 30000) (pos 3) (pos 0) (pos 1) 10) ≡ done (pos 2, pos 0) (two_columns (pos 30000) (pos 3) (pos 1) (pos 2) 10)
  -- 1 and 2 kilowatt-hours both cost a cent: the change is 0
  pub both_readings_cost_a_cent : (resettled (two_columns (pos 50000) (pos 1) (pos 0) (pos 0) 1) (pos 1) (pos 1) (pos 2)).answer ≡ Ok (pos 0)
  -- a total of 2,950,000 over a forecast of 2,000,000
  pub usage_rate_is_14750 : usage_rate rate_scale (pos 2950000) 2000000 ≡ pos 14750
  -- a total of 1: half of a rate is posted as 1, and a third is 0, which is refused
  pub half_of_a_rate_is_posted_as_1 : posted (column_1 Draft) (pos 20000) ≡ done (pos 1) (column_1 (Posted (pos 1)))
  pub third_of_a_rate_is_refused : posted (column_1 Draft) (pos 30000) ≡ refused (column_1 Draft) UsageRateOutOfRange
  pub million_kilowatt_hours_cost_147500_cents : charge charge_scale 1000000 (pos 14750) ≡ pos 147500
  pub one_kilowatt_hour_costs_nothing : charge charge_scale 1 (pos 14750) ≡ pos 0
  -- an actual of 1,950,000 against 197,625,000 cents paid, at a flat rate of 25,000
  pub over_recovery_is_refunded : (year : ℕ) → figures (terms_at interest_months (record { rates = flat 25000 }) year) (pos 1950000) nothing_due (pos 197625000) ≡ record { difference = neg_ℤ (pos 2625000); interest = neg_ℤ (pos 157500); true_up = neg_ℤ (pos 27825); kept = pos 0 }
  -- cents in whole dollars, and the cents kept: 1,049; then a difference of 1 at factor 0; and 50 below zero
  pub cents_1049_settle_to_10_dollars : (true_up (pos 1049) ≡ pos 10) × (left_over (pos 1049) ≡ pos 49)
  pub one_cent_more_settles_to_1_dollar : figures_on (λ owed. 0) (pos 1) (pos 49) ≡ record { difference = pos 1; interest = pos 0; true_up = pos 1; kept = neg_ℤ (pos 50) }
  pub half_a_dollar_below_settles_away_from_zero : (true_up (neg_ℤ (pos 50)) ≡ neg_ℤ (pos 1)) × (left_over (neg_ℤ (pos 50)) ≡ pos 50)
  -- with -27,825 due now, a requirement may be 27,825 and not less
  pub requirement_of_27825_is_filed : filed refund_due (pos 7) (pos 27825) ≡ done tt (refund_filed (pos 27825))
  pub requirement_of_27824_is_refused : filed refund_due (pos 7) (pos 27824) ≡ refused refund_due RequirementOutOfRange
  -- a run of three years
  pub three_years_go_as_worked : ThreeYearsRun
