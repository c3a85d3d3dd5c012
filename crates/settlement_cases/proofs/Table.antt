-- The worked cases of the book, computed.
use Rattle.std.proofs.Common.{refl}
use Rattle.amounts.specs.Rounding.{rounded, rounded_down}
use Rattle.settlement_cases.proofs.Correction.{correction_run}
use Rattle.settlement_cases.proofs.Settling.{refunded}
use Rattle.settlement_cases.proofs.ThreeYears.{three_years_run}
use Rattle.settlement_cases.specs.Table.{SettledCases}

pub settled : SettledCases
unfolding rounded rounded_down
settled = record {
  correction_goes_as_worked = correction_run;
  first_cent_pays_nothing = refl;
  second_cent_pays_0_and_1 = refl;
  third_cent_pays_1_and_2 = refl;
  both_readings_cost_a_cent = refl;
  usage_rate_is_14750 = refl;
  half_of_a_rate_is_posted_as_1 = refl;
  third_of_a_rate_is_refused = refl;
  million_kilowatt_hours_cost_147500_cents = refl;
  one_kilowatt_hour_costs_nothing = refl;
  over_recovery_is_refunded = refunded;
  cents_1049_settle_to_10_dollars = (refl, refl);
  one_cent_more_settles_to_1_dollar = refl;
  half_a_dollar_below_settles_away_from_zero = (refl, refl);
  requirement_of_27825_is_filed = refl;
  requirement_of_27824_is_refused = refl;
  three_years_go_as_worked = three_years_run;
}
