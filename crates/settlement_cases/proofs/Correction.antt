-- The meter correction call by call, computed.
use Rattle.std.proofs.Common.{refl}
use Rattle.amounts.specs.Rounding.{rounded, rounded_down}
use Rattle.settlement.specs.declared.state.State.TheVariants.{Draft}
use Rattle.settlement.specs.Drafting.{opened}
use Rattle.settlement.specs.Runs.{no_call, one_more}
use Rattle.settlement_cases.specs.Correction.{CorrectionRun, column_1}

pub correction_run : CorrectionRun
unfolding rounded rounded_down
correction_run = record {
  project_1_files_1 = (refl, refl);
  project_2_files_2 = (refl, refl);
  forecast_of_1_posts_30000 = (refl, refl);
  bill_of_333_kilowatt_hours_is_100 = (refl, refl);
  money_of_100_pays_33_and_66 = (refl, refl);
  resettling_to_50_answers_50_below_zero = (refl, refl);
  money_of_50_pays_16_and_33 = (refl, refl);
  calls_are_one_run =
      one_more _ _ _ (one_more _ _ _ (one_more _ _ _ (one_more _ _ _ (one_more _ _ _ (one_more _ _ _ (one_more _ (opened 2026) (column_1 Draft) no_call (refl, refl)) (refl, refl)) (refl, refl)) (refl, refl)) (refl, refl)) (refl, refl)) (refl, refl);
}
