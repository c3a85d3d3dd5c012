use Rattle.std.proofs.Common.{refl}
use Rattle.amounts.specs.Rounding.{rounded}
use Rattle.cases.proofs.Holding.{held_to_december_2014, none_in_january_2015}
use Rattle.settlement_cases.proofs.Table.{settled}
use Rattle.cases.proofs.worked_cases.Goals as goal

pub returns : goal.returns
unfolding rounded
returns c = record {
  worked_cases_hold = record {
    mm_lines_4_to_14_are_250_200_30_120_350_300_700_and_1000 = refl;
    mm_project_7_is_charged_750000_and_1800000_and_requires_2950000 = refl;
    cc_lines_4_to_14_are_284_17_70_371_365_768_and_1132 = refl;
    cc_project_1_is_charged_742000_and_2207400_and_requires_3749400 = refl;
    cc_project_2_is_charged_371000_and_905600_and_requires_1476600 = refl;
    cc_project_3_is_charged_556500_and_1698000_and_requires_2254500 = refl;
    cc_rounded_lines_11_and_13_add_to_1133_and_line_14_is_1132 = refl;
    rate_held_to_december_2014 = held_to_december_2014;
    no_rate_in_january_2015 = none_in_january_2015;
    book_settles_as_worked = settled;
  };
  counts_26_cases = refl;
}
