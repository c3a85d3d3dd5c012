-- The table of worked cases: each says what the definitions give for figures worked by hand or printed in the tariff.
use Rattle.std.specs.Prelude.{◌≡◌, ℕ, ◌<◌, pos, Some, None}
use Rattle.std.specs.Option.{option_map}
use Rattle.rates.specs.Holding.{held}
use Rattle.rates.specs.Rates.{Rates, december, january}
use Rattle.settlement_cases.specs.Table.{SettledCases}
use Rattle.sheets.specs.Attachments.{cc_rules, mm_rules}
use Rattle.cases.specs.Sheets.{cc_amounts, columns, columns_on, factors, factors_on, mm_amounts, project, rounded_sum_and_line_14}

-- the last month of a list that has a rate, and the rate
abbrev pub LastRate : Rates → ℕ → ℕ → Type 0
LastRate rates last rate = (rates last ≡ Some rate) × ((month : ℕ) → last < month → rates month ≡ None)

pub record WorkedCases : Type 0 where
  -- Attachment MM, its amounts entered by the numbers of its lines: every factor, and project 7
  pub mm_lines_4_to_14_are_250_200_30_120_350_300_700_and_1000 : factors_on mm_rules mm_amounts ≡ factors (Some (pos 250)) 200 30 120 350 300 700 1000
  pub mm_project_7_is_charged_750000_and_1800000_and_requires_2950000 : columns_on mm_rules mm_amounts (project 20000000 2000000 400000) ≡ columns 750000 1800000 400000 2950000
  -- Attachment CC's printed example, entered so too: every factor (on line 8 the print repeats line 9), and its three projects
  pub cc_lines_4_to_14_are_284_17_70_371_365_768_and_1132 : factors_on cc_rules cc_amounts ≡ factors None 284 17 70 371 365 768 1132
  pub cc_project_1_is_charged_742000_and_2207400_and_requires_3749400 : columns_on cc_rules cc_amounts (project 20000000 500000 800000) ≡ columns 742000 2207400 800000 3749400
  pub cc_project_2_is_charged_371000_and_905600_and_requires_1476600 : columns_on cc_rules cc_amounts (project 10000000 2000000 200000) ≡ columns 371000 905600 200000 1476600
  pub cc_project_3_is_charged_556500_and_1698000_and_requires_2254500 : columns_on cc_rules cc_amounts (project 15000000 0 0) ≡ columns 556500 1698000 0 2254500
  -- there lines 11 and 13 are 365 and 768: added as rounded they are 1,133, and line 14 is 1,132
  pub cc_rounded_lines_11_and_13_add_to_1133_and_line_14_is_1132 : option_map rounded_sum_and_line_14 (factors_on cc_rules cc_amounts) ≡ Some (pos 1133, pos 1132)
  -- December 2012 is the last month with a rate: holding covers December 2014, and January 2015 has nothing
  pub rate_held_to_december_2014 : (rates : Rates) (rate : ℕ) → LastRate rates (december 2012) rate → held rates (december 2014) ≡ Some rate
  pub no_rate_in_january_2015 : (rates : Rates) (rate : ℕ) → LastRate rates (december 2012) rate → held rates (january 2015) ≡ None
  -- the book: charges, shares, interest, true-ups, refusals and a run of three years
  pub book_settles_as_worked : SettledCases
