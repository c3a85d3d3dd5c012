-- The tally: what the accepted calls noted, and what the rules make of it. It never sees a book.
use Rattle.std.specs.Prelude.{ℕ, ◌+◌, Bool, false, cond, ◌&&◌, ◌||◌, List, [], ◌∷◌, ◌++◌, ℤ, pos, ◌+ℤ◌, ◌-ℤ◌, Some, None, Option, ◌==◌}
use Rattle.std.specs.Option.{unwrap_or}
use Rattle.journals.specs.Journal.{Pair, same_pair}
use Rattle.settlement.specs.declared.account.Account.{Account}
use Rattle.settlement.specs.Rules.{Figures, Terms, charge, charge_scale, column_16, figures, nothing_due, settled, share, sum_over}

-- kilowatt-hours noted for a year and a pair
pub record Reading : Type 0 where
  pub year : ℕ
  pub pair : Pair
  pub kwh : ℕ

abbrev pub is_for : ℕ → Pair → Reading → Bool
is_for year pair r = r.year == year && same_pair pair r.pair

-- a reading noted over the one that was noted there
abbrev pub with_reading : ℕ → Pair → ℕ → List Reading → List Reading
with_reading year pair kwh [] = record { year = year; pair = pair; kwh = kwh } ∷ []
with_reading year pair kwh (r ∷ rs) = cond (is_for year pair r) (record { year = year; pair = pair; kwh = kwh } ∷ rs) (r ∷ with_reading year pair kwh rs)

-- the kilowatt-hours noted there, if any
abbrev pub reading_at : ℕ → Pair → List Reading → Option ℕ
reading_at year pair [] = None
reading_at year pair (r ∷ rs) = cond (is_for year pair r) (Some r.kwh) (reading_at year pair rs)

-- dollars noted for a year and a project
abbrev pub Notes : Type 0
Notes = ℕ → ℕ → Option ℤ

-- dollars noted over those that were noted there
abbrev pub with_note : ℕ → ℕ → ℤ → Notes → Notes
with_note year project dollars notes y p = cond (year == y && project == p) (Some dollars) (notes y p)

-- what was metered: readings, and the usage rate of each year
pub record Metered : Type 0 where
  pub readings : List Reading
  pub rates : ℕ → ℤ

-- what was filed and stated
pub record Filings : Type 0 where
  pub requirements : Notes
  pub actuals : Notes

-- what the closed years left to each project: its account, its receipts and the interest that it bore, in cents
pub record Past : Type 0 where
  pub years : List ℕ
  pub accounts : ℕ → Account
  pub receipts : ℕ → ℤ
  pub interest : ℕ → ℤ

-- all that is noted: the year, the projects in the order of first filing, and the sum of the first answers of pay as payments
pub record Tally : Type 0 where
  pub year : ℕ
  pub projects : List ℕ
  pub metered : Metered
  pub filings : Filings
  pub payments : ℤ
  pub past : Past

-- the tally of a book just opened
abbrev pub nothing_noted : ℕ → Tally
nothing_noted year = record {
  year = year;
  projects = [];
  metered = record { readings = []; rates = λ y. pos 0 };
  filings = record { requirements = λ y p. None; actuals = λ y p. None };
  payments = pos 0;
  past = record { years = []; accounts = λ p. nothing_due; receipts = λ p. pos 0; interest = λ p. pos 0 };
}

-- the charge on a reading at the rate of its year
abbrev pub charge_on : (ℕ → ℤ) → Reading → ℤ
charge_on rates r = charge charge_scale r.kwh (rates r.year)

-- all charges of all years, on what is noted now
abbrev pub charges : Tally → ℤ
charges t = sum_over (charge_on t.metered.rates) t.metered.readings

-- the charges that no project received in a closed year
abbrev pub money_left : Tally → ℤ
money_left t = charges t -ℤ sum_over t.past.receipts t.projects

-- column 16 of a project in this year, the total of all, and the project's share of the money left
abbrev pub column : Tally → ℕ → ℤ
column t project = column_16 (t.filings.requirements t.year project) (t.past.accounts project)

abbrev pub total : Tally → ℤ
total t = sum_over (column t) t.projects

abbrev pub tally_share : Tally → ℕ → ℤ
tally_share t project = share (money_left t) (total t) (column t project)

-- the actual noted for a year, 0 where none is
abbrev pub actual_in : Tally → ℕ → ℕ → ℤ
actual_in t project year = unwrap_or (t.filings.actuals year project) (pos 0)

-- the actuals of closed years, in dollars
abbrev pub closed_actuals : Tally → ℕ → ℤ
closed_actuals t project = sum_over (actual_in t project) t.past.years

-- a project's figures if the year were closed now, with its share as paid
abbrev pub tally_figures : Tally → Terms → ℕ → Figures
tally_figures t terms project = figures terms (actual_in t project t.year) (t.past.accounts project) (tally_share t project)

abbrev pub is_in : ℕ → List ℕ → Bool
is_in project [] = false
is_in project (p ∷ ps) = p == project || is_in project ps

-- the project after the others, if it is new
abbrev pub with_project : ℕ → List ℕ → List ℕ
with_project project projects = cond (is_in project projects) projects (projects ++ project ∷ [])

abbrev pub with_metered : Metered → Tally → Tally
with_metered metered t = record { year = t.year; projects = t.projects; metered = metered; filings = t.filings; payments = t.payments; past = t.past }

-- kilowatt-hours noted for this year
abbrev pub note_reading : Pair → ℕ → Tally → Tally
note_reading pair kwh t = with_metered (record { readings = with_reading t.year pair kwh t.metered.readings; rates = t.metered.rates }) t

-- this year's usage rate noted
abbrev pub with_rate : ℕ → ℤ → (ℕ → ℤ) → ℕ → ℤ
with_rate year rate rates y = cond (year == y) rate (rates y)

abbrev pub note_rate : ℤ → Tally → Tally
note_rate rate t = with_metered (record { readings = t.metered.readings; rates = with_rate t.year rate t.metered.rates }) t

abbrev pub with_filings : List ℕ → Filings → Tally → Tally
with_filings projects filings t = record { year = t.year; projects = projects; metered = t.metered; filings = filings; payments = t.payments; past = t.past }

-- a requirement noted; a project that files for the first time joins the others
abbrev pub note_requirement : ℕ → ℤ → Tally → Tally
note_requirement project requirement t = with_filings (with_project project t.projects) (record { requirements = with_note t.year project requirement t.filings.requirements; actuals = t.filings.actuals }) t

-- an actual noted
abbrev pub note_actual : ℕ → ℤ → Tally → Tally
note_actual project actual t = with_filings t.projects (record { requirements = t.filings.requirements; actuals = with_note t.year project actual t.filings.actuals }) t

-- one more payment
abbrev pub note_payment : ℤ → Tally → Tally
note_payment amount t = record { year = t.year; projects = t.projects; metered = t.metered; filings = t.filings; payments = t.payments +ℤ amount; past = t.past }

-- every project's account settled, its share received and its interest borne
abbrev pub closed_past : Tally → Terms → Past
closed_past t terms = record {
  years = t.year ∷ t.past.years;
  accounts = λ p. settled (tally_figures t terms p) (t.past.accounts p);
  receipts = λ p. t.past.receipts p +ℤ tally_share t p;
  interest = λ p. t.past.interest p +ℤ (tally_figures t terms p).interest;
}

-- a close: the year grows by one
abbrev pub next_year : Terms → Tally → Tally
next_year terms t = record { year = t.year + 1; projects = t.projects; metered = t.metered; filings = t.filings; payments = t.payments; past = closed_past t terms }
