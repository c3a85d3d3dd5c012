-- How the tally counts a run of calls.
use Rattle.std.specs.Prelude.{ℕ, true, false, List, [], ◌∷◌, map, Some, None}
use Rattle.rates.specs.Factor.{interest_months}
use Rattle.settlement.specs.Calls.{Call, Fed, fed, fed_file, fed_post, fed_bill, fed_resettle, fed_pay, fed_state, fed_close}
use Rattle.settlement.specs.Lists.{terms_at}
use Rattle.settlement.specs.Rules.{pair_of, unsigned}
use Rattle.settlement.specs.Tally.{Tally, next_year, note_actual, note_payment, note_rate, note_reading, note_requirement, nothing_noted}

-- a refused call leaves the tally alone
abbrev pub count : Fed → Tally → Tally
count (fed_file project requirement true) t = note_requirement (unsigned project) requirement t
count (fed_file project requirement false) t = t
count (fed_post forecast (Some rate)) t = note_rate rate t
count (fed_post forecast None) t = t
count (fed_bill participant month kwh true) t = note_reading (pair_of participant month) (unsigned kwh) t
count (fed_bill participant month kwh false) t = t
count (fed_resettle participant month kwh true) t = note_reading (pair_of participant month) (unsigned kwh) t
count (fed_resettle participant month kwh false) t = t
count (fed_pay (Some answer)) t = note_payment answer.0 t
count (fed_pay None) t = t
count (fed_state project actual true) t = note_actual (unsigned project) actual t
count (fed_state project actual false) t = t
count (fed_close lists true) t = next_year (terms_at interest_months lists t.year) t
count (fed_close lists false) t = t

-- the newest call stands first
abbrev pub tally_of : ℕ → List Fed → Tally
tally_of year [] = nothing_noted year
tally_of year (c ∷ cs) = count c (tally_of year cs)

-- the tally of a run of calls on a book opened in this year
abbrev pub tally : ℕ → List Call → Tally
tally year calls = tally_of year (map fed calls)
