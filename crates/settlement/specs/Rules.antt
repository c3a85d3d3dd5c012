-- The rules, over plain numbers: dollars, cents and rates are whole numbers, signed where they can fall below zero.
use Rattle.std.specs.Prelude.{ℕ, List, [], ◌∷◌, ℤ, pos, negsuc, ◌+ℤ◌, ◌-ℤ◌, ◌*ℤ◌, Some, None, Option}
use Rattle.amounts.specs.Rounding.{rounded, rounded_down}
use Rattle.settlement.specs.declared.account.Account.{Account}

-- a number of 0 or more, as a count; below 0 there is nothing to count
abbrev pub unsigned : ℤ → ℕ
unsigned (pos n) = n
unsigned (negsuc n) = 0

-- the pair under which a journal holds, and the tally notes, kilowatt-hours
abbrev pub pair_of : ℤ → ℤ → ℕ × ℕ
pair_of participant month = (unsigned participant, unsigned month)

-- the sum of an amount over a list
abbrev pub sum_over : {X : Type 0} → (X → ℤ) → List X → ℤ
sum_over amount [] = pos 0
sum_over amount (x ∷ xs) = amount x +ℤ sum_over amount xs

-- dollars in cents
abbrev pub cents : ℤ → ℤ
cents dollars = pos 100 *ℤ dollars

-- the account of a project that files for the first time
abbrev pub nothing_due : Account
nothing_due = record { due_now = pos 0; due_next = pos 0; kept = pos 0 }

-- what is still owed to a project, in cents
abbrev pub outstanding : Account → ℤ
outstanding account = cents (account.due_now +ℤ account.due_next) +ℤ account.kept

-- requirement plus true-up due now, in dollars; nothing where no requirement is filed
abbrev pub column_16 : Option ℤ → Account → ℤ
column_16 None account = pos 0
column_16 (Some requirement) account = requirement +ℤ account.due_now

-- dollars over forecast megawatt-hours, in parts of a dollar
abbrev pub usage_rate : ℕ → ℤ → ℕ → ℤ
usage_rate scale total forecast = rounded (total *ℤ pos scale) forecast

-- kilowatt-hours at a usage rate, in cents
abbrev pub charge : ℕ → ℕ → ℤ → ℤ
charge scale kwh rate = rounded (pos kwh *ℤ rate) scale

-- the part of the money that a column is of the total, rounded down
abbrev pub share : ℤ → ℤ → ℤ → ℤ
share money total column = rounded_down (money *ℤ column) (unsigned total)

-- what a project should have been paid, less what it was paid, in cents; column 16 carries dollars beyond the requirement
abbrev pub difference : ℤ → ℤ → ℤ → ℤ
difference actual carried paid = cents (actual +ℤ carried) -ℤ paid

-- for each difference the factor that prices it; today the same for all
abbrev pub Terms : Type 0
Terms = ℤ → ℕ

-- interest on what is owed, in cents, rounded: what is below zero bears interest too
abbrev pub interest : ℕ → Terms → ℤ → ℤ
interest scale terms owed = rounded (owed *ℤ pos (terms owed)) scale

-- cents in whole dollars, and the cents that these leave
abbrev pub true_up : ℤ → ℤ
true_up settling = rounded settling 100

abbrev pub left_over : ℤ → ℤ
left_over settling = settling -ℤ cents (true_up settling)

-- the scales of today: ten-thousandths of a dollar for a megawatt-hour are hundred-thousandths of a cent
-- for a kilowatt-hour, and interest counts ten-millionths
abbrev pub rate_scale : ℕ
rate_scale = 10000

abbrev pub charge_scale : ℕ
charge_scale = 100000

abbrev pub interest_scale : ℕ
interest_scale = 10000000

-- a project's year as a close works it out
pub record Figures : Type 0 where
  pub difference : ℤ
  pub interest : ℤ
  pub true_up : ℤ
  pub kept : ℤ

-- the four figures of what is owed and the cents kept so far: interest first, then all three in whole dollars
abbrev pub figures_on : Terms → ℤ → ℤ → Figures
figures_on terms owed kept =
    let borne = interest interest_scale terms owed in
    let settling = (owed +ℤ borne) +ℤ kept in
    record { difference = owed; interest = borne; true_up = true_up settling; kept = left_over settling }

-- from the actual that is stated, the account and what was paid
abbrev pub figures : Terms → ℤ → Account → ℤ → Figures
figures terms actual account paid = figures_on terms (difference actual account.due_now paid) account.kept

-- the account in the next year
abbrev pub settled : Figures → Account → Account
settled f account = record { due_now = account.due_next; due_next = f.true_up; kept = f.kept }
