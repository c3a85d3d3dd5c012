-- Three years of one book, worked by hand: a run of calls, and what the tally makes of them.
use Rattle.std.specs.Prelude.{◌≡◌, ℕ, true, List, [], ◌∷◌, ℤ, pos, neg_ℤ, Some, None, Ok, Err, Option}
use Rattle.journals.specs.Journal.{Held}
use Rattle.settlement.specs.declared.refusal.Refusal.TheVariants.{AlreadyHeld}
use Rattle.settlement.specs.declared.state.State.{State}
use Rattle.settlement.specs.declared.state.State.TheVariants.{Draft}
use Rattle.settlement.specs.Books.{BookView, RowView, nothing_held}
use Rattle.settlement.specs.Calls.{Call, file, post, bill, resettle, pay, state, close}
use Rattle.settlement.specs.Lists.{Lists}
use Rattle.settlement.specs.Balance.{difference_in}
use Rattle.settlement.specs.Counting.{tally}
use Rattle.settlement.specs.Drafting.{opened}
use Rattle.settlement.specs.Runs.{Run, Step}
use Rattle.settlement.specs.Tally.{charges, closed_actuals}

-- project, due now, due next, kept cents, requirement, actual, paid
abbrev pub row : ℕ → ℤ → ℤ → ℤ → Option ℤ → Option ℤ → ℤ → RowView
row project now next kept requirement actual paid = record { project = project; account = record { due_now = now; due_next = next; kept = kept }; filed = record { requirement = requirement; actual = actual }; paid = paid }

-- year, state, money, rows, what the journal holds
abbrev pub book : ℕ → State → ℤ → List RowView → Held → BookView
book year posted money rows held = record { year = year; state = posted; money = money; rows = rows; held = held }

-- a call takes one book to the next, over a journal that has every place
abbrev pub Goes : Call → BookView → BookView → Type 0
Goes c b b' = Step (λ b. b) (λ b pair. true) c b b'

-- a quarter of a percent in every month
abbrev pub every_month : Lists
every_month = record { rates = λ month. Some 25000 }

-- the first year before its close, the newest call first: 1 and 2 as column 16, and 100 cents after a meter correction
abbrev pub first_year : List Call
first_year =
    pay (Ok (pos 0, pos 1))
    ∷ state (pos 9) (pos 1) (Ok tt)
    ∷ state (pos 7) (pos 3) (Ok tt)
    ∷ pay (Ok (pos 99, pos 1))
    ∷ resettle (pos 1) (pos 1) (pos 333) (Ok (neg_ℤ (pos 200)))
    ∷ bill (pos 1) (pos 1) (pos 1000) (Err AlreadyHeld)
    ∷ bill (pos 1) (pos 1) (pos 1000) (Ok (pos 300))
    ∷ post (pos 1) (Ok (pos 30000))
    ∷ file (pos 9) (pos 2) (Ok tt)
    ∷ file (pos 7) (pos 1) (Ok tt)
    ∷ []

-- the first close, and a second year: columns 5 and 5, and 10 cents more
abbrev pub two_years : List Call
two_years =
    close every_month (Ok tt)
    ∷ pay (Ok (pos 10, pos 1))
    ∷ state (pos 9) (pos 0) (Ok tt)
    ∷ state (pos 7) (pos 5) (Ok tt)
    ∷ bill (pos 1) (pos 1) (pos 20) (Ok (pos 10))
    ∷ post (pos 2) (Ok (pos 50000))
    ∷ file (pos 9) (pos 5) (Ok tt)
    ∷ file (pos 7) (pos 5) (Ok tt)
    ∷ close every_month (Ok tt)
    ∷ first_year

-- a third year: columns 4 + 3 and 7, and 14 cents more
abbrev pub three_years : List Call
three_years =
    close every_month (Ok tt)
    ∷ state (pos 9) (pos 7) (Ok tt)
    ∷ state (pos 7) (pos 5) (Ok tt)
    ∷ pay (Ok (pos 14, pos 1))
    ∷ bill (pos 1) (pos 1) (pos 20) (Ok (pos 14))
    ∷ post (pos 2) (Ok (pos 70000))
    ∷ file (pos 9) (pos 7) (Ok tt)
    ∷ file (pos 7) (pos 4) (Ok tt)
    ∷ two_years

-- differences of 267 and 34, then of 495 and -5, then of 793 and 693
abbrev pub last_book : BookView
last_book = book 2029 Draft (pos 1) (row 7 (pos 5) (pos 8) (pos 49) None None (pos 0) ∷ row 9 (pos 0) (pos 8) (neg_ℤ (pos 34)) None None (pos 0) ∷ []) nothing_held

pub record ThreeYearsRun : Type 0 where
  pub book_goes_through_them : Run (λ b. b) (λ b pair. true) (opened 2026) three_years last_book
  pub charges_come_to_124 : charges (tally 2026 three_years) ≡ pos 124
  pub payments_come_to_123 : (tally 2026 three_years).payments ≡ pos 123
  pub first_differences_are_267_and_34 : (difference_in (tally 2026 first_year) 7 ≡ pos 267) × (difference_in (tally 2026 first_year) 9 ≡ pos 34)
  pub account_7_has_5_due_now_8_due_next_and_49_kept : (tally 2026 three_years).past.accounts 7 ≡ record { due_now = pos 5; due_next = pos 8; kept = pos 49 }
  pub account_9_has_nothing_due_now_8_due_next_and_34_below_kept : (tally 2026 three_years).past.accounts 9 ≡ record { due_now = pos 0; due_next = pos 8; kept = neg_ℤ (pos 34) }
  pub project_7_has_receipts_45_interest_94_actuals_13 : ((tally 2026 three_years).past.receipts 7 ≡ pos 45) × ((tally 2026 three_years).past.interest 7 ≡ pos 94) × (closed_actuals (tally 2026 three_years) 7 ≡ pos 13)
  pub project_9_has_receipts_78_interest_44_actuals_8 : ((tally 2026 three_years).past.receipts 9 ≡ pos 78) × ((tally 2026 three_years).past.interest 9 ≡ pos 44) × (closed_actuals (tally 2026 three_years) 9 ≡ pos 8)
