-- One book through a meter correction, worked by hand: each call goes on from the book that the one before left.
use Rattle.std.specs.Prelude.{true, List, [], ◌∷◌, ℤ, pos, neg_ℤ, Some, None, Ok}
use Rattle.journals.specs.Journal.{Held, holding}
use Rattle.settlement.specs.declared.state.State.{State}
use Rattle.settlement.specs.declared.state.State.TheVariants.{Draft, Posted}
use Rattle.settlement.specs.Books.{BookView, nothing_held}
use Rattle.settlement.specs.Calls.{Call, file, post, bill, resettle, pay}
use Rattle.settlement.specs.Drafting.{opened}
use Rattle.settlement.specs.Runs.{Run}
use Rattle.settlement_cases.specs.Years.{Goes, book, row}

-- a year without money whose one row has 1 as column 16
abbrev pub column_1 : State → BookView
column_1 state = book 2026 state (pos 0) (row 1 (pos 0) (pos 0) (pos 0) (Some (pos 1)) None (pos 0) ∷ []) nothing_held

-- a year whose rows have 1 and 2 as column 16: its money, what the two rows are paid, and what is held
abbrev pub columns_1_and_2 : State → ℤ → ℤ → ℤ → Held → BookView
columns_1_and_2 state money paid_1 paid_2 held =
    book 2026 state money (row 1 (pos 0) (pos 0) (pos 0) (Some (pos 1)) None paid_1 ∷ row 2 (pos 0) (pos 0) (pos 0) (Some (pos 2)) None paid_2 ∷ []) held

-- the same before any money
abbrev pub both_filed : State → BookView
both_filed state = columns_1_and_2 state (pos 0) (pos 0) (pos 0) nothing_held

-- the same posted for a forecast of 1
abbrev pub posted_for_1 : ℤ → ℤ → ℤ → Held → BookView
posted_for_1 = columns_1_and_2 (Posted (pos 30000))

-- the one reading as it was billed, and as it was corrected
abbrev pub billed_333 : Held
billed_333 = holding nothing_held (1, 1) 333

abbrev pub corrected_to_167 : Held
corrected_to_167 = holding billed_333 (1, 1) 167

-- the calls on a book just opened, the newest first
abbrev pub correction : List Call
correction =
    pay (Ok (neg_ℤ (pos 50), pos 1))
    ∷ resettle (pos 1) (pos 1) (pos 167) (Ok (neg_ℤ (pos 50)))
    ∷ pay (Ok (pos 99, pos 1))
    ∷ bill (pos 1) (pos 1) (pos 333) (Ok (pos 100))
    ∷ post (pos 1) (Ok (pos 30000))
    ∷ file (pos 2) (pos 2) (Ok tt)
    ∷ file (pos 1) (pos 1) (Ok tt)
    ∷ []

pub record CorrectionRun : Type 0 where
  pub project_1_files_1 : Goes (file (pos 1) (pos 1) (Ok tt)) (opened 2026) (column_1 Draft)
  pub project_2_files_2 : Goes (file (pos 2) (pos 2) (Ok tt)) (column_1 Draft) (both_filed Draft)
  pub forecast_of_1_posts_30000 : Goes (post (pos 1) (Ok (pos 30000))) (both_filed Draft) (both_filed (Posted (pos 30000)))
  pub bill_of_333_kilowatt_hours_is_100 : Goes (bill (pos 1) (pos 1) (pos 333) (Ok (pos 100))) (both_filed (Posted (pos 30000))) (posted_for_1 (pos 100) (pos 0) (pos 0) billed_333)
  pub money_of_100_pays_33_and_66 : Goes (pay (Ok (pos 99, pos 1))) (posted_for_1 (pos 100) (pos 0) (pos 0) billed_333) (posted_for_1 (pos 100) (pos 33) (pos 66) billed_333)
  pub resettling_to_50_answers_50_below_zero : Goes (resettle (pos 1) (pos 1) (pos 167) (Ok (neg_ℤ (pos 50)))) (posted_for_1 (pos 100) (pos 33) (pos 66) billed_333) (posted_for_1 (pos 50) (pos 33) (pos 66) corrected_to_167)
  pub money_of_50_pays_16_and_33 : Goes (pay (Ok (neg_ℤ (pos 50), pos 1))) (posted_for_1 (pos 50) (pos 33) (pos 66) corrected_to_167) (posted_for_1 (pos 50) (pos 16) (pos 33) corrected_to_167)
  pub calls_are_one_run : Run (λ b. b) (λ b pair. true) (opened 2026) correction (posted_for_1 (pos 50) (pos 16) (pos 33) corrected_to_167)
