-- The three years call by call, with the book after each.
use Rattle.std.proofs.Common.{true, [], ◌∷◌, pos, neg_ℤ, Some, None, Ok, Err, refl}
use Rattle.amounts.specs.Rounding.{rounded, rounded_down}
use Rattle.journals.specs.Journal.{holding}
use Rattle.rates.specs.Factor.{sum_of}
use Rattle.settlement.specs.declared.refusal.Refusal.TheVariants.{AlreadyHeld}
use Rattle.settlement.specs.declared.state.State.TheVariants.{Draft, Posted}
use Rattle.settlement.specs.Books.{BookView, nothing_held}
use Rattle.settlement.specs.Calls.{file, post, bill, resettle, pay, state, close}
use Rattle.settlement.specs.Drafting.{opened}
use Rattle.settlement.specs.Runs.{Run, no_call, one_more}
use Rattle.settlement_cases.specs.Years.{Goes, ThreeYearsRun, book, every_month, last_book, row, three_years}

abbrev book_1 : BookView
book_1 = book 2026 Draft (pos 0) (row 7 (pos 0) (pos 0) (pos 0) (Some (pos 1)) None (pos 0) ∷ []) nothing_held

step_1 : Goes (file (pos 7) (pos 1) (Ok tt)) (opened 2026) book_1
step_1 = (refl, refl)

abbrev book_2 : BookView
book_2 = book 2026 Draft (pos 0) (row 7 (pos 0) (pos 0) (pos 0) (Some (pos 1)) None (pos 0) ∷ row 9 (pos 0) (pos 0) (pos 0) (Some (pos 2)) None (pos 0) ∷ []) nothing_held

step_2 : Goes (file (pos 9) (pos 2) (Ok tt)) book_1 book_2
step_2 = (refl, refl)

abbrev book_3 : BookView
book_3 = book 2026 (Posted (pos 30000)) (pos 0) (row 7 (pos 0) (pos 0) (pos 0) (Some (pos 1)) None (pos 0) ∷ row 9 (pos 0) (pos 0) (pos 0) (Some (pos 2)) None (pos 0) ∷ []) nothing_held

step_3 : Goes (post (pos 1) (Ok (pos 30000))) book_2 book_3
unfolding rounded
step_3 = (refl, refl)

abbrev book_4 : BookView
book_4 = book 2026 (Posted (pos 30000)) (pos 300) (row 7 (pos 0) (pos 0) (pos 0) (Some (pos 1)) None (pos 0) ∷ row 9 (pos 0) (pos 0) (pos 0) (Some (pos 2)) None (pos 0) ∷ []) (holding nothing_held (1, 1) 1000)

step_4 : Goes (bill (pos 1) (pos 1) (pos 1000) (Ok (pos 300))) book_3 book_4
unfolding rounded
step_4 = (refl, refl)

abbrev book_5 : BookView
book_5 = book 2026 (Posted (pos 30000)) (pos 300) (row 7 (pos 0) (pos 0) (pos 0) (Some (pos 1)) None (pos 0) ∷ row 9 (pos 0) (pos 0) (pos 0) (Some (pos 2)) None (pos 0) ∷ []) (holding nothing_held (1, 1) 1000)

step_5 : Goes (bill (pos 1) (pos 1) (pos 1000) (Err AlreadyHeld)) book_4 book_5
unfolding rounded
step_5 = (refl, refl)

abbrev book_6 : BookView
book_6 = book 2026 (Posted (pos 30000)) (pos 100) (row 7 (pos 0) (pos 0) (pos 0) (Some (pos 1)) None (pos 0) ∷ row 9 (pos 0) (pos 0) (pos 0) (Some (pos 2)) None (pos 0) ∷ []) (holding (holding nothing_held (1, 1) 1000) (1, 1) 333)

step_6 : Goes (resettle (pos 1) (pos 1) (pos 333) (Ok (neg_ℤ (pos 200)))) book_5 book_6
unfolding rounded
step_6 = (refl, refl)

abbrev book_7 : BookView
book_7 = book 2026 (Posted (pos 30000)) (pos 100) (row 7 (pos 0) (pos 0) (pos 0) (Some (pos 1)) None (pos 33) ∷ row 9 (pos 0) (pos 0) (pos 0) (Some (pos 2)) None (pos 66) ∷ []) (holding (holding nothing_held (1, 1) 1000) (1, 1) 333)

step_7 : Goes (pay (Ok (pos 99, pos 1))) book_6 book_7
unfolding rounded_down
step_7 = (refl, refl)

abbrev book_8 : BookView
book_8 = book 2026 (Posted (pos 30000)) (pos 100) (row 7 (pos 0) (pos 0) (pos 0) (Some (pos 1)) (Some (pos 3)) (pos 33) ∷ row 9 (pos 0) (pos 0) (pos 0) (Some (pos 2)) None (pos 66) ∷ []) (holding (holding nothing_held (1, 1) 1000) (1, 1) 333)

step_8 : Goes (state (pos 7) (pos 3) (Ok tt)) book_7 book_8
step_8 = (refl, refl)

abbrev book_9 : BookView
book_9 = book 2026 (Posted (pos 30000)) (pos 100) (row 7 (pos 0) (pos 0) (pos 0) (Some (pos 1)) (Some (pos 3)) (pos 33) ∷ row 9 (pos 0) (pos 0) (pos 0) (Some (pos 2)) (Some (pos 1)) (pos 66) ∷ []) (holding (holding nothing_held (1, 1) 1000) (1, 1) 333)

step_9 : Goes (state (pos 9) (pos 1) (Ok tt)) book_8 book_9
step_9 = (refl, refl)

abbrev book_10 : BookView
book_10 = book 2026 (Posted (pos 30000)) (pos 100) (row 7 (pos 0) (pos 0) (pos 0) (Some (pos 1)) (Some (pos 3)) (pos 33) ∷ row 9 (pos 0) (pos 0) (pos 0) (Some (pos 2)) (Some (pos 1)) (pos 66) ∷ []) (holding (holding nothing_held (1, 1) 1000) (1, 1) 333)

step_10 : Goes (pay (Ok (pos 0, pos 1))) book_9 book_10
unfolding rounded_down
step_10 = (refl, refl)

abbrev book_11 : BookView
book_11 = book 2027 Draft (pos 1) (row 7 (pos 0) (pos 3) (neg_ℤ (pos 17)) None None (pos 0) ∷ row 9 (pos 0) (pos 0) (pos 36) None None (pos 0) ∷ []) nothing_held

step_11 : Goes (close every_month (Ok tt)) book_10 book_11
unfolding rounded rounded_down sum_of
step_11 = (refl, refl)

abbrev book_12 : BookView
book_12 = book 2027 Draft (pos 1) (row 7 (pos 0) (pos 3) (neg_ℤ (pos 17)) (Some (pos 5)) None (pos 0) ∷ row 9 (pos 0) (pos 0) (pos 36) None None (pos 0) ∷ []) nothing_held

step_12 : Goes (file (pos 7) (pos 5) (Ok tt)) book_11 book_12
step_12 = (refl, refl)

abbrev book_13 : BookView
book_13 = book 2027 Draft (pos 1) (row 7 (pos 0) (pos 3) (neg_ℤ (pos 17)) (Some (pos 5)) None (pos 0) ∷ row 9 (pos 0) (pos 0) (pos 36) (Some (pos 5)) None (pos 0) ∷ []) nothing_held

step_13 : Goes (file (pos 9) (pos 5) (Ok tt)) book_12 book_13
step_13 = (refl, refl)

abbrev book_14 : BookView
book_14 = book 2027 (Posted (pos 50000)) (pos 1) (row 7 (pos 0) (pos 3) (neg_ℤ (pos 17)) (Some (pos 5)) None (pos 0) ∷ row 9 (pos 0) (pos 0) (pos 36) (Some (pos 5)) None (pos 0) ∷ []) nothing_held

step_14 : Goes (post (pos 2) (Ok (pos 50000))) book_13 book_14
unfolding rounded
step_14 = (refl, refl)

abbrev book_15 : BookView
book_15 = book 2027 (Posted (pos 50000)) (pos 11) (row 7 (pos 0) (pos 3) (neg_ℤ (pos 17)) (Some (pos 5)) None (pos 0) ∷ row 9 (pos 0) (pos 0) (pos 36) (Some (pos 5)) None (pos 0) ∷ []) (holding nothing_held (1, 1) 20)

step_15 : Goes (bill (pos 1) (pos 1) (pos 20) (Ok (pos 10))) book_14 book_15
unfolding rounded
step_15 = (refl, refl)

abbrev book_16 : BookView
book_16 = book 2027 (Posted (pos 50000)) (pos 11) (row 7 (pos 0) (pos 3) (neg_ℤ (pos 17)) (Some (pos 5)) (Some (pos 5)) (pos 0) ∷ row 9 (pos 0) (pos 0) (pos 36) (Some (pos 5)) None (pos 0) ∷ []) (holding nothing_held (1, 1) 20)

step_16 : Goes (state (pos 7) (pos 5) (Ok tt)) book_15 book_16
step_16 = (refl, refl)

abbrev book_17 : BookView
book_17 = book 2027 (Posted (pos 50000)) (pos 11) (row 7 (pos 0) (pos 3) (neg_ℤ (pos 17)) (Some (pos 5)) (Some (pos 5)) (pos 0) ∷ row 9 (pos 0) (pos 0) (pos 36) (Some (pos 5)) (Some (pos 0)) (pos 0) ∷ []) (holding nothing_held (1, 1) 20)

step_17 : Goes (state (pos 9) (pos 0) (Ok tt)) book_16 book_17
step_17 = (refl, refl)

abbrev book_18 : BookView
book_18 = book 2027 (Posted (pos 50000)) (pos 11) (row 7 (pos 0) (pos 3) (neg_ℤ (pos 17)) (Some (pos 5)) (Some (pos 5)) (pos 5) ∷ row 9 (pos 0) (pos 0) (pos 36) (Some (pos 5)) (Some (pos 0)) (pos 5) ∷ []) (holding nothing_held (1, 1) 20)

step_18 : Goes (pay (Ok (pos 10, pos 1))) book_17 book_18
unfolding rounded_down
step_18 = (refl, refl)

abbrev book_19 : BookView
book_19 = book 2028 Draft (pos 1) (row 7 (pos 3) (pos 5) (pos 8) None None (pos 0) ∷ row 9 (pos 0) (pos 0) (pos 31) None None (pos 0) ∷ []) nothing_held

step_19 : Goes (close every_month (Ok tt)) book_18 book_19
unfolding rounded rounded_down sum_of
step_19 = (refl, refl)

abbrev book_20 : BookView
book_20 = book 2028 Draft (pos 1) (row 7 (pos 3) (pos 5) (pos 8) (Some (pos 4)) None (pos 0) ∷ row 9 (pos 0) (pos 0) (pos 31) None None (pos 0) ∷ []) nothing_held

step_20 : Goes (file (pos 7) (pos 4) (Ok tt)) book_19 book_20
step_20 = (refl, refl)

abbrev book_21 : BookView
book_21 = book 2028 Draft (pos 1) (row 7 (pos 3) (pos 5) (pos 8) (Some (pos 4)) None (pos 0) ∷ row 9 (pos 0) (pos 0) (pos 31) (Some (pos 7)) None (pos 0) ∷ []) nothing_held

step_21 : Goes (file (pos 9) (pos 7) (Ok tt)) book_20 book_21
step_21 = (refl, refl)

abbrev book_22 : BookView
book_22 = book 2028 (Posted (pos 70000)) (pos 1) (row 7 (pos 3) (pos 5) (pos 8) (Some (pos 4)) None (pos 0) ∷ row 9 (pos 0) (pos 0) (pos 31) (Some (pos 7)) None (pos 0) ∷ []) nothing_held

step_22 : Goes (post (pos 2) (Ok (pos 70000))) book_21 book_22
unfolding rounded
step_22 = (refl, refl)

abbrev book_23 : BookView
book_23 = book 2028 (Posted (pos 70000)) (pos 15) (row 7 (pos 3) (pos 5) (pos 8) (Some (pos 4)) None (pos 0) ∷ row 9 (pos 0) (pos 0) (pos 31) (Some (pos 7)) None (pos 0) ∷ []) (holding nothing_held (1, 1) 20)

step_23 : Goes (bill (pos 1) (pos 1) (pos 20) (Ok (pos 14))) book_22 book_23
unfolding rounded
step_23 = (refl, refl)

abbrev book_24 : BookView
book_24 = book 2028 (Posted (pos 70000)) (pos 15) (row 7 (pos 3) (pos 5) (pos 8) (Some (pos 4)) None (pos 7) ∷ row 9 (pos 0) (pos 0) (pos 31) (Some (pos 7)) None (pos 7) ∷ []) (holding nothing_held (1, 1) 20)

step_24 : Goes (pay (Ok (pos 14, pos 1))) book_23 book_24
unfolding rounded_down
step_24 = (refl, refl)

abbrev book_25 : BookView
book_25 = book 2028 (Posted (pos 70000)) (pos 15) (row 7 (pos 3) (pos 5) (pos 8) (Some (pos 4)) (Some (pos 5)) (pos 7) ∷ row 9 (pos 0) (pos 0) (pos 31) (Some (pos 7)) None (pos 7) ∷ []) (holding nothing_held (1, 1) 20)

step_25 : Goes (state (pos 7) (pos 5) (Ok tt)) book_24 book_25
step_25 = (refl, refl)

abbrev book_26 : BookView
book_26 = book 2028 (Posted (pos 70000)) (pos 15) (row 7 (pos 3) (pos 5) (pos 8) (Some (pos 4)) (Some (pos 5)) (pos 7) ∷ row 9 (pos 0) (pos 0) (pos 31) (Some (pos 7)) (Some (pos 7)) (pos 7) ∷ []) (holding nothing_held (1, 1) 20)

step_26 : Goes (state (pos 9) (pos 7) (Ok tt)) book_25 book_26
step_26 = (refl, refl)

step_27 : Goes (close every_month (Ok tt)) book_26 last_book
unfolding rounded rounded_down sum_of
step_27 = (refl, refl)

ran : Run (λ b. b) (λ b pair. true) (opened 2026) three_years last_book
ran = one_more (close every_month (Ok tt)) book_26 last_book (one_more (state (pos 9) (pos 7) (Ok tt)) book_25 book_26 (one_more (state (pos 7) (pos 5) (Ok tt)) book_24 book_25 (one_more (pay (Ok (pos 14, pos 1))) book_23 book_24 (one_more (bill (pos 1) (pos 1) (pos 20) (Ok (pos 14))) book_22 book_23 (one_more (post (pos 2) (Ok (pos 70000))) book_21 book_22 (one_more (file (pos 9) (pos 7) (Ok tt)) book_20 book_21 (one_more (file (pos 7) (pos 4) (Ok tt)) book_19 book_20 (one_more (close every_month (Ok tt)) book_18 book_19 (one_more (pay (Ok (pos 10, pos 1))) book_17 book_18 (one_more (state (pos 9) (pos 0) (Ok tt)) book_16 book_17 (one_more (state (pos 7) (pos 5) (Ok tt)) book_15 book_16 (one_more (bill (pos 1) (pos 1) (pos 20) (Ok (pos 10))) book_14 book_15 (one_more (post (pos 2) (Ok (pos 50000))) book_13 book_14 (one_more (file (pos 9) (pos 5) (Ok tt)) book_12 book_13 (one_more (file (pos 7) (pos 5) (Ok tt)) book_11 book_12 (one_more (close every_month (Ok tt)) book_10 book_11 (one_more (pay (Ok (pos 0, pos 1))) book_9 book_10 (one_more (state (pos 9) (pos 1) (Ok tt)) book_8 book_9 (one_more (state (pos 7) (pos 3) (Ok tt)) book_7 book_8 (one_more (pay (Ok (pos 99, pos 1))) book_6 book_7 (one_more (resettle (pos 1) (pos 1) (pos 333) (Ok (neg_ℤ (pos 200)))) book_5 book_6 (one_more (bill (pos 1) (pos 1) (pos 1000) (Err AlreadyHeld)) book_4 book_5 (one_more (bill (pos 1) (pos 1) (pos 1000) (Ok (pos 300))) book_3 book_4 (one_more (post (pos 1) (Ok (pos 30000))) book_2 book_3 (one_more (file (pos 9) (pos 2) (Ok tt)) book_1 book_2 (one_more (file (pos 7) (pos 1) (Ok tt)) (opened 2026) book_1 no_call step_1) step_2) step_3) step_4) step_5) step_6) step_7) step_8) step_9) step_10) step_11) step_12) step_13) step_14) step_15) step_16) step_17) step_18) step_19) step_20) step_21) step_22) step_23) step_24) step_25) step_26) step_27

pub three_years_run : ThreeYearsRun
unfolding rounded rounded_down sum_of
three_years_run = record {
  book_goes_through_them = ran;
  charges_come_to_124 = refl;
  payments_come_to_123 = refl;
  first_differences_are_267_and_34 = (refl, refl);
  account_7_has_5_due_now_8_due_next_and_49_kept = refl;
  account_9_has_nothing_due_now_8_due_next_and_34_below_kept = refl;
  project_7_has_receipts_45_interest_94_actuals_13 = (refl, refl, refl);
  project_9_has_receipts_78_interest_44_actuals_8 = (refl, refl, refl);
}
