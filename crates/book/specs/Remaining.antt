-- The calls once their first questions are answered with yes: the questions that remain, and what the call does.
use Rattle.std.specs.Prelude.{ℕ, Bool, [], ◌∷◌, drop, ℤ, pos, ◌+ℤ◌}
use Rattle.journals.specs.Journal.{Pair}
use Rattle.questions.specs.Questions.{ask, asked}
use Rattle.rates.specs.Factor.{interest_months}
use Rattle.settlement.specs.declared.refusal.Refusal.TheVariants.{MoneyOutOfRange, NoPlace}
use Rattle.settlement.specs.Billing.{bill_questions, change_to, charge_at, entered_book, resettle_questions}
use Rattle.settlement.specs.Books.{BookView}
use Rattle.settlement.specs.Closing.{close_questions, closed_book, figures_of}
use Rattle.settlement.specs.Drafting.{file_questions, filed_book}
use Rattle.settlement.specs.Lists.{Lists, terms_at}
use Rattle.settlement.specs.Stating.{state_questions, stated_book}
use Rattle.settlement.specs.Outcomes.{Outcome, done, in_money, refused}

-- file after questions 1 and 2
abbrev pub filed_row : BookView → ℕ → ℤ → Outcome (Unit {0})
filed_row b project requirement = asked (refused b) (drop 2 (file_questions b (pos project) requirement)) (done tt (filed_book b project requirement))

-- state after questions 1 and 9
abbrev pub stated_row : BookView → ℕ → ℤ → Outcome (Unit {0})
stated_row b project actual = asked (refused b) (drop 2 (state_questions b (pos project) actual)) (done tt (stated_book b project actual))

-- bill and resettle after question 8
abbrev pub billed_reading : BookView → Bool → Pair → ℕ → Outcome ℤ
billed_reading b place pair kwh =
    asked (refused b) (drop 1 (bill_questions b place (pos pair.0) (pos pair.1) (pos kwh))) (done (charge_at b kwh) (entered_book b pair kwh (charge_at b kwh)))

abbrev pub resettled_reading : BookView → Pair → ℕ → Outcome ℤ
resettled_reading b pair kwh =
    asked (refused b) (drop 1 (resettle_questions b (pos pair.0) (pos pair.1) (pos kwh))) (done (change_to b pair kwh) (entered_book b pair kwh (change_to b pair kwh)))

-- an entry that changes the money: questions 11 and 12
abbrev pub entered : BookView → Bool → Pair → ℕ → ℤ → Outcome ℤ
entered b place pair kwh change =
    asked (refused b) (ask (in_money (b.money +ℤ change)) MoneyOutOfRange ∷ ask place NoPlace ∷ []) (done change (entered_book b pair kwh change))

-- close after questions 9, 16 and 17
abbrev pub closed_at_rates : BookView → Lists → Outcome (Unit {0})
closed_at_rates b lists = asked (refused b) (drop 3 (close_questions interest_months b lists)) (done tt (closed_book (figures_of (terms_at interest_months lists b.year)) b))
