-- The text of an answer: its words, a space between each two.
use Rattle.std.specs.Prelude.{◌≡◌, ℕ, List, [], ◌∷◌, ◌++◌, ℤ, Some, None, Option, codes}
use Rattle.std.specs.List.{join_with_byte}
use Rattle.settlement.specs.Refusals.{number_of}
use Rattle.settlement.specs.declared.account.Filed as account
use Rattle.settlement.specs.declared.row_answer.RowAnswer.{RowAnswer}
use Rattle.settlement.specs.declared.state.State.{State}
use Rattle.settlement.specs.declared.state.State.TheVariants.{Draft, Posted}
use Rattle.answers.specs.Numbers.{natural, number}
use Rattle.answers.specs.declared.answer.Answer.{Answer}
use Rattle.answers.specs.declared.answer.Answer.TheVariants.{Opened, Filed, Rate, Charge, Change, Paid, Stated, Closed, Row, Refused, Unread, Year}

-- words with a space between each two
abbrev pub spaced : List (List ℕ) → List ℕ
spaced words = join_with_byte 32 words

-- an amount, or a hyphen where there is none
abbrev pub amount : Option ℤ → List ℕ
amount None = codes "-"
amount (Some n) = number n

-- what is filed and stated this year
abbrev pub filed_words : account.Filed → List (List ℕ)
filed_words f = codes "requirement" ∷ amount f.requirement ∷ codes "actual" ∷ amount f.actual ∷ []

-- a project's row: its number, then each amount after its name
abbrev pub row_words : RowAnswer → List (List ℕ)
row_words r =
    natural r.project
    ∷ codes "due-now"
    ∷ number r.due_now
    ∷ codes "due-next"
    ∷ number r.due_next
    ∷ codes "paid"
    ∷ number r.paid
    ∷ codes "kept"
    ∷ number r.kept
    ∷ filed_words (record { requirement = r.requirement; actual = r.actual })

-- a draft, or posted with its usage rate
abbrev pub state_words : State → List (List ℕ)
state_words Draft = codes "draft" ∷ []
state_words (Posted rate) = codes "posted" ∷ number rate ∷ []

-- how a year stands: year, state, money and till
abbrev pub year_words : ℕ → State → ℤ → ℤ → List (List ℕ)
year_words year state money till = natural year ∷ (state_words state ++ (codes "money" ∷ number money ∷ codes "till" ∷ number till ∷ []))

-- the same three as text
abbrev pub filed_text : account.Filed → List ℕ
filed_text f = spaced (filed_words f)

abbrev pub row_text : RowAnswer → List ℕ
row_text r = spaced (row_words r)

abbrev pub year_text : ℕ → State → ℤ → ℤ → List ℕ
year_text year state money till = spaced (year_words year state money till)

-- the words of each answer; a refusal is told by its number
abbrev pub answer_words : Answer → List (List ℕ)
answer_words (Opened year) = codes "opened" ∷ natural year ∷ []
answer_words Filed = codes "filed" ∷ []
answer_words (Rate rate) = codes "rate" ∷ number rate ∷ []
answer_words (Charge charge) = codes "charge" ∷ number charge ∷ []
answer_words (Change change) = codes "change" ∷ number change ∷ []
answer_words (Paid change till) = codes "paid" ∷ number change ∷ codes "till" ∷ number till ∷ []
answer_words Stated = codes "stated" ∷ []
answer_words (Closed year) = codes "closed" ∷ natural year ∷ []
answer_words (Row row) = codes "row" ∷ row_words row
answer_words (Refused refusal) = codes "refused" ∷ natural (number_of refusal) ∷ []
answer_words Unread = codes "unread" ∷ []
answer_words (Year year state money till) = codes "year" ∷ year_words year state money till

abbrev pub answer_text : Answer → List ℕ
answer_text a = spaced (answer_words a)

-- no other answer has the text of this one
abbrev pub HasItsOwnText : Answer → Type 0
HasItsOwnText a = (b : Answer) → answer_text b ≡ answer_text a → b ≡ a
