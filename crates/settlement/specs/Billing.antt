-- The calls that reach the journal in a posted year: bill and resettle.
use Rattle.std.specs.Prelude.{ℕ, Bool, not, ◌&&◌, List, [], ◌∷◌, ℤ, pos, ◌+ℤ◌, ◌-ℤ◌, is_some}
use Rattle.std.specs.Option.{unwrap_or}
use Rattle.journals.specs.Journal.{Pair, holding}
use Rattle.questions.specs.Questions.{Question, ask, asked, within}
use Rattle.settlement.specs.declared.refusal.Refusal.{Refusal}
use Rattle.settlement.specs.declared.refusal.Refusal.TheVariants.{ReadingOutOfRange, NotPosted, AlreadyHeld, MoneyOutOfRange, NoPlace, NotHeld}
use Rattle.settlement.specs.Rules.{charge, charge_scale, pair_of, unsigned}
use Rattle.settlement.specs.Books.{BookView, is_posted, rate_of, with_held, with_money}
use Rattle.settlement.specs.Outcomes.{Outcome, done, in_money, refused}

-- participant and month
abbrev pub pair_in_range : ℤ → ℤ → Bool
pair_in_range participant month = within (pos 1) (pos 65535) participant && within (pos 1) (pos 12) month

-- participant, month and kilowatt-hours
abbrev pub reading_in_range : ℤ → ℤ → ℤ → Bool
reading_in_range participant month kwh = pair_in_range participant month && within (pos 0) (pos 10000000000) kwh

-- the charge at the posted rate
abbrev pub charge_at : BookView → ℕ → ℤ
charge_at b kwh = charge charge_scale kwh (rate_of b.state)

-- the journal holds the kilowatt-hours, the money changes, and the change is the answer
abbrev pub entered_book : BookView → Pair → ℕ → ℤ → BookView
entered_book b pair kwh change = with_money (b.money +ℤ change) (with_held (holding b.held pair kwh) b)

-- what a bill asks, in this order
abbrev pub bill_questions : BookView → Bool → ℤ → ℤ → ℤ → List (Question Refusal)
bill_questions b place participant month kwh =
    ask (reading_in_range participant month kwh) ReadingOutOfRange  -- 8
    ∷ ask (is_posted b.state) NotPosted  -- 9
    ∷ ask (not (is_some (b.held (pair_of participant month)))) AlreadyHeld  -- 10
    ∷ ask (in_money (b.money +ℤ charge_at b (unsigned kwh))) MoneyOutOfRange  -- 11
    ∷ ask place NoPlace  -- 12
    ∷ []

-- bill: the charge is the change; `place` says whether the pair has one in the journal
abbrev pub billed : BookView → Bool → ℤ → ℤ → ℤ → Outcome ℤ
billed b place participant month kwh =
    asked (refused b) (bill_questions b place participant month kwh)
    (done (charge_at b (unsigned kwh)) (entered_book b (pair_of participant month) (unsigned kwh) (charge_at b (unsigned kwh))))

-- the new charge less the old one
abbrev pub change_to : BookView → Pair → ℕ → ℤ
change_to b pair kwh = charge_at b kwh -ℤ charge_at b (unwrap_or (b.held pair) 0)

-- what a resettlement asks, in this order: 11 is asked last
abbrev pub resettle_questions : BookView → ℤ → ℤ → ℤ → List (Question Refusal)
resettle_questions b participant month kwh =
    ask (reading_in_range participant month kwh) ReadingOutOfRange  -- 8
    ∷ ask (is_posted b.state) NotPosted  -- 9
    ∷ ask (is_some (b.held (pair_of participant month))) NotHeld  -- 13
    ∷ ask (in_money (b.money +ℤ change_to b (pair_of participant month) (unsigned kwh))) MoneyOutOfRange  -- 11
    ∷ []

-- resettle: replaces the kilowatt-hours, at the new charge less the old one
abbrev pub resettled : BookView → ℤ → ℤ → ℤ → Outcome ℤ
resettled b participant month kwh =
    asked (refused b) (resettle_questions b participant month kwh)
    (done (change_to b (pair_of participant month) (unsigned kwh)) (entered_book b (pair_of participant month) (unsigned kwh) (change_to b (pair_of participant month) (unsigned kwh))))
