-- The calls on a draft: opening a book, filing requirements and posting the usage rate. The number of each question stands beside it.
use Rattle.std.specs.Prelude.{ℕ, Bool, ◌&&◌, ◌||◌, List, [], ◌∷◌, length, ℤ, pos, is_some, Some, nat_le, nat_lt}
use Rattle.std.specs.List.{list_all}
use Rattle.questions.specs.Questions.{Question, ask, asked, within}
use Rattle.settlement.specs.declared.account.Account.{Account}
use Rattle.settlement.specs.declared.refusal.Refusal.{Refusal}
use Rattle.settlement.specs.declared.refusal.Refusal.TheVariants.{ProjectNumberOutOfRange, NotDraft, NoRoomForARow, RequirementOutOfRange, NotFiled, ForecastOutOfRange, UsageRateOutOfRange}
use Rattle.settlement.specs.declared.state.State.TheVariants.{Draft, Posted}
use Rattle.settlement.specs.Rules.{column_16, rate_scale, unsigned, usage_rate}
use Rattle.settlement.specs.Books.{BookView, RowView, has_row, is_draft, nothing_held, on_row, row_on, total_of, with_filed, with_requirement, with_row_for, with_rows, with_state}
use Rattle.settlement.specs.Outcomes.{Outcome, done, in_dollars, is_project, refused}

-- open: a draft with no rows and no money, and a journal that holds nothing
abbrev pub opened : ℕ → BookView
opened year = record { year = year; state = Draft; money = pos 0; rows = []; held = nothing_held }

abbrev pub most_rows : ℕ
most_rows = 64

-- the project has a row, or there is room for one
abbrev pub has_room : ℕ → List RowView → Bool
has_room project rows = has_row project rows || nat_lt (length rows) most_rows

-- a requirement that may be filed on an account
abbrev pub may_file : ℤ → Account → Bool
may_file requirement account = in_dollars requirement && in_dollars (column_16 (Some requirement) account)

-- what filing asks, in this order
abbrev pub file_questions : BookView → ℤ → ℤ → List (Question Refusal)
file_questions b project requirement =
    ask (is_project project) ProjectNumberOutOfRange  -- 1
    ∷ ask (is_draft b.state) NotDraft  -- 2
    ∷ ask (has_room (unsigned project) b.rows) NoRoomForARow  -- 3
    ∷ ask (may_file requirement (row_on (unsigned project) b.rows).account) RequirementOutOfRange  -- 4
    ∷ []

-- the project's row, a new one if it had none, with the requirement
abbrev pub filed_book : BookView → ℕ → ℤ → BookView
filed_book b project requirement = with_rows (on_row project (with_filed (with_requirement requirement)) (with_row_for project b.rows)) b

-- file: the requirement is the project's for this year
abbrev pub filed : BookView → ℤ → ℤ → Outcome (Unit {0})
filed b project requirement = asked (refused b) (file_questions b project requirement) (done tt (filed_book b (unsigned project) requirement))

-- there are rows, and each is filed this year
abbrev pub all_filed : List RowView → Bool
all_filed rows = nat_le 1 (length rows) && list_all (λ r. is_some r.filed.requirement) rows

-- a forecast in megawatt-hours
abbrev pub is_forecast : ℤ → Bool
is_forecast forecast = within (pos 1) (pos 1000000000) forecast

-- a usage rate, of which 10,000 are a dollar for a megawatt-hour: at most 100 dollars
abbrev pub is_usage_rate : ℤ → Bool
is_usage_rate rate = within (pos 1) (pos 1000000) rate

-- the usage rate for a forecast: the total of the columns 16 over it
abbrev pub rate_for : BookView → ℤ → ℤ
rate_for b forecast = usage_rate rate_scale (total_of b.rows) (unsigned forecast)

-- what posting asks, in this order
abbrev pub post_questions : BookView → ℤ → List (Question Refusal)
post_questions b forecast =
    ask (is_draft b.state) NotDraft  -- 2
    ∷ ask (all_filed b.rows) NotFiled  -- 5
    ∷ ask (is_forecast forecast) ForecastOutOfRange  -- 6
    ∷ ask (is_usage_rate (rate_for b forecast)) UsageRateOutOfRange  -- 7
    ∷ []

-- post: the usage rate is the answer, and the year is posted
abbrev pub posted : BookView → ℤ → Outcome ℤ
posted b forecast = asked (refused b) (post_questions b forecast) (done (rate_for b forecast) (with_state (Posted (rate_for b forecast)) b))
