-- Close: the figures of every row, and then the closing with them.
use Rattle.std.specs.Prelude.{ℕ, ◌+◌, Bool, List, [], ◌∷◌, map, ℤ, pos, neg_ℤ, is_some, nat_le}
use Rattle.std.specs.Option.{unwrap_or}
use Rattle.std.specs.Ordering.{int_eq}
use Rattle.std.specs.List.{list_all}
use Rattle.questions.specs.Questions.{Question, ask, asked, within}
use Rattle.settlement.specs.declared.refusal.Refusal.{Refusal}
use Rattle.settlement.specs.declared.refusal.Refusal.TheVariants.{NotPosted, NotStated, NotPaid, LastYear, RateMissing, TrueUpOutOfRange}
use Rattle.settlement.specs.declared.state.State.TheVariants.{Draft}
use Rattle.settlement.specs.Lists.{Lists, terms_at, terms_of}
use Rattle.settlement.specs.Rules.{Figures, Terms, figures, settled}
use Rattle.settlement.specs.Books.{BookView, RowView, is_posted, nothing_filed, nothing_held, till, total_of, with_account, with_filed, with_held, with_money, with_paid, with_rows, with_state, with_year}
use Rattle.settlement.specs.Outcomes.{Outcome, done, refused}
use Rattle.settlement.specs.Paying.{share_of}

-- a row's figures: an actual that is not stated counts as 0, but 16 has asked for it
abbrev pub figures_of : Terms → RowView → Figures
figures_of terms r = figures terms (unwrap_or r.filed.actual (pos 0)) r.account r.paid

-- the row has an actual
abbrev pub is_stated : RowView → Bool
is_stated r = is_some r.filed.actual

-- the row was paid its share of the money, to the cent
abbrev pub has_its_share : ℤ → ℤ → RowView → Bool
has_its_share money total r = int_eq r.paid (share_of money total r)

-- a true-up in dollars: within 100,000,000 either way
abbrev pub is_true_up : ℤ → Bool
is_true_up dollars = within (neg_ℤ (pos 100000000)) (pos 100000000) dollars

-- the year after it is the last that there is
abbrev pub last_closing_year : ℕ
last_closing_year = 65534

-- what a close asks, in this order
abbrev pub close_questions : ℕ → BookView → Lists → List (Question Refusal)
close_questions months b lists =
    ask (is_posted b.state) NotPosted  -- 9
    ∷ ask (list_all is_stated b.rows) NotStated  -- 16
    ∷ ask (list_all (has_its_share b.money (total_of b.rows)) b.rows) NotPaid  -- 17
    ∷ ask (nat_le b.year last_closing_year) LastYear  -- 18
    ∷ ask (is_some (terms_of months lists b.year)) RateMissing  -- 19
    ∷ ask (list_all (λ r. is_true_up (figures_of (terms_at months lists b.year) r).true_up) b.rows) TrueUpOutOfRange  -- 20
    ∷ []

-- the row in the next year: its account settled, nothing filed, nothing paid
abbrev pub closed_row : (RowView → Figures) → RowView → RowView
closed_row work r = with_account (settled (work r) r.account) (with_filed (λ f. nothing_filed) (with_paid (pos 0) r))

-- the closing with these figures: the till is carried over, and the next year is a draft
abbrev pub closed_book : (RowView → Figures) → BookView → BookView
closed_book work b = with_year (b.year + 1) (with_state Draft (with_money (till b) (with_held nothing_held (with_rows (map (closed_row work) b.rows) b))))

-- close: the figures by the rates of so many months, and the closing with them
abbrev pub closed : ℕ → BookView → Lists → Outcome (Unit {0})
closed months b lists = asked (refused b) (close_questions months b lists) (done tt (closed_book (figures_of (terms_at months lists b.year)) b))
