-- The figures at a row's place are the row's.
use Rattle.std.proofs.Common.{◌≡◌, true, [], ◌∷◌, ℤ, pos, ◌*ℤ◌, ◌≤ℤ◌, ℕ, zero, suc, refl, ◌+◌, ◌<◌, List, ◌++◌, length, get_or, set, map, take, drop, ap, ◌∙◌, subst, arith}
use Rattle.settlement.specs.Books.{RowView, column_of, nothing_held, sum_of_paid, total_of}
use Rattle.settlement.specs.Closing.{closed_row, has_its_share}
use Rattle.settlement.specs.Rules.{Figures}
use Rattle.settlement.specs.declared.state.State.TheVariants.{Draft}
use Rattle.settlement.specs.Balance.{EachRow}
use Rattle.settlement.proofs.Closing.{each_has_its_share}
use Rattle.settlement.proofs.Paying.{Shared, till_of_shares}
use Rattle.std.proofs.lemmas.Int.{ints, by_lt_z}
use Rattle.std.specs.List.{list_all}
use Rattle.book.specs.Tables.{closed_rows}
use Rattle.book.proofs.Shares.{nothing_of_no_total}

next_one : (n : ℕ) → suc n + 1 ≡ suc (n + 1)
next_one n = omega arith

-- a loop that closes one row after the other with its figures
one_more : (before : List RowView) (figures : List Figures) (place : ℕ) (x : RowView) (f : Figures) → place < length before → place < length figures → x ≡ get_or before place x → f ≡ get_or figures place f →
    set (closed_rows (take place before) figures ++ drop place before) place (closed_row (λ r. f) x) ≡ closed_rows (take (place + 1) before) figures ++ drop (place + 1) before
one_more [] fs place x f h h' row fig = absurd (omega arith)
one_more (r ∷ rs) [] place x f h h' row fig = absurd (omega arith)
one_more (r ∷ rs) (g ∷ gs) zero x f h h' row fig = ap (λ r. closed_row (λ r. f) r ∷ rs) row ∙ ap (λ f. closed_row (λ r. f) r ∷ rs) fig
one_more (r ∷ rs) (g ∷ gs) (suc place) x f h h' row fig = simp next_one (ap (λ xs. closed_row (λ r. g) r ∷ xs) (one_more rs gs place x f (omega arith) (omega arith) row fig))

not_yet : (before : List RowView) (figures : List Figures) (place : ℕ) (x : RowView) → place < length before → place < length figures → get_or (closed_rows (take place before) figures ++ drop place before) place x ≡ get_or before place x
not_yet [] fs place x h h' = absurd (omega arith)
not_yet (r ∷ rs) [] place x h h' = absurd (omega arith)
not_yet (r ∷ rs) (g ∷ gs) zero x h h' = refl
not_yet (r ∷ rs) (g ∷ gs) (suc place) x h h' = not_yet rs gs place x (omega arith) (omega arith)

pub one_more_closed : (before rows : List RowView) (figures : List Figures) (place : ℕ) (x : RowView) (f : Figures) → place < length before → place < length figures →
    rows ≡ closed_rows (take place before) figures ++ drop place before → x ≡ get_or rows place x → f ≡ get_or figures place f →
    set rows place (closed_row (λ r. f) x) ≡ closed_rows (take (place + 1) before) figures ++ drop (place + 1) before
one_more_closed before rows figures place x f h h' is row fig =
    let here = row ∙ (ap (λ rs. get_or rs place x) is ∙ not_yet before figures place x h h') in
    ap (λ rs. set rs place (closed_row (λ r. f) x)) is ∙ one_more before figures place x f h h' here fig

-- with the figures of each row
pub closed_with_its_figures : (work : RowView → Figures) (rows : List RowView) (figures : List Figures) → take (length rows) figures ≡ map work rows → closed_rows rows figures ≡ map (closed_row work) rows
closed_with_its_figures work [] fs e = refl
closed_with_its_figures work (r ∷ rs) [] e = let n = ap length e in absurd (omega arith)
closed_with_its_figures work (r ∷ rs) (g ∷ gs) e =
    let here : g ≡ work r = ap (λ fs. get_or fs 0 g) e in
    let rest : take (length rs) gs ≡ map work rs = ap (drop 1) e in
    ap (λ f. closed_row (λ r. f) r ∷ closed_rows rs gs) here ∙ ap (λ xs. closed_row work r ∷ xs) (closed_with_its_figures work rs gs rest)

-- shares never come to more than the money
module _ (money : ℤ) where
  shares_of_nothing : (rows : List RowView) → EachRow (Shared money (pos 0)) rows → sum_of_paid rows ≤ℤ pos 0
  shares_of_nothing [] e = omega (arith, ints)
  shares_of_nothing (r ∷ rs) e = let rest = shares_of_nothing rs e.1 in let share = nothing_of_no_total (money *ℤ column_of r) in let paid = e.0 in omega (arith, ints)

  pub paid_within_money : (rows : List RowView) → pos 0 ≤ℤ money → pos 0 ≤ℤ total_of rows → list_all (has_its_share money (total_of rows)) rows ≡ true → sum_of_paid rows ≤ℤ money
  paid_within_money rows m t e =
      let shares = each_has_its_share money (total_of rows) rows e in
      by_lt_z (pos 0) (total_of rows)
      (λ above.
      let till = till_of_shares (record { year = 0; state = Draft; money = money; rows = rows; held = nothing_held }) above shares in
      omega (arith, ints, till.0))
      (λ none.
      let is : total_of rows ≡ pos 0 = omega (arith, ints) in
      omega (arith, ints, shares_of_nothing rows (subst (λ n. EachRow (Shared money n) rows) is shares)))
