-- The columns 16 are parts of their sum.
use Rattle.std.proofs.Common.{◌≡◌, ℕ, zero, suc, ◌+◌, ◌<◌, List, [], ◌∷◌, ◌++◌, length, get_or, map, take, drop, ℤ, pos, ◌+ℤ◌, ◌≤ℤ◌, true, false, ltb, refl, ap, sym, ◌∙◌, ⊎_elim, arith}
use Rattle.std.proofs.lemmas.Int.{ints}
use Rattle.std.proofs.lemmas.Bool.{cases_Bool}
use Rattle.std.proofs.lemmas.Bool.Decides.{nat_tests}
use Rattle.std.proofs.lemmas.List.{get_or_default}
use Rattle.settlement.specs.Books.{RowView, column_of}

-- no column before this place is above the sum
abbrev pub PartsBefore : List RowView → ℕ → ℤ → Type 0
PartsBefore rows place sum = (k : ℕ) (blank : RowView) → k < place → column_of (get_or rows k blank) ≤ℤ sum

pub one_part_more : (rows : List RowView) (place : ℕ) (r : RowView) (sum next : ℤ) → place < length rows → r ≡ get_or rows place r → next ≡ (sum +ℤ column_of r) → pos 0 ≤ℤ sum → pos 0 ≤ℤ column_of r → PartsBefore rows place sum → PartsBefore rows (place + 1) next
one_part_more rows place r sum next within is more not_below column before k blank h =
    ⊎_elim
    (λ (earlier : ltb k place ≡ true). let below = before k blank (grind (arith, nat_tests)) in omega (arith, ints, more))
    (λ (last : ltb k place ≡ false).
    let here : k ≡ place = grind (arith, nat_tests) in
    let same = ap (λ n. column_of (get_or rows n blank)) here ∙ ap column_of (get_or_default rows place blank r within ∙ sym is) in
    omega (arith, ints, more, same))
    (cases_Bool (ltb k place))

-- a loop that changes one row after the other has not changed this one yet
module _ (change : RowView → RowView) (blank : RowView) where
  unchanged : (before : List RowView) (place : ℕ) → place < length before → get_or (map change (take place before) ++ drop place before) place blank ≡ get_or before place blank
  unchanged [] place h = absurd (omega arith)
  unchanged (r ∷ rs) zero h = refl
  unchanged (r ∷ rs) (suc place) h = unchanged rs place (omega arith)

  pub not_yet_changed : (before rows : List RowView) (place : ℕ) → place < length before → rows ≡ map change (take place before) ++ drop place before → get_or rows place blank ≡ get_or before place blank
  not_yet_changed before rows place h is = ap (λ rows. get_or rows place blank) is ∙ unchanged before place h
