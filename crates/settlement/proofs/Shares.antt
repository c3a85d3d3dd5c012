-- Shares fill the money up to fewer cents than there are rows.
use Rattle.std.proofs.Common.{◌≡◌, ℕ, ◌<◌, List, [], ◌∷◌, length, ℤ, pos, negsuc, ◌+ℤ◌, ◌*ℤ◌, ◌≤ℤ◌, ◌<ℤ◌, sym, refl, ap, arith}
use Rattle.std.proofs.Math.IntN.{*ℤ_comm}
use Rattle.std.proofs.lemmas.Int.{ints, by_lt_z}
use Rattle.amounts.proofs.Laws.{rounds_down}
use Rattle.amounts.proofs.Products.{times_mono, times_sum}
use Rattle.amounts.specs.Rounding.{LargestNotAbove, rounded_down}
use Rattle.settlement.specs.Rules.{share, sum_over, unsigned}

pub unsigned_is : (z : ℤ) → pos 0 ≤ℤ z → pos (unsigned z) ≡ z
unsigned_is (pos n) h = refl
unsigned_is (negsuc n) h = absurd (omega (arith, ints))

next_multiple : (r t : ℤ) → (r +ℤ pos 1) *ℤ t ≡ (r *ℤ t) +ℤ t
next_multiple r t = omega (arith, ints, times_sum t r (pos 1))

module _ (money : ℤ) (d : ℕ) (above : 0 < d) {X : Type 0} (column : X → ℤ) where
  abbrev part : X → ℤ
  part x = rounded_down (money *ℤ column x) d

  one_share : (x : X) → ((part x *ℤ pos d) ≤ℤ (money *ℤ column x)) × ((money *ℤ column x) <ℤ ((part x *ℤ pos d) +ℤ pos d))
  one_share x =
      let law = (rounds_down (money *ℤ column x) d above).result_is_largest_not_above in
      (law.not_above, omega (arith, ints, law.next_above, next_multiple (part x) (pos d)))

  columns_more : (x : X) (xs : List X) → money *ℤ sum_over column (x ∷ xs) ≡ (money *ℤ column x) +ℤ (money *ℤ sum_over column xs)
  columns_more x xs = omega (arith, ints, times_sum money (column x) (sum_over column xs), *ℤ_comm money (column x +ℤ sum_over column xs), *ℤ_comm money (column x), *ℤ_comm money (sum_over column xs))

  shares_below : (xs : List X) → (sum_over part xs *ℤ pos d) ≤ℤ (money *ℤ sum_over column xs)
  shares_below [] = omega (arith, ints)
  shares_below (x ∷ xs) = omega (arith, ints, (one_share x).0, shares_below xs, columns_more x xs, times_sum (pos d) (part x) (sum_over part xs))

  shares_near : (xs : List X) → ((money *ℤ sum_over column xs) +ℤ pos (length xs)) ≤ℤ ((sum_over part xs *ℤ pos d) +ℤ (pos (length xs) *ℤ pos d))
  shares_near [] = omega (arith, ints)
  shares_near (x ∷ xs) = omega (arith, ints, (one_share x).1, shares_near xs, columns_more x xs, times_sum (pos d) (part x) (sum_over part xs), next_multiple (pos (length xs)) (pos d))

  some_rows : (xs : List X) → pos 0 <ℤ sum_over column xs → 0 < length xs
  some_rows [] h = absurd (omega (arith, ints))
  some_rows (x ∷ xs) h = omega arith

  module _ (xs : List X) (all : sum_over column xs ≡ pos d) where
    not_above : sum_over part xs ≤ℤ money
    not_above =
        by_lt_z money (sum_over part xs)
        (λ l. absurd (omega (arith, ints, above, times_mono (money +ℤ pos 1) (sum_over part xs) d (omega (arith, ints)), next_multiple money (pos d), shares_below xs, ap (λ z. money *ℤ z) all)))
        (λ l. l)

    fewer_than_rows : money <ℤ (sum_over part xs +ℤ pos (length xs))
    fewer_than_rows =
        let some = some_rows xs (omega (arith, ints)) in
        by_lt_z money (sum_over part xs +ℤ pos (length xs))
        (λ l. l)
        (λ l. absurd (omega (arith, ints, some, times_mono (sum_over part xs +ℤ pos (length xs)) money d l, times_sum (pos d) (sum_over part xs) (pos (length xs)), shares_near xs, ap (λ z. money *ℤ z) all)))

-- what the money leaves once every share of a total above zero is taken
pub shares_fill : (money : ℤ) {X : Type 0} (column : X → ℤ) (xs : List X) → pos 0 <ℤ sum_over column xs →
    (sum_over (λ x. share money (sum_over column xs) (column x)) xs ≤ℤ money)
    × (money <ℤ (sum_over (λ x. share money (sum_over column xs) (column x)) xs +ℤ pos (length xs)))
shares_fill money column xs h =
    let total = sum_over column xs in
    let is : pos (unsigned total) ≡ total = unsigned_is total (omega (arith, ints)) in
    let above : 0 < unsigned total = omega (arith, ints) in
    (not_above money (unsigned total) above column xs (sym is), fewer_than_rows money (unsigned total) above column xs (sym is))

pub share_rounds_down : (money total column : ℤ) → pos 0 <ℤ total → LargestNotAbove (money *ℤ column) (unsigned total) (share money total column)
share_rounds_down money total column h =
    let is : pos (unsigned total) ≡ total = unsigned_is total (omega (arith, ints)) in
    (rounds_down (money *ℤ column) (unsigned total) (omega (arith, ints))).result_is_largest_not_above

-- no column, no share
pub share_of_nothing : (money total : ℤ) → pos 0 <ℤ total → share money total (pos 0) ≡ pos 0
share_of_nothing money total h =
    let is : pos (unsigned total) ≡ total = unsigned_is total (omega (arith, ints)) in
    (rounds_down (money *ℤ pos 0) (unsigned total) (omega (arith, ints))).exact_multiple_is_exact (pos 0) (omega (arith, ints))
