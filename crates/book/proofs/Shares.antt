-- A share of the money is a part of it.
use Rattle.std.proofs.Common.{IsTrue, rules, ◌≡◌, ℕ, zero, suc, ◌<◌, ◌≤◌, ℤ, pos, negsuc, ◌*ℤ◌, ◌≤ℤ◌, nat_abs, sym, refl, ap, ◌∙◌, arith}
use Rattle.std.proofs.Math.IntN.{*ℤ_comm}
use Rattle.std.proofs.lemmas.Int.{ints}
use Rattle.std.proofs.Math.Nat.{div-zero}
use Rattle.amounts.proofs.Laws.{rounds_down}
use Rattle.amounts.proofs.Products.{product_within, times_mono}
use Rattle.amounts.specs.Rounding.{rounded_down}
use Rattle.questions.specs.Questions.{within}
use Rattle.settlement.specs.Outcomes.{in_dollars, in_money}
use Rattle.settlement.specs.Rules.{share, unsigned}

-- a total of nothing gives nothing
over_nothing : (n : ℤ) → pos 0 ≤ℤ n → rounded_down n 0 ≡ pos 0
unfolding rounded_down
over_nothing (pos n) h = ap pos (div-zero n)
over_nothing (negsuc n) h = absurd (omega (arith, ints))

-- nor more than nothing of any amount
pub nothing_of_no_total : (n : ℤ) → rounded_down n 0 ≤ℤ pos 0
unfolding rounded_down
nothing_of_no_total (pos n) = omega (arith, ints, ap pos (div-zero n))
nothing_of_no_total (negsuc n) = omega (arith, ints)

module _ (money : ℤ) (k : ℕ) (m : pos 0 ≤ℤ money) where
  product_above : pos 0 ≤ℤ (money *ℤ pos k)
  product_above = omega (arith, ints, times_mono (pos 0) money k m)

  over_a_total : (d : ℕ) → 0 < d → k ≤ d → (pos 0 ≤ℤ rounded_down (money *ℤ pos k) d) × (rounded_down (money *ℤ pos k) d ≤ℤ money)
  over_a_total d above part =
      let law = rounds_down (money *ℤ pos k) d above in
      let all = times_mono (pos k) (pos d) (nat_abs money) (omega (arith, ints)) in
      let is : pos (nat_abs money) ≡ money = omega (arith, ints) in
      let more = law.larger_never_rounds_to_less (money *ℤ pos d) (omega (arith, ints, is, *ℤ_comm money (pos k), *ℤ_comm money (pos d), ap (λ z. pos k *ℤ z) is, ap (λ z. pos d *ℤ z) is, all)) in
      let whole = (rounds_down (money *ℤ pos d) d above).exact_multiple_is_exact money refl in
      (law.sign_is_never_turned.0 product_above, omega (arith, ints, more, whole))

pub share_is_a_part : (money total column : ℤ) → pos 0 ≤ℤ money → pos 0 ≤ℤ column → column ≤ℤ total → (pos 0 ≤ℤ share money total column) × (share money total column ≤ℤ money)
share_is_a_part money (negsuc t) column m c part = absurd (omega (arith, ints))
share_is_a_part money (pos t) (negsuc k) m c part = absurd (omega (arith, ints))
share_is_a_part money (pos zero) (pos k) m c part =
    let nothing : share money (pos 0) (pos k) ≡ pos 0 = over_nothing (money *ℤ pos k) (product_above money k m) in
    (omega (arith, ints, nothing), omega (arith, ints, nothing))
share_is_a_part money (pos (suc t)) (pos k) m c part = over_a_total money k m (suc t) (omega arith) (omega (arith, ints))

-- the size of a total that is not below 0 is the total
pub over_the_size : (total n : ℤ) (d : ℕ) → pos 0 ≤ℤ total → d ≡ nat_abs total → rounded_down n d ≡ rounded_down n (unsigned total)
over_the_size (pos t) n d h e = ap (rounded_down n) e
over_the_size (negsuc t) n d h e = absurd (omega (arith, ints))

is_within : (low high x : ℤ) → low ≤ℤ x → x ≤ℤ high → IsTrue (within low high x)
is_within low high x l h = search rules

parts_within : (low high x : ℤ) → IsTrue (within low high x) → (low ≤ℤ x) × (x ≤ℤ high)
parts_within low high x h = search rules

pub money_times_column : (money column : ℤ) → IsTrue (in_money money) → IsTrue (in_dollars column) → nat_abs (money *ℤ column) ≤ 9000000000000000000
money_times_column money column m c =
    let m' = parts_within (pos 0) (pos 90000000000) money m in
    let c' = parts_within (pos 0) (pos 100000000) column c in
    product_within money column 90000000000 100000000 (omega (arith, ints)) (omega (arith, ints))

-- a share worked out with the size of the total
module _ (money total column : ℤ) (m : IsTrue (in_money money)) (c : IsTrue (in_dollars column)) where
  pub share_over : pos 0 ≤ℤ total → (d : ℕ) → d ≡ nat_abs total → rounded_down (money *ℤ column) d ≡ share money total column
  share_over t d size = over_the_size total (money *ℤ column) d t size

  pub share_in_money : column ≤ℤ total → IsTrue (in_money (share money total column))
  share_in_money part =
      let m' = parts_within (pos 0) (pos 90000000000) money m in
      let c' = parts_within (pos 0) (pos 100000000) column c in
      let a = share_is_a_part money total column m'.0 c'.0 part in
      is_within (pos 0) (pos 90000000000) (share money total column) a.0 (omega (arith, ints))

  pub share_of_no_total : pos 0 ≤ℤ total → 0 ≡ nat_abs total → pos 0 ≡ share money total column
  share_of_no_total t none =
      let m' = parts_within (pos 0) (pos 90000000000) money m in
      let c' = parts_within (pos 0) (pos 100000000) column c in
      sym (over_nothing (money *ℤ column) (product_not_below column m'.0 c'.0)) ∙ share_over t 0 none
    where
      product_not_below : (column : ℤ) → pos 0 ≤ℤ money → pos 0 ≤ℤ column → pos 0 ≤ℤ (money *ℤ column)
      product_not_below (pos k) m c = product_above money k m
      product_not_below (negsuc k) m c = absurd (omega (arith, ints))
