-- Interest, true-ups and kept cents by the laws of rounding.
use Rattle.std.proofs.Common.{◌≡◌, ℕ, ◌<◌, ◌≤◌, ℤ, pos, ◌+ℤ◌, ◌-ℤ◌, ◌*ℤ◌, nat_abs, ◌≤ℤ◌, ◌<ℤ◌, refl, ap, ◌∙◌, subst, arith}
use Rattle.std.proofs.lemmas.Int.{ints, by_lt_z}
use Rattle.amounts.proofs.Laws.{rounds}
use Rattle.amounts.proofs.Products.{times_mono}
use Rattle.settlement.specs.Rules.{Terms, cents, figures_on, interest, interest_scale, left_over, nothing_due, settled, true_up}

pub kept_within_fifty : (owed : ℤ) → nat_abs (left_over owed) ≤ 50
kept_within_fifty owed = omega (arith, ints, (rounds owed 100 (omega arith)).result_is_nearest.near)

pub true_up_of_nothing : true_up (pos 0) ≡ pos 0
true_up_of_nothing = (rounds (pos 0) 100 (omega arith)).exact_multiple_is_exact (pos 0) refl

-- one factor for all differences of a sign
pub record ConstantOnEachSign (terms : Terms) : Type 0 where
  pub below : (c d : ℤ) → c <ℤ pos 0 → d <ℤ pos 0 → terms c ≡ terms d
  pub above : (c d : ℤ) → pos 0 <ℤ c → pos 0 <ℤ d → terms c ≡ terms d

module _ (scale : ℕ) (p : 0 < scale) (terms : Terms) where
  pub interest_sign : (c : ℤ) → (pos 0 ≤ℤ c → pos 0 ≤ℤ interest scale terms c) × (c ≤ℤ pos 0 → interest scale terms c ≤ℤ pos 0)
  interest_sign c =
      let law = (rounds (c *ℤ pos (terms c)) scale p).sign_is_never_turned in
      ((λ h. law.0 (omega (arith, ints, times_mono (pos 0) c (terms c) h))), (λ h. law.1 (omega (arith, ints, times_mono c (pos 0) (terms c) h))))

  pub interest_on_nothing : interest scale terms (pos 0) ≡ pos 0
  interest_on_nothing = (rounds (pos 0 *ℤ pos (terms (pos 0))) scale p).exact_multiple_is_exact (pos 0) (omega (arith, ints))

  at_one_factor : (c d : ℤ) → terms c ≡ terms d → c ≤ℤ d → interest scale terms c ≤ℤ interest scale terms d
  at_one_factor c d same h =
      (rounds (c *ℤ pos (terms c)) scale p).larger_never_rounds_to_less (d *ℤ pos (terms d)) (subst (λ k. (c *ℤ pos (terms c)) ≤ℤ (d *ℤ pos k)) same (times_mono c d (terms c) h))

  pub interest_grows : ConstantOnEachSign terms → (c d : ℤ) → c ≤ℤ d → interest scale terms c ≤ℤ interest scale terms d
  interest_grows steady c d h =
      let signs = interest_sign c in
      let signs' = interest_sign d in
      by_lt_z d (pos 0)
      (λ low. at_one_factor c d (steady.below c d (omega (arith, ints)) low) h)
      (λ high. by_lt_z (pos 0) c
      (λ up. at_one_factor c d (steady.above c d up (omega (arith, ints))) h)
      (λ down. let x = signs.1 down in let y = signs'.0 high in omega (arith, ints)))

-- nothing owed and nothing kept settles to nothing
pub settled_nothing : (terms : Terms) → settled (figures_on terms (pos 0) (pos 0)) nothing_due ≡ nothing_due
settled_nothing terms =
    ap (λ borne. record { due_now = pos 0; due_next = true_up ((pos 0 +ℤ borne) +ℤ pos 0); kept = left_over ((pos 0 +ℤ borne) +ℤ pos 0) }) (interest_on_nothing interest_scale (omega arith) terms)
    ∙ ap (λ up. record { due_now = pos 0; due_next = up; kept = pos 0 -ℤ cents up }) true_up_of_nothing
