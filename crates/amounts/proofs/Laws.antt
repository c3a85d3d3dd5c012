-- The laws of rounding and of rounding down, for every divisor above 0.
use Rattle.std.proofs.Common.{◌≡◌, ℕ, zero, suc, ◌+◌, ◌*◌, ◌/◌, ◌%◌, ◌^◌, ◌<◌, ◌≤◌, Bool, true, false, cond, leb, ◌⊎◌, ℤ, pos, negsuc, ◌+ℤ◌, ◌-ℤ◌, ◌*ℤ◌, neg_ℤ, nat_abs, ◌≤ℤ◌, ◌<ℤ◌, sym, refl, ap, subst, inl, inr, ⊎_elim, mul-le-mul_right, mod-lt, mul-le-mul_left, div-add-mod', div-le_self, arith, SFits}
use borrow.Author.Differences.{neg_is}
use Rattle.std.proofs.lemmas.Int.{ints, by_lt_z}
use Rattle.std.proofs.lemmas.Bool.{cases_lt}
use Rattle.std.proofs.lemmas.Bool.Decides.{leb_tells}
use mir.Syntax.{Width}
use mir.Val.{hbits}
use Rattle.std.specs.Int.{int_div_euclid}
use Rattle.amounts.proofs.Products.{times_sum, times_mono}
use Rattle.amounts.specs.Rounding.{nearest, rounded, rounded_down, Nearest, LargestNotAbove, Rounds, RoundsDown}

-- q × d − d ÷ 2 ≤ m < q × d + d ÷ 2
abbrev About : ℕ → ℕ → ℕ → Type 0
About m d q = (2 * (q * d) ≤ 2 * m + d) × (2 * m < 2 * (q * d) + d)

nearest_about : (m d : ℕ) → 0 < d → About m d (nearest m d)
nearest_about m d p =
    let split = div-add-mod' m d in
    let small = mod-lt m p in
    let by : (b : Bool) → ((b ≡ true) × (d ≤ 2 * (m % d))) ⊎ ((b ≡ false) × (2 * (m % d) < d)) → About m d (m / d + cond b 1 0) = λ b told. ⊎_elim (λ h. grind arith) (λ h. grind arith) told in
    by (leb d (2 * (m % d))) (leb_tells d (2 * (m % d)))

-- a size no larger is not rounded to more
about_mono : (k m d q r : ℕ) → 0 < d → k ≤ m → About k d q → About m d r → q ≤ r
about_mono k m d q r p h a b = ⊎_elim (λ l. absurd (omega (arith, mul-le-mul_right d l))) (λ l. l) (cases_lt r q)

about_only : (m d q : ℕ) → 0 < d → About m d q → nearest m d ≡ q
about_only m d q p a =
    let b = nearest_about m d p in
    let up = about_mono m m d q (nearest m d) p (omega arith) a b in
    let down = about_mono m m d (nearest m d) q p (omega arith) b a in
    omega arith

-- at most half of d away on either side of zero
near_pos : (m d q : ℕ) → About m d q → Nearest (pos m) d (pos q)
near_pos m d q a = record { near = omega (arith, ints); half_away_from_zero = λ e. omega (arith, ints) }

near_neg : (m d q : ℕ) → About (suc m) d q → Nearest (negsuc m) d (neg_ℤ (pos q))
near_neg m d zero a = record { near = omega (arith, ints); half_away_from_zero = λ e. omega (arith, ints) }
near_neg m d (suc q) a = record { near = omega (arith, ints); half_away_from_zero = λ e. omega (arith, ints) }

pub rounded_is_nearest : (n : ℤ) (d : ℕ) → 0 < d → Nearest n d (rounded n d)
unfolding rounded
rounded_is_nearest (pos m) d p = near_pos m d (nearest m d) (nearest_about m d p)
rounded_is_nearest (negsuc m) d p = near_neg m d (nearest (suc m) d) (nearest_about (suc m) d p)

-- nearer than half of d, or just half and away from zero
by_half : (n : ℤ) (d : ℕ) (r : ℤ) → Nearest n d r → (2 * nat_abs (n -ℤ r *ℤ pos d) < d) ⊎ (nat_abs n ≤ nat_abs (r *ℤ pos d))
by_half n d r h = ⊎_elim (λ l. inl l) (λ l. inr (h.half_away_from_zero (omega (arith, h.near)))) (cases_lt (2 * nat_abs (n -ℤ r *ℤ pos d)) d)

pub nearest_is_rounded : (n : ℤ) (d : ℕ) (r : ℤ) → 0 < d → Nearest n d r → r ≡ rounded n d
unfolding rounded
nearest_is_rounded (pos m) d (pos k) p h = let b = by_half (pos m) d (pos k) h in ap pos (sym (about_only m d k p (omega (arith, ints, h.near))))
nearest_is_rounded (pos m) d (negsuc k) p h = absurd (omega (arith, ints, h.near))
nearest_is_rounded (negsuc m) d (pos zero) p h = let b = by_half (negsuc m) d (pos zero) h in ap (λ q. neg_ℤ (pos q)) (sym (about_only (suc m) d 0 p (omega (arith, ints, h.near))))
nearest_is_rounded (negsuc m) d (pos (suc k)) p h = absurd (omega (arith, ints, h.near))
nearest_is_rounded (negsuc m) d (negsuc k) p h = let b = by_half (negsuc m) d (negsuc k) h in ap (λ q. neg_ℤ (pos q)) (sym (about_only (suc m) d (suc k) p (omega (arith, ints, h.near))))

rounded_mono : (n m : ℤ) (d : ℕ) → 0 < d → n ≤ℤ m → rounded n d ≤ℤ rounded m d
unfolding rounded
rounded_mono (pos n) (pos m) d p h = omega (arith, ints, about_mono n m d (nearest n d) (nearest m d) p (omega (arith, ints)) (nearest_about n d p) (nearest_about m d p))
rounded_mono (pos n) (negsuc m) d p h = absurd (omega (arith, ints))
rounded_mono (negsuc n) (pos m) d p h = omega (arith, ints, neg_is (pos (nearest (suc n) d)))
rounded_mono (negsuc n) (negsuc m) d p h =
    omega (arith, ints, neg_is (pos (nearest (suc n) d)), neg_is (pos (nearest (suc m) d)), about_mono (suc m) (suc n) d (nearest (suc m) d) (nearest (suc n) d) p (omega (arith, ints)) (nearest_about (suc m) d p) (nearest_about (suc n) d p))

rounded_exact : (q : ℤ) (d : ℕ) → 0 < d → q ≡ rounded (q *ℤ pos d) d
rounded_exact q d p = nearest_is_rounded (q *ℤ pos d) d q p (record { near = omega (arith, ints); half_away_from_zero = λ e. omega (arith, ints) })

rounded_zero : (d : ℕ) → 0 < d → pos 0 ≡ rounded (pos 0) d
rounded_zero d p = nearest_is_rounded (pos 0) d (pos 0) p (record { near = omega (arith, ints); half_away_from_zero = λ e. omega (arith, ints) })

rounded_sign : (n : ℤ) (d : ℕ) → 0 < d → (pos 0 ≤ℤ n → pos 0 ≤ℤ rounded n d) × (n ≤ℤ pos 0 → rounded n d ≤ℤ pos 0)
rounded_sign n d p =
    let nil = rounded_zero d p in
    ((λ h. omega (arith, ints, rounded_mono (pos 0) n d p h)), (λ h. omega (arith, ints, rounded_mono n (pos 0) d p h)))

-- an amount within b × d on either side of zero is rounded to one within b
pub rounded_within : (n : ℤ) (d b : ℕ) → 0 < d → nat_abs n ≤ b * d → nat_abs (rounded n d) ≤ b
unfolding rounded
rounded_within (pos m) d b p h = about_mono m (b * d) d (nearest m d) b p h (nearest_about m d p) (omega arith)
rounded_within (negsuc m) d b p h = omega (arith, ints, neg_is (pos (nearest (suc m) d)), about_mono (suc m) (b * d) d (nearest (suc m) d) b p h (nearest_about (suc m) d p) (omega arith))

pub rounds : (n : ℤ) (d : ℕ) → 0 < d → Rounds n d (rounded n d)
rounds n d p = record {
  result_is_nearest = rounded_is_nearest n d p;
  result_is_the_only_one = λ s h. nearest_is_rounded n d s p h;
  larger_never_rounds_to_less = λ m h. rounded_mono n m d p h;
  sign_is_never_turned = rounded_sign n d p;
  exact_multiple_is_exact = λ q e. subst (λ k. rounded k d ≡ q) (sym e) (sym (rounded_exact q d p));
}

-- the size's rounding with the sign of n, by the size m of n
pub rounded_below : (n : ℤ) (d m : ℕ) → n <ℤ pos 0 → m ≡ nat_abs n → rounded n d ≡ neg_ℤ (pos (nearest m d))
unfolding rounded
rounded_below (pos n) d m h e = absurd (omega (arith, ints))
rounded_below (negsuc n) d m h e = cc

pub rounded_above : (n : ℤ) (d m : ℕ) → pos 0 ≤ℤ n → m ≡ nat_abs n → rounded n d ≡ pos (nearest m d)
unfolding rounded
rounded_above (pos n) d m h e = cc
rounded_above (negsuc n) d m h e = absurd (omega (arith, ints))

-- (r + 1) × d
one_more : (r : ℤ) (d : ℕ) → (r +ℤ pos 1) *ℤ pos d ≡ r *ℤ pos d +ℤ pos d
one_more r d = omega (arith, ints, times_sum (pos d) r (pos 1))

pub down_is_largest_not_above : (n : ℤ) (d : ℕ) → 0 < d → LargestNotAbove n d (rounded_down n d)
unfolding rounded_down
down_is_largest_not_above (pos m) d p =
    let split = div-add-mod' m d in
    let small = mod-lt m p in
    record { not_above = omega (arith, ints); next_above = omega (arith, ints) }
down_is_largest_not_above (negsuc m) d p =
    let split = div-add-mod' m d in
    let small = mod-lt m p in
    record { not_above = omega (arith, ints); next_above = omega (arith, ints, one_more (negsuc (m / d)) d) }

-- r × d ≤ n ≤ m < (s + 1) × d
next_mono : (n m : ℤ) (d : ℕ) (r s : ℤ) → n ≤ℤ m → LargestNotAbove n d r → LargestNotAbove m d s → r ≤ℤ s
next_mono n m d r s h a b =
    by_lt_z s r
    (λ l. absurd (omega (arith, ints, times_mono (s +ℤ pos 1) r d (omega (arith, ints)), a.not_above, b.next_above)))
    (λ l. l)

pub largest_not_above_is_down : (n : ℤ) (d : ℕ) (r : ℤ) → 0 < d → LargestNotAbove n d r → r ≡ rounded_down n d
largest_not_above_is_down n d r p h =
    let k = down_is_largest_not_above n d p in
    let low = next_mono n n d r (rounded_down n d) (omega (arith, ints)) h k in
    let high = next_mono n n d (rounded_down n d) r (omega (arith, ints)) k h in
    omega (arith, ints)

down_exact : (q : ℤ) (d : ℕ) → 0 < d → q ≡ rounded_down (q *ℤ pos d) d
down_exact q d p = largest_not_above_is_down (q *ℤ pos d) d q p (record { not_above = omega (arith, ints); next_above = omega (arith, ints, one_more q d) })

down_sign : (n : ℤ) (d : ℕ) → (pos 0 ≤ℤ n → pos 0 ≤ℤ rounded_down n d) × (n <ℤ pos 0 → rounded_down n d <ℤ pos 0)
unfolding rounded_down
down_sign (pos m) d = ((λ h. omega (arith, ints)), (λ h. absurd (omega (arith, ints))))
down_sign (negsuc m) d = ((λ h. absurd (omega (arith, ints))), (λ h. omega (arith, ints)))

pub rounds_down : (n : ℤ) (d : ℕ) → 0 < d → RoundsDown n d (rounded_down n d)
rounds_down n d p = record {
  result_is_largest_not_above = down_is_largest_not_above n d p;
  result_is_the_only_one = λ s h. largest_not_above_is_down n d s p h;
  larger_never_rounds_to_less = λ m h. next_mono n m d (rounded_down n d) (rounded_down m d) h (down_is_largest_not_above n d p) (down_is_largest_not_above m d p);
  sign_is_never_turned = down_sign n d;
  exact_multiple_is_exact = λ q e. subst (λ k. rounded_down k d ≡ q) (sym e) (sym (down_exact q d p));
}

-- both stay in the range of the amount
negative_fits : (w : Width) (q m : ℕ) → q ≤ suc m → m < 2 ^ hbits w → SFits w (neg_ℤ (pos q))
negative_fits w zero m h f = record { sfits = omega arith }
negative_fits w (suc q) m h f = record { sfits = omega arith }

nearest_within : (m d : ℕ) → 0 < d → nearest m d ≤ m
nearest_within m d p = about_mono m (m * d) d (nearest m d) m p (omega (arith, mul-le-mul_left m p)) (nearest_about m d p) (omega arith)

pub rounded_fits : (w : Width) (n : ℤ) (d : ℕ) → 0 < d → SFits w n → SFits w (rounded n d)
unfolding rounded
rounded_fits w (pos m) d p f = record { sfits = omega (arith, nearest_within m d p, f.sfits) }
rounded_fits w (negsuc m) d p f = negative_fits w (nearest (suc m) d) m (nearest_within (suc m) d p) f.sfits

pub down_fits : (w : Width) (n : ℤ) (d : ℕ) → SFits w n → SFits w (rounded_down n d)
unfolding rounded_down
down_fits w (pos m) d f = record { sfits = omega (arith, div-le_self m d, f.sfits) }
down_fits w (negsuc m) d f = record { sfits = omega (arith, div-le_self m d, f.sfits) }

-- by the Euclidean quotient of the library
pub down_by_division : (n : ℤ) (d : ℕ) → int_div_euclid n (pos d) ≡ rounded_down n d
unfolding rounded_down
down_by_division (pos m) d = refl
down_by_division (negsuc m) d = refl
