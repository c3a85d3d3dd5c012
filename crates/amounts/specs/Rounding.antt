-- The one rounding, and rounding down: what they are, and what holds of each.
use Rattle.std.specs.Prelude.{◌≡◌, ℕ, suc, ◌+◌, ◌*◌, ◌/◌, ◌%◌, ◌≤◌, cond, ℤ, pos, negsuc, ◌+ℤ◌, ◌-ℤ◌, ◌*ℤ◌, neg_ℤ, ◌≤ℤ◌, ◌<ℤ◌, nat_le, unsigned_abs}

-- m ÷ d: the whole quotient, and one more where the rest is at least half of d
abbrev pub nearest : ℕ → ℕ → ℕ
nearest m d = m / d + cond (nat_le d (2 * (m % d))) 1 0

-- n ÷ d to the nearest whole number, a half away from zero: the size is rounded, the sign stays
unfoldable pub rounded : ℤ → ℕ → ℤ
rounded (pos m) d = pos (nearest m d)
rounded (negsuc m) d = neg_ℤ (pos (nearest (suc m) d))

-- the largest whole number that is not above n ÷ d
unfoldable pub rounded_down : ℤ → ℕ → ℤ
rounded_down (pos m) d = pos (m / d)
rounded_down (negsuc m) d = negsuc (m / d)

-- r × d lies at most half of d from n; just half of d away, it is no nearer to zero than n
pub record Nearest (n : ℤ) (d : ℕ) (r : ℤ) : Type 0 where
  pub near : 2 * unsigned_abs (n -ℤ r *ℤ pos d) ≤ d
  pub half_away_from_zero : 2 * unsigned_abs (n -ℤ r *ℤ pos d) ≡ d → unsigned_abs n ≤ unsigned_abs (r *ℤ pos d)

-- r × d is not above n, and (r + 1) × d is
pub record LargestNotAbove (n : ℤ) (d : ℕ) (r : ℤ) : Type 0 where
  pub not_above : (r *ℤ pos d) ≤ℤ n
  pub next_above : n <ℤ ((r +ℤ pos 1) *ℤ pos d)

-- what holds of r, the rounding of n ÷ d
pub record Rounds (n : ℤ) (d : ℕ) (r : ℤ) : Type 0 where
  pub result_is_nearest : Nearest n d r
  pub result_is_the_only_one : (s : ℤ) → Nearest n d s → s ≡ r
  pub larger_never_rounds_to_less : (m : ℤ) → n ≤ℤ m → r ≤ℤ rounded m d
  pub sign_is_never_turned : (pos 0 ≤ℤ n → pos 0 ≤ℤ r) × (n ≤ℤ pos 0 → r ≤ℤ pos 0)
  pub exact_multiple_is_exact : (q : ℤ) → n ≡ q *ℤ pos d → r ≡ q

-- what holds of r, n ÷ d rounded down
pub record RoundsDown (n : ℤ) (d : ℕ) (r : ℤ) : Type 0 where
  pub result_is_largest_not_above : LargestNotAbove n d r
  pub result_is_the_only_one : (s : ℤ) → LargestNotAbove n d s → s ≡ r
  pub larger_never_rounds_to_less : (m : ℤ) → n ≤ℤ m → r ≤ℤ rounded_down m d
  pub sign_is_never_turned : (pos 0 ≤ℤ n → pos 0 ≤ℤ r) × (n <ℤ pos 0 → r <ℤ pos 0)
  pub exact_multiple_is_exact : (q : ℤ) → n ≡ q *ℤ pos d → r ≡ q
