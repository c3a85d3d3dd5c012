-- Products of integers: what `omega (arith, ints)` does not find, since it multiplies no fact by a variable.
use Rattle.std.proofs.Common.{◌≡◌, ℕ, ◌*◌, ◌≤◌, ℤ, pos, ◌+ℤ◌, ◌-ℤ◌, ◌*ℤ◌, neg_ℤ, nat_abs, ◌≤ℤ◌, ap, ◌∙◌, mul-le-mul_right, arith}
use borrow.Author.Differences.{up, down, sum_is_lem, neg_is, product_is, le_out}
use Rattle.std.proofs.lemmas.Nat.{mul-le}
use Rattle.std.proofs.lemmas.Int.{ints, unsigned_abs-mul}

pub times_sum : (a b c : ℤ) → (b +ℤ c) *ℤ a ≡ b *ℤ a +ℤ c *ℤ a
times_sum a b c = omega (arith, ints, ap (λ n. n * up a) (sum_is_lem b c), ap (λ n. n * down a) (sum_is_lem b c))

pub times_assoc : (a b c : ℤ) → (a *ℤ b) *ℤ c ≡ a *ℤ (b *ℤ c)
times_assoc a b c =
    let l = product_is a b in
    let r = product_is b c in
    omega (arith, ints, ap (λ n. n * up c) l.0, ap (λ n. n * down c) l.0, ap (λ n. n * up c) l.1, ap (λ n. n * down c) l.1, ap (λ n. up a * n) r.0, ap (λ n. down a * n) r.0, ap (λ n. up a * n) r.1, ap (λ n. down a * n) r.1)

pub times_mono : (a b : ℤ) (k : ℕ) → a ≤ℤ b → (a *ℤ pos k) ≤ℤ (b *ℤ pos k)
times_mono a b k h = omega (arith, ints, mul-le-mul_right k (le_out a b h))

-- sizes within m and n have a product within m × n
pub product_within : (a b : ℤ) (m n : ℕ) → nat_abs a ≤ m → nat_abs b ≤ n → nat_abs (a *ℤ b) ≤ m * n
product_within a b m n p q = omega (arith, unsigned_abs-mul a b, mul-le (nat_abs a) (nat_abs b) m n p q)

times_negative : (a b : ℤ) → neg_ℤ a *ℤ b ≡ neg_ℤ (a *ℤ b)
times_negative a b =
    let n = neg_is a in
    omega (arith, ints, ap (λ n. n * up b) n.0, ap (λ n. n * down b) n.0, ap (λ n. n * up b) n.1, ap (λ n. n * down b) n.1)

pub times_difference : (a b c : ℤ) → (b -ℤ c) *ℤ a ≡ b *ℤ a -ℤ c *ℤ a
times_difference a b c = times_sum a b (neg_ℤ c) ∙ ap (λ z. b *ℤ a +ℤ z) (times_negative c a)
