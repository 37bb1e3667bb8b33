-- Laws of finite sums beyond the policy's. Each goes by the number of terms. Assumes nothing.
use Prim.Native.Nat.{ℕ, zero, suc, ◌*◌, ◌<◌}
use mathlib.Core.Path.{◌≡◌, refl, sym}
use native.Mathlib.Omega.{arith}
use Rattle.policy.specs.Windows.{sum}
use Rattle.policy.proofs.Sums.{sum_add, sum_scale, sum_none}

-- the order of two sums
pub sum_exchange : (m n : ℕ) (f : ℕ → ℕ → ℕ) → sum m (λ t. sum n (f t)) ≡ sum n (λ i. sum m (λ t. f t i))
unfolding sum
sum_exchange zero n f = sym (sum_none n (λ i. 0) (λ i h. refl))
sum_exchange (suc m) n f = omega (arith, sum_exchange m n f, sum_add n (λ i. sum m (λ t. f t i)) (f m))

-- the square of a sum of which no two terms are above zero
pub sum_square : (n : ℕ) (f : ℕ → ℕ) → ((j k : ℕ) → j < k → k < n → f j * f k ≡ 0) → sum n f * sum n f ≡ sum n (λ k. f k * f k)
unfolding sum
sum_square zero f h = omega arith
sum_square (suc n) f h =
    omega (
      arith,
      sum_square n f (λ j k p q. h j k p (omega arith)),
      sum_scale n f (f n),
      sum_none n (λ j. f j * f n) (λ j p. h j n p (omega arith)),
    )
