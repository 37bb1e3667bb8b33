-- Sums of fractions over a common denominator. If each of the fractions is m over M, their sum is the sum of the m over M. Assumes nothing.
use Prim.Native.Nat.{ℕ, zero, suc, ◌*◌, ◌<◌}
use mathlib.Core.Path.{◌≡◌, ap}
use native.Mathlib.Omega.{arith}
use native.Mathlib.Nat.{mul-pos}
use Rattle.policy.specs.Windows.{sum}
use Rattle.timetable.specs.Costs.{product}
use Rattle.optimum.specs.Rival.{Fraction, total}

-- the denominator of a sum
pub total_under : (n : ℕ) (f : ℕ → Fraction) → ((i : ℕ) → i < n → 0 < (f i).under) → 0 < (total n f).under
unfolding total
total_under zero f h = omega arith
total_under (suc n) f h = mul-pos (total_under n f (λ i p. h i (omega arith))) (h n (omega arith))

-- fractions of a common denominator add up
pub total_in : (M n : ℕ) (f : ℕ → Fraction) (m : ℕ → ℕ) → ((i : ℕ) → i < n → (f i).over * M ≡ m i * (f i).under)
    → (total n f).over * M ≡ sum n m * (total n f).under
unfolding total sum
total_in M zero f m h = omega arith
total_in M (suc n) f m h =
    omega (
      arith,
      ap (λ (x : ℕ). x * (f n).under) (total_in M n f m (λ i p. h i (omega arith))),
      ap (λ (x : ℕ). x * (total n f).under) (h n (omega arith)),
    )

-- a product of numbers above zero is a common multiple of them above zero
pub product_some : (n : ℕ) (f : ℕ → ℕ) → ((i : ℕ) → i < n → 0 < f i) → 0 < product n f
unfolding product
product_some zero f h = omega arith
product_some (suc n) f h = mul-pos (product_some n f (λ i p. h i (omega arith))) (h n (omega arith))
