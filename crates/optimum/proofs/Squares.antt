-- Twice a product is at most the two squares, and as much only where the two are equal: the rest is the square of their difference. Assumes nothing.
use Prim.Native.Nat.{ℕ, zero, suc, ◌+◌, ◌*◌, ◌≤◌}
use mathlib.Core.Path.{◌≡◌, refl, ap}
use native.Mathlib.Omega.{arith}
use native.Mathlib.Decide.{dec_le}
use native.Mathlib.Nat.{le_dest}

-- b² + a² is 2ab and the square of the difference
apart : (a k b : ℕ) → a + k ≡ b → 2 * (a * b) + k * k ≡ a * a + b * b
apart a k b e = omega (arith, ap (λ (x : ℕ). a * x) e, ap (λ (x : ℕ). x * (a + k)) e, ap (λ (x : ℕ). b * x) e)

pub twice_product : (a b : ℕ) → 2 * (a * b) ≤ a * a + b * b
twice_product a b = go (dec_le a b)
  where
    go : Dec (a ≤ b) → 2 * (a * b) ≤ a * a + b * b
    go (yes h) = let x = le_dest h in omega (arith, apart a x.0 b x.1)
    go (no h) = let p : b ≤ a = omega (arith, h) in let x = le_dest p in omega (arith, apart b x.0 a x.1)

no_square : (k : ℕ) → k * k ≡ 0 → k ≡ 0
no_square zero h = refl
no_square (suc k) h = absurd (omega arith)

pub same_squares : (a b : ℕ) → 2 * (a * b) ≡ a * a + b * b → a ≡ b
same_squares a b e = go (dec_le a b)
  where
    go : Dec (a ≤ b) → a ≡ b
    go (yes h) = let x = le_dest h in omega (arith, x.1, no_square x.0 (omega (arith, apart a x.0 b x.1, e)))
    go (no h) =
        let p : b ≤ a = omega (arith, h) in
        let x = le_dest p in
        omega (arith, x.1, no_square x.0 (omega (arith, apart b x.0 a x.1, e)))
