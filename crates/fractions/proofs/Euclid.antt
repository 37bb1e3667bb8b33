-- Laws of the greatest common divisor. Each goes by the turns of Euclid's rule: what divides the divisor divides the number exactly when it
-- divides the remainder. Assumes nothing.
use Prim.Native.Nat.{ℕ, zero, suc, ◌-◌, ◌*◌, ◌/◌, ◌%◌, ◌<◌, ◌≤◌, ◌∣◌}
use mathlib.Core.Path.{◌≡◌, refl, sym, ap, ◌∙◌}
use native.Mathlib.Omega.{arith}
use native.Mathlib.Nat.{mod-lt, mod_def, mul-div-mul_right, mul-sub, mul-pos, zero-mul, pos_of_dvd_of_pos}
use Rattle.std.specs.Int.{IsGcd}
use Rattle.std.proofs.lemmas.Nat.Gcd.{IsGcd-from_zero, IsGcd-from_mod}
use Rattle.fractions.specs.Fraction.{euclid, gcd}

-- turns that are enough give one result
enough : (m n a b : ℕ) → b ≤ m → b ≤ n → euclid m a b ≡ euclid n a b
unfolding euclid
enough zero zero a zero hm hn = refl
enough zero zero a (suc b) hm hn = refl
enough zero (suc n) a zero hm hn = refl
enough zero (suc n) a (suc b) hm hn = absurd (omega arith)
enough (suc m) zero a zero hm hn = refl
enough (suc m) zero a (suc b) hm hn = absurd (omega arith)
enough (suc m) (suc n) a zero hm hn = refl
enough (suc m) (suc n) a (suc b) hm hn =
    let h : a % suc b < suc b = mod-lt a (omega arith) in
    enough m n (suc b) (a % suc b) (omega arith) (omega arith)

-- where the divisor is zero, the number itself
pub gcd_zero : (a : ℕ) → gcd a 0 ≡ a
unfolding gcd euclid
gcd_zero a = refl

-- one turn
pub gcd_turn : (a b : ℕ) → 0 < b → gcd a b ≡ gcd b (a % b)
unfolding gcd euclid
gcd_turn a zero h = absurd (omega arith)
gcd_turn a (suc b) h =
    let r : a % suc b < suc b = mod-lt a (omega arith) in
    enough b (a % suc b) (suc b) (a % suc b) (omega arith) (omega arith)

-- what std calls the greatest common divisor: it divides both, and every common divisor divides it
is_gcd : (turns a b : ℕ) → b ≤ turns → IsGcd a b (gcd a b)
is_gcd turns a zero h = rw gcd_zero (IsGcd-from_zero a 0 refl)
is_gcd zero a (suc b) h = absurd (omega arith)
is_gcd (suc turns) a (suc b) h =
    let r : a % suc b < suc b = mod-lt a (omega arith) in
    rw (gcd_turn a (suc b) (omega arith)) (IsGcd-from_mod a (suc b) _ (is_gcd turns (suc b) (a % suc b) (omega arith)))

pub gcd_left : (a b : ℕ) → gcd a b ∣ a
gcd_left a b = (is_gcd b a b (omega arith)).0

pub gcd_right : (a b : ℕ) → gcd a b ∣ b
gcd_right a b = (is_gcd b a b (omega arith)).1

-- every common divisor divides the greatest
pub gcd_greatest : (c a b : ℕ) → c ∣ a → c ∣ b → c ∣ gcd a b
gcd_greatest c a b = (is_gcd b a b (omega arith)).2 c

pub gcd_positive : (a b : ℕ) → 0 < b → 0 < gcd a b
gcd_positive a b h = pos_of_dvd_of_pos (gcd_right a b) h

-- a common factor comes out of the remainder
mod_scale : (a b k : ℕ) → 0 < k → (a * k) % (b * k) ≡ (a % b) * k
mod_scale a b k h =
    mod_def (a * k) (b * k) ∙ ap (λ (q : ℕ). a * k - b * k * q) (mul-div-mul_right a b h) ∙
    omega (arith, ap (λ (q : ℕ). q * k) (mod_def a b), mul-sub k a (b * (a / b)))

scale : (turns a b k : ℕ) → b ≤ turns → 0 < k → gcd (a * k) (b * k) ≡ gcd a b * k
scale zero a zero k h p = rw (gcd_zero a, zero-mul k) (gcd_zero (a * k))
scale zero a (suc b) k h p = absurd (omega arith)
scale (suc turns) a zero k h p = rw (gcd_zero a, zero-mul k) (gcd_zero (a * k))
scale (suc turns) a (suc b) k h p =
    let r : a % suc b < suc b = mod-lt a (omega arith) in
    gcd_turn (a * k) (suc b * k) (mul-pos {m = suc b} (omega arith) p) ∙ ap (gcd (suc b * k)) (mod_scale a (suc b) k p) ∙
    scale turns (suc b) (a % suc b) k (omega arith) p ∙ ap (λ (g : ℕ). g * k) (sym (gcd_turn a (suc b) (omega arith)))

-- a common factor comes out
pub gcd_scale : (a b k : ℕ) → 0 < k → gcd (a * k) (b * k) ≡ gcd a b * k
gcd_scale a b k = scale b a b k (omega arith)
