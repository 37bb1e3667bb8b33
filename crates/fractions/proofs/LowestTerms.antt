-- Laws of lowest terms: a fraction in lowest terms keeps its value, is no larger than what it comes from, and is the only one of that value.
-- The last stands on `gcd_scale`: of two equal fractions in lowest terms, N D' over D D' has the greatest common divisor D', and N' D over D D' has D.
-- Assumes nothing.
use Prim.Native.Nat.{ℕ, zero, suc, ◌*◌, ◌<◌, ◌≤◌, ◌^◌}
use mathlib.Core.Path.{◌≡◌, ap}
use native.Mathlib.Omega.{arith}
use native.Mathlib.Nat.{div-mul_cancel, div-le_self, mul-dvd-mul_right, dvd_of_mul-dvd-mul_right, eq-one_of_dvd-one, one-mul, mul_comm, eq_of_mul-eq-mul_right, mul-le-mul_left, mul-lt-mul_of_pos_right, lt_of_le_of_lt, le_of_lt}
use Rattle.fractions.specs.Fraction.{gcd, lowest_n, lowest_d, Lowest}
use Rattle.fractions.proofs.Euclid.{gcd_left, gcd_right, gcd_greatest, gcd_positive, gcd_scale}

-- the load is N times the divisor
pub load_is : (load length : ℕ) → lowest_n load length * gcd load length ≡ load
unfolding lowest_n
load_is load length = div-mul_cancel (gcd load length) (gcd_left load length)

-- the length is D times the divisor
pub length_is : (load length : ℕ) → lowest_d load length * gcd load length ≡ length
unfolding lowest_d
length_is load length = div-mul_cancel (gcd load length) (gcd_right load length)

-- the value is kept
pub value_kept : (load length : ℕ) → load * lowest_d load length ≡ lowest_n load length * length
value_kept load length =
    omega (
      arith,
      ap (λ (x : ℕ). x * lowest_d load length) (load_is load length),
      ap (λ (x : ℕ). lowest_n load length * x) (length_is load length),
    )

pub lowest_n_small : (load length : ℕ) → lowest_n load length ≤ load
unfolding lowest_n
lowest_n_small load length = div-le_self load (gcd load length)

pub lowest_d_small : (load length : ℕ) → lowest_d load length ≤ length
unfolding lowest_d
lowest_d_small load length = div-le_self length (gcd load length)

-- a factor of something above zero is above zero
factor_positive : (a b : ℕ) → 0 < a * b → 0 < a
factor_positive zero b h = omega arith
factor_positive (suc a) b h = omega arith

pub lowest_n_positive : (load length : ℕ) → 0 < load → 0 < lowest_n load length
lowest_n_positive load length h = factor_positive (lowest_n load length) (gcd load length) (rw load_is h)

pub lowest_d_positive : (load length : ℕ) → 0 < length → 0 < lowest_d load length
lowest_d_positive load length h = factor_positive (lowest_d load length) (gcd load length) (rw length_is h)

-- N and D have no common divisor but 1
pub lowest_is_lowest : (load length : ℕ) → 0 < length → Lowest (lowest_n load length) (lowest_d load length)
lowest_is_lowest load length h c p q =
    eq-one_of_dvd-one (dvd_of_mul-dvd-mul_right {k = gcd load length} c (gcd_positive load length h)
    (rw one-mul (gcd_greatest (c * gcd load length) load length
    (rw load_is at (mul-dvd-mul_right c p (gcd load length)))
    (rw length_is at (mul-dvd-mul_right c q (gcd load length))))))

-- lowest terms have the greatest common divisor 1
gcd_one : (n d : ℕ) → Lowest n d → gcd n d ≡ 1
gcd_one n d l = l (gcd n d) (gcd_left n d) (gcd_right n d)

same_d : (n d n' d' : ℕ) → 0 < d → 0 < d' → Lowest n d → Lowest n' d' → n * d' ≡ n' * d → d ≡ d'
same_d n d n' d' p p' l l' e =
    omega (
      arith,
      gcd_scale n d d' p',
      gcd_scale n' d' d p,
      ap (λ (g : ℕ). g * d') (gcd_one n d l),
      ap (λ (g : ℕ). g * d) (gcd_one n' d' l'),
      ap (λ (x : ℕ). gcd x (d * d')) e,
      ap (λ (x : ℕ). gcd (n' * d) x) (mul_comm d d'),
    )

-- one fraction in lowest terms for each value
pub one_form : (n d n' d' : ℕ) → 0 < d → 0 < d' → Lowest n d → Lowest n' d' → n * d' ≡ n' * d → (n ≡ n') × (d ≡ d')
one_form n d n' d' p p' l l' e =
    let same : d ≡ d' = same_d n d n' d' p p' l l' e in
    (eq_of_mul-eq-mul_right d p n n' (omega (arith, e, ap (λ (x : ℕ). n * x) same)), same)

-- a product of two figures below 2^32 fits 64 bits
pub cross_fits : {a b : ℕ} → a < 2 ^ 32 → b < 2 ^ 32 → a * b < 2 ^ 64
cross_fits {a} {b} ha hb =
    lt_of_le_of_lt (mul-le-mul_left a (le_of_lt hb)) (mul-lt-mul_of_pos_right {k = 2 ^ 32} ha (omega arith))
