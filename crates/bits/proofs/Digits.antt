-- Laws of binary digits and of the number that bits spell. Everything above goes by these: two numbers below 2 ^ w agree where their digits do.
-- Assumes nothing.
use Prim.Native.Nat.{ℕ, zero, suc, ◌+◌, ◌-◌, ◌*◌, ◌/◌, ◌%◌, ◌^◌, ◌<◌, ◌≤◌}
use mathlib.Core.Path.{◌≡◌, refl, sym, ap, ◌∙◌}
use native.Mathlib.Omega.{arith}
use native.Mathlib.Nat.{add-zero, pow-suc}
use native.Mathlib.Numerals.{add-one}
use lib.Pow.{shr-shr, high, mod-pow-add}
use Rattle.std.proofs.lemmas.Nat.{div-add-mod'}
use Rattle.std.proofs.lemmas.Nat.Bits.{bit_at_cat_low}
use Rattle.bits.specs.Field.{digit, spelt}

-- ---- digits

-- a digit is 0 or 1
pub digit_lt : (v k : ℕ) → digit v k < 2
unfolding digit
digit_lt v k = omega arith

pub digit_first : (v : ℕ) → digit v 0 ≡ v % 2
unfolding digit
digit_first v = omega arith

-- a digit of a number without its last a digits
pub digit_shift : (v a k : ℕ) → digit (v / 2 ^ a) k ≡ digit v (a + k)
unfolding digit
digit_shift v a k = rw shr-shr

-- the last a digits do not change where the digits above are dropped
pub digit_last : (v : ℕ) {a k : ℕ} → k < a → digit (v % 2 ^ a) k ≡ digit v k
unfolding digit
digit_last v {a} {k} h =
    sym (bit_at_cat_low (v / 2 ^ a) a (v % 2 ^ a) k h) ∙ ap (λ (n : ℕ). n / 2 ^ k % 2) (div-add-mod' v (2 ^ a))

-- the digits of a number put together of two parts
pub digit_low : (top bottom : ℕ) {a k : ℕ} → k < a → digit (top * 2 ^ a + bottom) k ≡ digit bottom k
unfolding digit
digit_low top bottom {a} {k} h = bit_at_cat_low top a bottom k h

pub digit_high : (top bottom a k : ℕ) → bottom < 2 ^ a → digit (top * 2 ^ a + bottom) (a + k) ≡ digit top k
digit_high top bottom a k fits = sym (digit_shift (top * 2 ^ a + bottom) a k) ∙ ap (λ (n : ℕ). digit n k) (high top a fits)

-- ---- the number that bits spell

module _ (f : ℕ → ℕ) where
  -- it is below 2 to the number of bits
  pub spelt_lt : ((i : ℕ) → f i < 2) → (p w : ℕ) → spelt f p w < 2 ^ w
  unfolding spelt
  spelt_lt bits p zero = omega arith
  spelt_lt bits p (suc w) = omega (arith, spelt_lt bits p w, bits (p + w))

  -- bits that follow one another
  pub spelt_add : (p w k : ℕ) → spelt f p (w + k) ≡ spelt f p w * 2 ^ k + spelt f (p + w) k
  unfolding spelt
  spelt_add p w zero = rw add-zero (omega arith)
  spelt_add p w (suc k) =
      let e : w + suc k ≡ suc (w + k) = omega arith in
      let q : p + (w + k) ≡ p + w + k = omega arith in
      let twice : spelt f p w * 2 ^ suc k ≡ 2 * (spelt f p w * 2 ^ k) = rw (pow-suc 2 k) (omega arith) in
      rw e (rw q (omega (arith, twice, spelt_add p w k)))

  -- each digit of it is the bit that stands there
  pub digit_spelt : ((i : ℕ) → f i < 2) → (p w k : ℕ) → k < w → digit (spelt f p w) k ≡ f (p + w - 1 - k)
  unfolding spelt digit
  digit_spelt bits p zero k h = elim h [ ]
  digit_spelt bits p (suc w) zero h =
      let e : p + suc w - 1 - 0 ≡ p + w = omega arith in
      rw e (omega (arith, bits (p + w)))
  digit_spelt bits p (suc w) (suc k) h =
      let e : p + suc w - 1 - suc k ≡ p + w - 1 - k = omega arith in
      let s : suc k ≡ 1 + k = omega arith in
      let d : digit (2 * spelt f p w + f (p + w)) (1 + k) ≡ digit (spelt f p w) k =
      ap (λ (n : ℕ). digit (n + f (p + w)) (1 + k)) (omega arith) ∙ digit_high (spelt f p w) (f (p + w)) 1 k (bits (p + w)) in
      rw (e, s) (d ∙ digit_spelt bits p w k (omega arith))

-- equal bits spell equal numbers
pub spelt_same : (f g : ℕ → ℕ) (p w : ℕ) → ((i : ℕ) → p ≤ i → i < p + w → f i ≡ g i) → spelt f p w ≡ spelt g p w
unfolding spelt
spelt_same f g p zero same = refl
spelt_same f g p (suc w) same =
    let last = same (p + w) (omega arith) (omega arith) in
    omega (arith, spelt_same f g p w (λ i low high. same i low (omega arith)))

-- the last w digits of a number, from the most significant down, spell it again
pub spelt_digits : (v p w : ℕ) → spelt (λ i. digit v (p + w - 1 - i)) p w ≡ v % 2 ^ w
unfolding spelt digit
spelt_digits v p zero = omega arith
spelt_digits v p (suc w) =
    let above : (i : ℕ) → p ≤ i → i < p + w → digit v (p + suc w - 1 - i) ≡ digit (v / 2 ^ 1) (p + w - 1 - i) =
    λ i lo hi. (let e : p + suc w - 1 - i ≡ 1 + (p + w - 1 - i) = omega arith in rw e (sym (digit_shift v 1 (p + w - 1 - i)))) in
    let tops = spelt_same (λ i. digit v (p + suc w - 1 - i)) (λ i. digit (v / 2 ^ 1) (p + w - 1 - i)) p w above ∙ spelt_digits (v / 2 ^ 1) p w in
    let e : p + suc w - 1 - (p + w) ≡ 0 = omega arith in
    let one : w + 1 ≡ suc w = add-one w in
    let parts : v % 2 ^ (w + 1) ≡ (v / 2 ^ 1 % 2 ^ w) * 2 ^ 1 + v % 2 ^ 1 = mod-pow-add v w 1 in
    rw e (omega (arith, tops, rw one at parts))
