-- Laws of finite sums. Each goes by the number of terms. Assumes nothing.
use Prim.Native.Nat.{ℕ, zero, suc, ◌+◌, ◌*◌, ◌<◌, ◌≤◌}
use mathlib.Core.Path.{◌≡◌, refl, ap, ap₂}
use native.Mathlib.Omega.{arith}
use native.Mathlib.Decide.{dec_lt, ℕ_discrete}
use native.Mathlib.Numerals.{add-one}
use Rattle.policy.specs.Windows.{sum}

-- equal terms
pub sum_eq : (n : ℕ) (f g : ℕ → ℕ) → ((i : ℕ) → i < n → f i ≡ g i) → sum n f ≡ sum n g
unfolding sum
sum_eq zero f g h = refl
sum_eq (suc n) f g h = omega (arith, sum_eq n f g (λ i p. h i (omega arith)), h n (omega arith))

-- a sum of ones counts them
pub sum_ones : (n : ℕ) → sum n (λ k. 1) ≡ n
unfolding sum
sum_ones zero = refl
sum_ones (suc n) = omega (arith, sum_ones n)

-- term by term
pub sum_le : (n : ℕ) (f g : ℕ → ℕ) → ((i : ℕ) → i < n → f i ≤ g i) → sum n f ≤ sum n g
unfolding sum
sum_le zero f g h = omega arith
sum_le (suc n) f g h = omega (arith, sum_le n f g (λ i p. h i (omega arith)), h n (omega arith))

-- a sum of sums
pub sum_add : (n : ℕ) (f g : ℕ → ℕ) → sum n (λ i. f i + g i) ≡ sum n f + sum n g
unfolding sum
sum_add zero f g = refl
sum_add (suc n) f g = omega (arith, sum_add n f g)

-- a factor
pub sum_scale : (n : ℕ) (f : ℕ → ℕ) (c : ℕ) → sum n (λ i. f i * c) ≡ sum n f * c
unfolding sum
sum_scale zero f c = omega arith
sum_scale (suc n) f c = omega (arith, sum_scale n f c)

-- a term is at most the sum
pub sum_at : (n : ℕ) (f : ℕ → ℕ) (i : ℕ) → i < n → f i ≤ sum n f
unfolding sum
sum_at zero f i h = absurd (omega arith)
sum_at (suc n) f i h = go (ℕ_discrete i n) (sum_at n f i)
  where
    go : Dec (i ≡ n) → (i < n → f i ≤ sum n f) → f i ≤ sum n f + f n
    go (yes e) rest = omega (arith, ap f e)
    go (no e) rest = omega (arith, rest (omega (arith, e)))

-- a sum above zero has a term above zero
pub sum_some : (n : ℕ) (f : ℕ → ℕ) → 0 < sum n f → (i : ℕ) × (i < n) × (0 < f i)
unfolding sum
sum_some zero f h = absurd (omega arith)
sum_some (suc n) f h = go (dec_lt 0 (f n)) (λ (p : 0 < sum n f). sum_some n f p)
  where
    go : Dec (0 < f n) → (0 < sum n f → (i : ℕ) × (i < n) × (0 < f i)) → (i : ℕ) × (i < suc n) × (0 < f i)
    go (yes p) rest = (n, omega arith, p)
    go (no p) rest = let r : (i : ℕ) × (i < n) × (0 < f i) = rest (omega (arith, p)) in (r.0, omega (arith, r.1), r.2)

-- terms that are all zero
pub sum_none : (n : ℕ) (f : ℕ → ℕ) → ((i : ℕ) → i < n → f i ≡ 0) → sum n f ≡ 0
unfolding sum
sum_none zero f h = refl
sum_none (suc n) f h = omega (arith, sum_none n f (λ i p. h i (omega arith)), h n (omega arith))

-- terms from n on that are zero fall away
pub sum_cut : (m n : ℕ) (f : ℕ → ℕ) → n ≤ m → ((i : ℕ) → n ≤ i → i < m → f i ≡ 0) → sum m f ≡ sum n f
unfolding sum
sum_cut zero zero f p h = refl
sum_cut zero (suc n) f p h = absurd (omega arith)
sum_cut (suc m) n f p h = go (ℕ_discrete n (suc m)) (λ (q : n ≤ m). sum_cut m n f q (λ i a b. h i a (omega arith)))
  where
    go : Dec (n ≡ suc m) → (n ≤ m → sum m f ≡ sum n f) → sum m f + f m ≡ sum n f
    go (yes e) rest = rw e refl
    go (no e) rest = omega (arith, rest (omega (arith, e)), h m (omega (arith, e)) (omega arith))

-- terms of at most c
pub sum_most : (n c : ℕ) (f : ℕ → ℕ) → ((i : ℕ) → i < n → f i ≤ c) → sum n f ≤ n * c
unfolding sum
sum_most zero c f h = omega arith
sum_most (suc n) c f h = omega (arith, sum_most n c f (λ i p. h i (omega arith)), h n (omega arith))

-- one term more, as a loop adds it
pub sum_next : (f : ℕ → ℕ) (k : ℕ) {s r : ℕ} → s ≡ sum k f → r ≡ f k → s + r ≡ sum (k + 1) f
sum_next f k p q = rw add-one (unfold sum in ap₂ ◌+◌ p q)

-- what is not above zero is zero
pub none_above : (x : ℕ) → (0 < x → ⊥) → x ≡ 0
none_above x h = omega (arith, h)
