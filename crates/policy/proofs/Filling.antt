-- Arrays of n that a loop fills from the front. Assumes nothing.
use Prim.Native.Nat.{ℕ, ◌+◌, ◌<◌, ◌≤◌}
use mathlib.Core.Path.{◌≡◌, refl, ◌∙◌}
use mathlib.Core.List.{List}
use native.Mathlib.Omega.{arith}
use native.Mathlib.Decide.{ℕ_discrete}
use lib.ListN.{length, get_or, set, length-set}
use lib.Seq.{get_or-set_same, get_or-set_other}

-- the first i each meet a condition
pub record Meeting {A : Type 0} (n : ℕ) (a : A) (P : ℕ → A → Type 0) (l : List A) (i : ℕ) : Type 0 where
  pub room : length l ≡ n
  pub below : (k : ℕ) → k < i → P k (get_or l k a)

pub meeting_none : {A : Type 0} {n : ℕ} (a : A) (P : ℕ → A → Type 0) (l : List A) → length l ≡ n → Meeting n a P l 0
meeting_none a P l h = record { room = h; below = λ k p. absurd (omega arith) }

pub meeting_more : {A : Type 0} {n : ℕ} (a : A) (P : ℕ → A → Type 0) (l : List A) (i : ℕ) (v : A) → i < n → Meeting n a P l i → P i v → Meeting n a P (set l i v) (i + 1)
meeting_more a P l i v h f e = record { room = length-set l i v ∙ f.room; below = λ k p. go k p (ℕ_discrete k i) }
  where
    go : (k : ℕ) → k < i + 1 → Dec (k ≡ i) → P k (get_or (set l i v) k a)
    go k p (yes q) = rw (q, get_or-set_same l i v a (omega (arith, f.room))) e
    go k p (no q) = rw (get_or-set_other l i k v a q) (f.below k (omega (arith, q)))

-- the first i are those of F
abbrev pub Filled : ℕ → (ℕ → ℕ) → List ℕ → ℕ → Type 0
Filled n F l i = Meeting n 0 (λ k v. v ≡ F k) l i

pub filled_first : {n : ℕ} (F : ℕ → ℕ) (l : List ℕ) → length l ≡ n → get_or l 0 0 ≡ F 0 → Filled n F l 1
filled_first F l h e = record { room = h; below = λ k p. let q : k ≡ 0 = omega arith in rw q e }

-- the first i are those of F, and the others as they were
pub record Halfway {A : Type 0} (n : ℕ) (a : A) (F : ℕ → A) (l₀ l : List A) (i : ℕ) : Type 0 where
  pub filled : Meeting n a (λ k v. v ≡ F k) l i
  pub above : (k : ℕ) → i ≤ k → get_or l k a ≡ get_or l₀ k a

pub halfway_none : {A : Type 0} {n : ℕ} (a : A) (F : ℕ → A) (l : List A) → length l ≡ n → Halfway n a F l l 0
halfway_none a F l h = record { filled = meeting_none a _ l h; above = λ k p. refl }

pub halfway_more : {A : Type 0} {n : ℕ} (a : A) (F : ℕ → A) (l₀ l : List A) (i : ℕ) (v : A) → i < n → Halfway n a F l₀ l i → v ≡ F i → Halfway n a F l₀ (set l i v) (i + 1)
halfway_more a F l₀ l i v h f e =
    record {
      filled = meeting_more a _ l i v h f.filled e;
      above = λ k p. get_or-set_other l i k v a (λ q. omega (arith, p, q)) ∙ f.above k (omega (arith, p));
    }

-- one more that stays as it was
pub halfway_same : {A : Type 0} {n : ℕ} (a : A) (F : ℕ → A) (l₀ l : List A) (i : ℕ) → Halfway n a F l₀ l i → get_or l₀ i a ≡ F i → Halfway n a F l₀ l (i + 1)
halfway_same a F l₀ l i f e =
    record {
      filled = record { room = f.filled.room; below = λ k p. go k p (ℕ_discrete k i) };
      above = λ k p. f.above k (omega (arith, p));
    }
  where
    go : (k : ℕ) → k < i + 1 → Dec (k ≡ i) → get_or l k a ≡ F k
    go k p (yes q) = rw q (f.above i (omega arith) ∙ e)
    go k p (no q) = f.filled.below k (omega (arith, q))
