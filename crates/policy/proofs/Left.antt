-- The weight that is left inside an interval, as the interval grows and as rates are given. Every fact is one about a single index, by cases on
-- its tests, lifted by a law of sums. Assumes nothing.
use Prim.Native.Nat.{ℕ, suc, ◌+◌, ◌<◌, ◌≤◌}
use mathlib.Core.Path.{◌≡◌, refl, ap}
use mathlib.Core.Bool.{Bool, true, false, not, ◌&&◌}
use mathlib.Core.Logic.{◌⊎◌, inl, inr}
use native.Mathlib.Omega.{arith}
use native.Mathlib.Decide.{dec_lt, ℕ_discrete}
use native.Mathlib.Nat.{le_refl, le_trans}
use borrow.Author.Tests.{leb-true, le-leb, lt-ltb, le-ltb, eq-eqb, ne_eqb}
use lib.Dec.{eqb, leb, ltb}
use Rattle.policy.specs.Windows.{Windows, Given, none, rate, unassigned, inside, only_if, left, choose, assign, sum}
use Rattle.policy.proofs.Sums.{sum_eq, sum_le, sum_add, sum_some}

-- ## Tests

pub both : (a b : Bool) → (a && b) ≡ true → (a ≡ true) × (b ≡ true)
both true b h = (refl, h)
both false b h = let z : ◌≡◌ {A = ℕ} 0 1 = cc in absurd (omega arith)

pub both_true : {a b : Bool} → a ≡ true → b ≡ true → (a && b) ≡ true
both_true p q = rw (p, q) refl

pub not_both_ways : {a : Bool} → a ≡ true → a ≡ false → ⊥
not_both_ways p q = let z : ◌≡◌ {A = ℕ} 0 1 = cc in omega arith

-- what lies inside
pub inside_true : (w : Windows) (s e i : ℕ) → inside w s e i ≡ true → (s ≤ w.from i) × (w.till i ≤ e)
unfolding inside
inside_true w s e i h =
    let b = both (leb s (w.from i)) (leb (w.till i) e) h in
    (leb-true s (w.from i) b.0, leb-true (w.till i) e b.1)

pub inside_is : (w : Windows) (s e i : ℕ) → s ≤ w.from i → w.till i ≤ e → inside w s e i ≡ true
unfolding inside
inside_is w s e i p q = both_true (le-leb s (w.from i) p) (le-leb (w.till i) e q)

-- inside a part is inside the whole
pub inside_wider : (w : Windows) (s e s' e' i : ℕ) → s' ≤ s → e ≤ e' → inside w s e i ≡ true → inside w s' e' i ≡ true
inside_wider w s e s' e' i p q h =
    let b = inside_true w s e i h in
    inside_is w s' e' i (le_trans p b.0) (le_trans b.1 q)

-- what is unassigned after a round was so before, and lies outside
pub assign_left : (w : Windows) (s e n d : ℕ) (g : ℕ → Given) (i : ℕ)
    → unassigned (assign w s e n d g i) ≡ (unassigned (g i) && not (inside w s e i))
unfolding assign
assign_left w s e n d g i = go (g i) (inside w s e i)
  where
    go : (x : Given) (b : Bool) → unassigned (choose (unassigned x && b) (rate n d) x) ≡ (unassigned x && not b)
    go none true = unfold unassigned choose in refl
    go none false = unfold unassigned choose in refl
    go (rate n' d') true = unfold unassigned choose in refl
    go (rate n' d') false = unfold unassigned choose in refl

-- ## One index

-- a test that implies another gives no more
pub only_if_le : (a b : Bool) (x : ℕ) → (a ≡ true → b ≡ true) → only_if a x ≤ only_if b x
unfolding only_if
only_if_le true true x h = le_refl x
only_if_le true false x h = absurd (not_both_ways (h refl) refl)
only_if_le false b x h = omega arith

-- a test leaves at most the weight
pub only_if_most : (b : Bool) (x : ℕ) → only_if b x ≤ x
unfolding only_if
only_if_most true x = omega arith
only_if_most false x = omega arith

-- those below a bound and those at it
pub place_more : (p m v : ℕ) → only_if (ltb p m) v + only_if (eqb p m) v ≡ only_if (ltb p (suc m)) v
place_more p m v = go (dec_lt p m) (ℕ_discrete p m)
  where
    go : Dec (p < m) → Dec (p ≡ m) → only_if (ltb p m) v + only_if (eqb p m) v ≡ only_if (ltb p (suc m)) v
    go (yes a) b =
        rw (lt-ltb p m a, ne_eqb p m (λ e. omega (arith, a, e)), lt-ltb p (suc m) (omega (arith, a))) (unfold only_if in omega arith)
    go (no a) (yes b) =
        rw (le-ltb p m (omega (arith, a)), eq-eqb p m b, lt-ltb p (suc m) (omega (arith, b))) (unfold only_if in omega arith)
    go (no a) (no b) =
        rw (le-ltb p m (omega (arith, a)), ne_eqb p m b, le-ltb p (suc m) (omega (arith, a, b))) (unfold only_if in omega arith)

pub only_if_some : (a : Bool) (x : ℕ) → 0 < only_if a x → (a ≡ true) × (0 < x)
unfolding only_if
only_if_some true x h = (refl, h)
only_if_some false x h = absurd (omega arith)

-- of two parts, the second without the first, each inside a whole
parts_le : (u a b h : Bool) (x : ℕ) → (a ≡ true → h ≡ true) → (b ≡ true → h ≡ true)
    → only_if (u && a) x + only_if ((u && not a) && b) x ≤ only_if (u && h) x
unfolding only_if
parts_le false a b h x p q = omega arith
parts_le true true b true x p q = omega arith
parts_le true true b false x p q = absurd (not_both_ways (p refl) refl)
parts_le true false true true x p q = omega arith
parts_le true false true false x p q = absurd (not_both_ways (q refl) refl)
parts_le true false false h x p q = omega arith

-- a whole of which each is in one of two parts
le_parts : (u a b h : Bool) (x : ℕ) → (h ≡ true → (a ≡ true) ⊎ (b ≡ true))
    → only_if (u && h) x ≤ only_if (u && a) x + only_if ((u && not a) && b) x
unfolding only_if
le_parts false a b h x p = omega arith
le_parts true true b true x p = omega arith
le_parts true true b false x p = omega arith
le_parts true false true true x p = omega arith
le_parts true false true false x p = omega arith
le_parts true false false true x p = absurd (go (p refl))
  where
    go : (false ≡ true) ⊎ (false ≡ true) → ⊥
    go (inl e) = not_both_ways e refl
    go (inr e) = not_both_ways e refl
le_parts true false false false x p = omega arith

-- ## Intervals

-- where each unassigned one inside the first interval is inside the second, the second has no less
pub left_within : (w : Windows) (g : ℕ → Given) (s e s' e' : ℕ)
    → ((i : ℕ) → i < w.count → unassigned (g i) ≡ true → inside w s e i ≡ true → inside w s' e' i ≡ true)
    → left w g s e ≤ left w g s' e'
unfolding left
left_within w g s e s' e' within =
    sum_le w.count _ _ λ i h. only_if_le (unassigned (g i) && inside w s e i) (unassigned (g i) && inside w s' e' i) (w.weight i)
    λ t. let b = both (unassigned (g i)) (inside w s e i) t in both_true b.0 (within i h b.0 b.1)

-- a wider interval has no less
pub left_wider : (w : Windows) (g : ℕ → Given) (s e s' e' : ℕ) → s' ≤ s → e ≤ e' → left w g s e ≤ left w g s' e'
left_wider w g s e s' e' p q = left_within w g s e s' e' λ i h u. inside_wider w s e s' e' i p q

-- something left is some index, unassigned and inside
pub left_some : (w : Windows) (g : ℕ → Given) (s e : ℕ) → 0 < left w g s e
    → (i : ℕ) × (i < w.count) × (unassigned (g i) ≡ true) × (inside w s e i ≡ true)
unfolding left
left_some w g s e h =
    let t = sum_some w.count (λ i. only_if (unassigned (g i) && inside w s e i) (w.weight i)) h in
    let b = both (unassigned (g t.0)) (inside w s e t.0) (only_if_some _ _ t.2).0 in
    (t.0, t.1, b.0, b.1)

module _ (w : Windows) (g : ℕ → Given) (s e n d s' e' : ℕ) where
  -- what is left after a round, by the tests before it
  left_after : left w (assign w s e n d g) s' e'
      ≡ sum w.count (λ i. only_if ((unassigned (g i) && not (inside w s e i)) && inside w s' e' i) (w.weight i))
  unfolding left
  left_after = sum_eq w.count _ _ λ i h. ap (λ (u : Bool). only_if (u && inside w s' e' i) (w.weight i)) (assign_left w s e n d g i)

  -- a round leaves no more
  pub left_fewer : left w (assign w s e n d g) s' e' ≤ left w g s' e'
  unfolding left
  left_fewer =
      rw left_after (sum_le w.count _ _ λ i h.
      only_if_le ((unassigned (g i) && not (inside w s e i)) && inside w s' e' i) (unassigned (g i) && inside w s' e' i) (w.weight i)
      λ t. let b = both (unassigned (g i) && not (inside w s e i)) (inside w s' e' i) t in
      both_true (both (unassigned (g i)) (not (inside w s e i)) b.0).0 b.1)

  -- what was taken and what is left of another interval lie in every interval around both
  pub hull_more : (s₀ e₀ : ℕ) → s₀ ≤ s → e ≤ e₀ → s₀ ≤ s' → e' ≤ e₀
      → left w g s e + left w (assign w s e n d g) s' e' ≤ left w g s₀ e₀
  unfolding left
  hull_more s₀ e₀ p q p' q' =
      rw (
        left_after,
        ← (sum_add w.count (λ i. only_if (unassigned (g i) && inside w s e i) (w.weight i))
            (λ i. only_if ((unassigned (g i) && not (inside w s e i)) && inside w s' e' i) (w.weight i))),
      )
      (sum_le w.count _ _ λ i h.
      parts_le (unassigned (g i)) (inside w s e i) (inside w s' e' i) (inside w s₀ e₀ i) (w.weight i)
      (inside_wider w s e s₀ e₀ i p q) (inside_wider w s' e' s₀ e₀ i p' q'))

  -- where each inside the whole is inside one of the two, the whole has no more than both
  pub hull_less : (s₀ e₀ : ℕ)
      → ((i : ℕ) → i < w.count → inside w s₀ e₀ i ≡ true → (inside w s e i ≡ true) ⊎ (inside w s' e' i ≡ true))
      → left w g s₀ e₀ ≤ left w g s e + left w (assign w s e n d g) s' e'
  unfolding left
  hull_less s₀ e₀ split =
      rw (
        left_after,
        ← (sum_add w.count (λ i. only_if (unassigned (g i) && inside w s e i) (w.weight i))
            (λ i. only_if ((unassigned (g i) && not (inside w s e i)) && inside w s' e' i) (w.weight i))),
      )
      (sum_le w.count _ _ λ i h.
      le_parts (unassigned (g i)) (inside w s e i) (inside w s' e' i) (inside w s₀ e₀ i) (w.weight i) (split i h))

  -- an interval of which nothing was taken keeps all
  pub left_apart : ((i : ℕ) → i < w.count → inside w s' e' i ≡ true → inside w s e i ≡ false)
      → left w g s' e' ≤ left w (assign w s e n d g) s' e'
  unfolding left
  left_apart apart =
      rw left_after (sum_le w.count _ _ λ i h.
      only_if_le (unassigned (g i) && inside w s' e' i) ((unassigned (g i) && not (inside w s e i)) && inside w s' e' i) (w.weight i)
      λ t. let b = both (unassigned (g i)) (inside w s' e' i) t in
      both_true (both_true b.0 (ap not (apart i h b.1))) b.1)
