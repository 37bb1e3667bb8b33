-- Bounded: in every interval, data or not, the load is at most N/D times the length.
-- A densest holding bounds the state by its density, since any interval has the load of the smallest data interval around what it holds.
-- Hull: if the state is bounded by N/D and [s, e) is tight, the state stays bounded after [s, e) is taken. For an interval that meets [s, e), the hull
-- of both has at least the load of both and at most their length; for one apart nothing changes. Assumes nothing.
use Prim.Native.Nat.{ℕ, zero, suc, ◌*◌, ◌<◌, ◌≤◌, ◌-◌, min, max}
use mathlib.Core.Path.{◌≡◌, refl, ap, subst}
use mathlib.Core.Bool.{Bool, true, false, ◌&&◌}
use mathlib.Core.Logic.{◌⊎◌, inl, inr}
use native.Mathlib.Omega.{arith}
use native.Mathlib.Decide.{dec_le, dec_lt}
use native.Mathlib.Nat.{le_refl, le_trans, mul-le-mul_left, mul-le-mul_right, le_of_mul-le-mul_right}
use Rattle.fractions.specs.Fraction.{gcd, lowest_n, lowest_d}
use Rattle.fractions.proofs.Euclid.{gcd_positive}
use Rattle.fractions.proofs.LowestTerms.{load_is, length_is}
use Rattle.policy.specs.Windows.{unassigned, inside, only_if, left, sum}
use Rattle.policy.specs.Rounds.{Day, Progress, load, len, give_rate}
use Rattle.policy.specs.Runs.{DataInterval, Holding, Densest}
use borrow.Author.Tests.{ltb-true, lt-ltb}
use lib.Dec.{ltb}
use Rattle.policy.proofs.Sums.{none_above, sum_at, sum_some}
use Rattle.policy.proofs.Left.{both, both_true, inside_true, inside_is, left_wider, left_within, left_some, left_fewer, hull_more, hull_less, left_apart, only_if_le, only_if_some}
use Rattle.policy.proofs.Proper.{Proper}

-- the load of every interval is at most N/D times its length
abbrev pub Bounded : Day → Progress → ℕ → ℕ → Type 0
Bounded day done n d = (s e : ℕ) → load day done s e * d ≤ n * len day done s e

-- ## The least of those that pass a test

abbrev Least : ℕ → (ℕ → ℕ) → (ℕ → Bool) → Type 0
Least n f t = (i : ℕ) × (i < n) × (t i ≡ true) × ((j : ℕ) → j < n → t j ≡ true → f i ≤ f j)

-- how many pass the test and lie lower than number i
lower : ℕ → (ℕ → ℕ) → (ℕ → Bool) → ℕ → ℕ
lower n f t i = sum n (λ j. only_if (t j && ltb (f j) (f i)) 1)

lower_none : (n : ℕ) (f : ℕ → ℕ) (t : ℕ → Bool) (i : ℕ) → (0 < lower n f t i → ⊥) → (j : ℕ) → j < n → t j ≡ true → f i ≤ f j
unfolding lower only_if
lower_none n f t i h j q p = go (dec_le (f i) (f j))
  where
    go : Dec (f i ≤ f j) → f i ≤ f j
    go (yes r) = r
    go (no r) =
        absurd (h (le_trans
        (only_if_le true (t j && ltb (f j) (f i)) 1 (λ _. both_true p (lt-ltb (f j) (f i) (omega (arith, r)))))
        (sum_at n (λ j. only_if (t j && ltb (f j) (f i)) 1) j q)))

lower_some : (n : ℕ) (f : ℕ → ℕ) (t : ℕ → Bool) (i : ℕ) → 0 < lower n f t i → (j : ℕ) × (j < n) × (t j ≡ true) × (f j < f i)
unfolding lower
lower_some n f t i h =
    let r = sum_some n (λ j. only_if (t j && ltb (f j) (f i)) 1) h in
    let b = both (t r.0) (ltb (f r.0) (f i)) (only_if_some _ _ r.2).0 in
    (r.0, r.1, b.0, ltb-true (f r.0) (f i) b.1)

-- a walk down ends at the least
least : (steps n : ℕ) (f : ℕ → ℕ) (t : ℕ → Bool) (i : ℕ) → i < n → t i ≡ true → f i ≤ steps → Least n f t
least zero n f t i q p h = (i, q, p, λ j _ _. omega (arith, h))
least (suc steps) n f t i q p h = go (dec_lt 0 (lower n f t i)) (least steps n f t)
  where
    go : Dec (0 < lower n f t i) → ((j : ℕ) → j < n → t j ≡ true → f j ≤ steps → Least n f t) → Least n f t
    go (no r) rest = (i, q, p, lower_none n f t i r)
    go (yes r) rest = let x = lower_some n f t i r in rest x.0 x.1 x.2 (omega (arith, x.3))

-- ## From data intervals to all

-- the smallest data interval around what [s, e) holds
record Around (day : Day) (done : Progress) (s e : ℕ) : Type 0 where
  from : ℕ
  till : ℕ
  holding : Holding day done from till
  no_less : load day done s e ≤ load day done from till
  no_longer : len day done from till ≤ len day done s e

around : (day : Day) (done : Progress) (s e : ℕ) → 0 < load day done s e → Around day done s e
unfolding load len
around day done s e h =
    let p = day.packets in
    let g = done.packet in
    let t : ℕ → Bool = λ i. unassigned (g i) && inside p s e i in
    let x = left_some p g s e h in
    let a : Least p.count p.from t = least (p.from x.0) p.count p.from t x.0 x.1 (both_true x.2 x.3) (le_refl _) in
    let b : Least p.count (λ i. e - p.till i) t =
    least (e - p.till x.0) p.count (λ i. e - p.till i) t x.0 x.1 (both_true x.2 x.3) (le_refl _) in
    let ai = inside_true p s e a.0 (both (unassigned (g a.0)) (inside p s e a.0) a.2).1 in
    let bi = inside_true p s e b.0 (both (unassigned (g b.0)) (inside p s e b.0) b.2).1 in
    let more : left p g s e ≤ left p g (p.from a.0) (p.till b.0) =
    left_within p g s e (p.from a.0) (p.till b.0) (λ i q u v.
    let w = inside_true p s e i v in
    inside_is p (p.from a.0) (p.till b.0) i (a.3 i q (both_true u v))
    (omega (arith, b.3 i q (both_true u v), w.1, bi.1))) in
    record {
      from = p.from a.0;
      till = p.till b.0;
      holding =
          record {
            data_interval = record { starter = a.0; starts = a.1; start = refl; ender = b.0; ends = b.1; end = refl };
            holds = le_trans h more;
          };
      no_less = more;
      no_longer = left_wider day.epochs done.epoch (p.from a.0) (p.till b.0) s e ai.0 bi.1;
    }

-- a densest holding bounds the load of every interval by its own
densest_bounds : (day : Day) (done : Progress) (s e : ℕ) → Densest day done s e → (s' e' : ℕ)
    → load day done s' e' * len day done s e ≤ load day done s e * len day done s' e'
densest_bounds day done s e best s' e' = go (dec_lt 0 (load day done s' e'))
  where
    go : Dec (0 < load day done s' e') → load day done s' e' * len day done s e ≤ load day done s e * len day done s' e'
    go (no h) =
        omega (arith, ap (λ (x : ℕ). x * len day done s e) (none_above (load day done s' e') h))
    go (yes h) =
        let a = around day done s' e' h in
        omega (
          arith,
          best.densest a.from a.till a.holding,
          mul-le-mul_right (len day done s e) a.no_less,
          mul-le-mul_left (load day done s e) a.no_longer,
        )

-- the density of a densest holding in lowest terms bounds the state
pub lowest_bounds : (day : Day) (done : Progress) (s e : ℕ) → 0 < len day done s e → Densest day done s e
    → Bounded day done (lowest_n (load day done s e) (len day done s e)) (lowest_d (load day done s e) (len day done s e))
lowest_bounds day done s e pos best s' e' =
    let l = load day done s e in
    let m = len day done s e in
    le_of_mul-le-mul_right {k = gcd l m}
    (omega (
      arith,
      densest_bounds day done s e best s' e',
      ap (λ (x : ℕ). load day done s' e' * x) (length_is l m),
      ap (λ (x : ℕ). x * len day done s' e') (load_is l m),
    ))
    (gcd_positive l m pos)

-- ## Hull

-- an epoch of the hull of two intervals that meet, divided by neither end of the first, lies in one of them
split : (s e s' e' p q : ℕ) → (s ≤ p) ⊎ (q ≤ s) → (e ≤ p) ⊎ (q ≤ e) → p < q → s' < e → s < e'
    → min s s' ≤ p → q ≤ max e e' → ((s ≤ p) × (q ≤ e)) ⊎ ((s' ≤ p) × (q ≤ e'))
split s e s' e' p q (inl a) (inl b) w m m' x y = inr (omega arith)
split s e s' e' p q (inl a) (inr b) w m m' x y = inl (omega arith)
split s e s' e' p q (inr a) (inl b) w m m' x y = inr (omega arith)
split s e s' e' p q (inr a) (inr b) w m m' x y = inr (omega arith)

module _ (day : Day) (proper : Proper day) (done : Progress) (s e n d : ℕ) (data_interval : DataInterval day s e) (tight : load day done s e * d ≡ n * len day done s e) (bounded : Bounded day done n d) where
  -- an epoch of the hull lies in one of the two
  epoch_split : (s' e' : ℕ) → s' < e → s < e' → (k : ℕ) → k < day.epochs.count → inside day.epochs (min s s') (max e e') k ≡ true
      → (inside day.epochs s e k ≡ true) ⊎ (inside day.epochs s' e' k ≡ true)
  epoch_split s' e' m m' k h i =
      let b = inside_true day.epochs (min s s') (max e e') k i in
      go (split s e s' e' (day.epochs.from k) (day.epochs.till k)
      (subst (λ (x : ℕ). (x ≤ day.epochs.from k) ⊎ (day.epochs.till k ≤ x)) data_interval.start (proper.arrivals data_interval.starter k data_interval.starts h))
      (subst (λ (x : ℕ). (x ≤ day.epochs.from k) ⊎ (day.epochs.till k ≤ x)) data_interval.end (proper.deadlines data_interval.ender k data_interval.ends h))
      (proper.epoch k h) m m' b.0 b.1)
    where
      go : ((s ≤ day.epochs.from k) × (day.epochs.till k ≤ e)) ⊎ ((s' ≤ day.epochs.from k) × (day.epochs.till k ≤ e'))
          → (inside day.epochs s e k ≡ true) ⊎ (inside day.epochs s' e' k ≡ true)
      go (inl (p, q)) = inl (inside_is day.epochs s e k p q)
      go (inr (p, q)) = inr (inside_is day.epochs s' e' k p q)

  -- an interval that meets [s, e)
  meets : (n' d' s' e' : ℕ) → s' < e → s < e'
      → load day (give_rate day done s e n' d') s' e' * d ≤ n * len day (give_rate day done s e n' d') s' e'
  unfolding load len give_rate
  meets n' d' s' e' m m' =
      let more = hull_more day.packets done.packet s e n' d' s' e' (min s s') (max e e') (omega arith) (omega arith) (omega arith) (omega arith) in
      let less = hull_less day.epochs done.epoch s e n' d' s' e' (min s s') (max e e') (epoch_split s' e' m m') in
      omega (arith, tight, bounded (min s s') (max e e'), mul-le-mul_right d more, mul-le-mul_left n less)

  -- an interval apart from [s, e)
  apart : (n' d' s' e' : ℕ) → (e ≤ s') ⊎ (e' ≤ s)
      → load day (give_rate day done s e n' d') s' e' * d ≤ n * len day (give_rate day done s e n' d') s' e'
  unfolding load len give_rate
  apart n' d' s' e' away =
      let fewer = left_fewer day.packets done.packet s e n' d' s' e' in
      let same = left_apart day.epochs done.epoch s e n' d' s' e' (λ k h i. outside k h i (inside day.epochs s e k) refl) in
      omega (arith, bounded s' e', mul-le-mul_right d fewer, mul-le-mul_left n same)
    where
      never : (k : ℕ) → k < day.epochs.count → inside day.epochs s' e' k ≡ true → inside day.epochs s e k ≡ true → (e ≤ s') ⊎ (e' ≤ s) → ⊥
      never k h i j (inl a) = omega (arith, inside_true day.epochs s' e' k i, inside_true day.epochs s e k j, proper.epoch k h)
      never k h i j (inr a) = omega (arith, inside_true day.epochs s' e' k i, inside_true day.epochs s e k j, proper.epoch k h)

      outside : (k : ℕ) → k < day.epochs.count → inside day.epochs s' e' k ≡ true → (b : Bool) → inside day.epochs s e k ≡ b → b ≡ false
      outside k h i true j = absurd (never k h i j away)
      outside k h i false j = refl

  -- bounded by N/D and tight in [s, e): bounded by N/D when [s, e) has been taken
  pub hull : (n' d' : ℕ) → Bounded day (give_rate day done s e n' d') n d
  hull n' d' s' e' = go (dec_lt s' e) (dec_lt s e')
    where
      go : Dec (s' < e) → Dec (s < e') → load day (give_rate day done s e n' d') s' e' * d ≤ n * len day (give_rate day done s e n' d') s' e'
      go (yes m) (yes m') = meets n' d' s' e' m m'
      go (yes m) (no m') = apart n' d' s' e' (inr (omega (arith, m')))
      go (no m) b = apart n' d' s' e' (inl (omega (arith, m)))
