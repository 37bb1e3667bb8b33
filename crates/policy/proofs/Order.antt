-- The order of the rule over plain figures: load (bytes), length (seconds), start and end (seconds) of two intervals. It is total and, where lengths are
-- above zero, transitive: cross products are multiplied by the third length, which is then cancelled. Assumes nothing.
use Prim.Native.Nat.{ℕ, ◌*◌, ◌<◌, ◌≤◌}
use mathlib.Core.Path.{◌≡◌, refl, sym, ap}
use mathlib.Core.Bool.{Bool, true, false, ◌&&◌, ◌||◌}
use mathlib.Core.Logic.{◌⊎◌, inl, inr}
use native.Mathlib.Omega.{arith}
use native.Mathlib.Decide.{dec_le}
use native.Mathlib.Nat.{mul-le-mul_right, eq_of_mul-eq-mul_right, lt_of_mul-lt-mul_right}
use lib.Dec.{eqb, ltb}
use borrow.Author.Tests.{ltb-true, eqb-true, lt-ltb, le-ltb, eq-eqb, ne_eqb}
use Rattle.policy.specs.Rounds.{ahead}
use Rattle.policy.proofs.Left.{both, not_both_ways}

-- an interval with its load and length
pub record Figures : Type 0 where
  pub start : ℕ
  pub end : ℕ
  pub load : ℕ
  pub len : ℕ

-- the first comes before the second
abbrev pub Ahead : Figures → Figures → Type 0
Ahead x y =
    (y.load * x.len < x.load * y.len) ⊎
    ((y.load * x.len ≡ x.load * y.len) × ((x.start < y.start) ⊎ ((x.start ≡ y.start) × (y.end < x.end))))

-- the first does not come before the second
abbrev pub Behind : Figures → Figures → Type 0
Behind x y =
    (x.load * y.len < y.load * x.len) ⊎
    ((y.load * x.len ≡ x.load * y.len) × ((y.start < x.start) ⊎ ((x.start ≡ y.start) × (x.end ≤ y.end))))

-- the rule as a test
abbrev pub before : Figures → Figures → Bool
before x y = ahead x.load x.len x.start x.end y.load y.len y.start y.end

either : (a b : Bool) → (a || b) ≡ true → (a ≡ true) ⊎ (b ≡ true)
either true b h = inl refl
either false b h = inr h

rule_true : (a b c d f : Bool) → (a ≡ true) ⊎ ((b ≡ true) × ((c ≡ true) ⊎ ((d ≡ true) × (f ≡ true)))) → (a || (b && (c || (d && f)))) ≡ true
rule_true true b c d f h = refl
rule_true false b c d f (inl p) = absurd (not_both_ways p refl)
rule_true false b c d f (inr (p, inl q)) = rw (p, q) refl
rule_true false b true d f (inr (p, inr (q, r))) = rw p refl
rule_true false b false d f (inr (p, inr (q, r))) = rw (p, q, r) refl

pub before_ahead : (x y : Figures) → before x y ≡ true → Ahead x y
before_ahead x y h = go (either _ _ h)
  where
    tie : (ltb x.start y.start ≡ true) ⊎ ((eqb x.start y.start && ltb y.end x.end) ≡ true)
        → (x.start < y.start) ⊎ ((x.start ≡ y.start) × (y.end < x.end))
    tie (inl p) = inl (ltb-true _ _ p)
    tie (inr p) = let b = both (eqb x.start y.start) (ltb y.end x.end) p in inr (eqb-true _ _ b.0, ltb-true _ _ b.1)

    go : (ltb (y.load * x.len) (x.load * y.len) ≡ true) ⊎
        ((eqb (y.load * x.len) (x.load * y.len) && (ltb x.start y.start || (eqb x.start y.start && ltb y.end x.end))) ≡ true)
        → Ahead x y
    go (inl p) = inl (ltb-true _ _ p)
    go (inr p) =
        let b = both (eqb (y.load * x.len) (x.load * y.len)) (ltb x.start y.start || (eqb x.start y.start && ltb y.end x.end)) p in
        inr (eqb-true _ _ b.0, tie (either _ _ b.1))

-- not to be both before and not
clash : (x y : Figures) → Ahead x y → Behind x y → ⊥
clash x y (inl p) (inl q) = omega arith
clash x y (inl p) (inr q) = omega (arith, q.0)
clash x y (inr p) (inl q) = omega (arith, p.0)
clash x y (inr (p, inl a)) (inr (q, inl b)) = omega arith
clash x y (inr (p, inl a)) (inr (q, inr (b, c))) = omega arith
clash x y (inr (p, inr (a, c))) (inr (q, inl b)) = omega arith
clash x y (inr (p, inr (a, c))) (inr (q, inr (b, f))) = omega arith

pub behind_before : (x y : Figures) → Behind x y → before x y ≡ false
behind_before x y h = go (before x y) refl
  where
    go : (b : Bool) → before x y ≡ b → b ≡ false
    go false p = refl
    go true p = absurd (clash x y (before_ahead x y p) h)

-- the order is total
pub ahead_or_behind : (x y : Figures) → Ahead x y ⊎ Behind x y
ahead_or_behind x y = go (dec_le (x.load * y.len) (y.load * x.len)) (dec_le (y.load * x.len) (x.load * y.len))
  where
    ends : y.load * x.len ≡ x.load * y.len → x.start ≡ y.start → Dec (x.end ≤ y.end) → Ahead x y ⊎ Behind x y
    ends p q (yes r) = inr (inr (p, inr (q, r)))
    ends p q (no r) = inl (inr (p, inr (q, omega (arith, r))))

    starts : y.load * x.len ≡ x.load * y.len → Dec (x.start ≤ y.start) → Dec (y.start ≤ x.start) → Ahead x y ⊎ Behind x y
    starts p (yes a) (yes b) = ends p (omega arith) (dec_le x.end y.end)
    starts p (yes a) (no b) = inl (inr (p, inl (omega (arith, b))))
    starts p (no a) b = inr (inr (p, inl (omega (arith, a))))

    go : Dec (x.load * y.len ≤ y.load * x.len) → Dec (y.load * x.len ≤ x.load * y.len) → Ahead x y ⊎ Behind x y
    go (yes a) (yes b) = starts (omega arith) (dec_le x.start y.start) (dec_le y.start x.start)
    go (yes a) (no b) = inr (inl (omega (arith, b)))
    go (no a) b = inl (inl (omega (arith, a)))

pub ahead_before : (x y : Figures) → Ahead x y → before x y ≡ true
ahead_before x y h =
    rule_true (ltb (y.load * x.len) (x.load * y.len)) (eqb (y.load * x.len) (x.load * y.len))
    (ltb x.start y.start) (eqb x.start y.start) (ltb y.end x.end) (go h)
  where
    go : Ahead x y
        → (ltb (y.load * x.len) (x.load * y.len) ≡ true) ⊎
        ((eqb (y.load * x.len) (x.load * y.len) ≡ true) ×
        ((ltb x.start y.start ≡ true) ⊎ ((eqb x.start y.start ≡ true) × (ltb y.end x.end ≡ true))))
    go (inl p) = inl (lt-ltb _ _ p)
    go (inr (p, inl a)) = inr (eq-eqb _ _ p, inl (lt-ltb _ _ a))
    go (inr (p, inr (a, c))) = inr (eq-eqb _ _ p, inr (eq-eqb _ _ a, lt-ltb _ _ c))

pub before_behind : (x y : Figures) → before x y ≡ false → Behind x y
before_behind x y h = go (ahead_or_behind x y)
  where
    go : Ahead x y ⊎ Behind x y → Behind x y
    go (inl p) = absurd (not_both_ways (ahead_before x y p) h)
    go (inr p) = p

pub ahead_behind : (x y : Figures) → Ahead x y → Behind y x
ahead_behind x y (inl p) = inl p
ahead_behind x y (inr (p, inl a)) = inr (sym p, inl a)
ahead_behind x y (inr (p, inr (a, c))) = inr (sym p, inr (sym a, omega arith))

pub behind_self : (x : Figures) → Behind x x
behind_self x = inr (refl, inr (refl, omega arith))

-- what does not come before y, which does not come before z, does not come before z
pub behind_trans : (x y z : Figures) → 0 < x.len → 0 < y.len → 0 < z.len → Behind x y → Behind y z → Behind x z
behind_trans x y z hx hy hz (inl p) (inl q) =
    inl (lt_of_mul-lt-mul_right y.len (omega (arith, mul-le-mul_right z.len p, mul-le-mul_right x.len q)))
behind_trans x y z hx hy hz (inl p) (inr (q, t)) =
    inl (lt_of_mul-lt-mul_right y.len (omega (arith, mul-le-mul_right z.len p, ap (λ (k : ℕ). k * x.len) q)))
behind_trans x y z hx hy hz (inr (p, t)) (inl q) =
    inl (lt_of_mul-lt-mul_right y.len (omega (arith, ap (λ (k : ℕ). k * z.len) p, mul-le-mul_right x.len q)))
behind_trans x y z hx hy hz (inr (p, t)) (inr (q, r)) = inr (same, ties t r)
  where
    same : z.load * x.len ≡ x.load * z.len
    same =
        eq_of_mul-eq-mul_right y.len hy (z.load * x.len) (x.load * z.len)
        (omega (arith, ap (λ (k : ℕ). k * z.len) p, ap (λ (k : ℕ). k * x.len) q))

    ties : (y.start < x.start) ⊎ ((x.start ≡ y.start) × (x.end ≤ y.end))
        → (z.start < y.start) ⊎ ((y.start ≡ z.start) × (y.end ≤ z.end))
        → (z.start < x.start) ⊎ ((x.start ≡ z.start) × (x.end ≤ z.end))
    ties (inl a) (inl b) = inl (omega arith)
    ties (inl a) (inr (b, c)) = inl (omega arith)
    ties (inr (a, c)) (inl b) = inl (omega arith)
    ties (inr (a, c)) (inr (b, f)) = inr (omega arith)

-- two that each do not come before the other are one interval
pub behind_both : (x y : Figures) → Behind x y → Behind y x → (x.start ≡ y.start) × (x.end ≡ y.end)
behind_both x y (inl p) (inl q) = absurd (omega arith)
behind_both x y (inl p) (inr (q, t)) = absurd (omega arith)
behind_both x y (inr (p, t)) (inl q) = absurd (omega arith)
behind_both x y (inr (p, inl a)) (inr (q, inl b)) = absurd (omega arith)
behind_both x y (inr (p, inl a)) (inr (q, inr (b, c))) = absurd (omega arith)
behind_both x y (inr (p, inr (a, c))) (inr (q, inl b)) = absurd (omega arith)
behind_both x y (inr (p, inr (a, c))) (inr (q, inr (b, f))) = (a, omega arith)

-- what does not come before has no larger density
pub behind_density : (x y : Figures) → Behind x y → x.load * y.len ≤ y.load * x.len
behind_density x y (inl p) = omega arith
behind_density x y (inr (p, t)) = omega arith

-- densities that differ decide
pub denser_first : (x y : Figures) → (y.load * x.len ≡ x.load * y.len → ⊥) → ltb (y.load * x.len) (x.load * y.len) ≡ before x y
denser_first x y p = rw (ne_eqb (y.load * x.len) (x.load * y.len) p) (alone (ltb (y.load * x.len) (x.load * y.len)))
  where
    alone : (a : Bool) → a ≡ (a || false)
    alone true = refl
    alone false = refl

-- equally dense: starts that differ decide
pub earlier_first : (x y : Figures) → y.load * x.len ≡ x.load * y.len → (x.start ≡ y.start → ⊥) → ltb x.start y.start ≡ before x y
earlier_first x y p q =
    rw (le-ltb (y.load * x.len) (x.load * y.len) (omega (arith, p)), eq-eqb (y.load * x.len) (x.load * y.len) p, ne_eqb x.start y.start q)
    (alone (ltb x.start y.start))
  where
    alone : (a : Bool) → a ≡ (a || false)
    alone true = refl
    alone false = refl

-- equally dense with one start: the ends decide
pub later_end_first : (x y : Figures) → y.load * x.len ≡ x.load * y.len → x.start ≡ y.start → ltb y.end x.end ≡ before x y
later_end_first x y p q =
    rw (
      le-ltb (y.load * x.len) (x.load * y.len) (omega (arith, p)),
      eq-eqb (y.load * x.len) (x.load * y.len) p,
      le-ltb x.start y.start (omega (arith, q)),
      eq-eqb x.start y.start q,
    ) refl
