-- What a sweep carries is what the definition measures: the bytes due by a deadline are the load up to it, and the seconds left between two places are
-- the length between their points. Points rise, so that places stand to each other as their points do. Assumes nothing.
use Prim.Native.Nat.{ℕ, zero, suc, ◌+◌, ◌-◌, ◌<◌, ◌≤◌}
use mathlib.Core.Path.{◌≡◌, refl, sym, ap, ◌∙◌}
use mathlib.Core.Bool.{Bool, true, false, ◌&&◌}
use mathlib.Core.List.{List}
use native.Mathlib.Omega.{arith}
use native.Mathlib.Decide.{dec_lt, ℕ_discrete}
use lib.ListN.{get_or}
use lib.Dec.{leb, ltb}
use borrow.Author.Tests.{lt-ltb, le-ltb, le-leb, lt-leb}
use Rattle.policy.specs.Windows.{unassigned, inside, only_if, left, sum}
use Rattle.policy.specs.Rounds.{Day, Progress, load, len}
use Rattle.policy.specs.Steps.{counted_from}
use Rattle.policy.proofs.Sums.{sum_eq, sum_cut}

-- the packets of the day, and what is left of them
pub record PacketsLeft (day : Day) (done : Progress) (count : ℕ) (from till rest : ℕ → ℕ) : Type 0 where
  pub count_is : count ≡ day.packets.count
  pub from_is : (i : ℕ) → i < count → from i ≡ day.packets.from i
  pub till_is : (i : ℕ) → i < count → till i ≡ day.packets.till i
  pub rest_is : (i : ℕ) → i < count → rest i ≡ only_if (unassigned (done.packet i)) (day.packets.weight i)

-- the points, the epochs of the day between them, and what is left of these
pub record EpochsLeft (day : Day) (done : Progress) (n : ℕ) (points : List ℕ) (room : ℕ → ℕ) : Type 0 where
  pub n_is : n ≡ suc day.epochs.count
  pub rising : (j k : ℕ) → j < k → k < n → get_or points j 0 < get_or points k 0
  pub epoch_from : (k : ℕ) → k < day.epochs.count → get_or points k 0 ≡ day.epochs.from k
  pub epoch_till : (k : ℕ) → k < day.epochs.count → get_or points (suc k) 0 ≡ day.epochs.till k
  pub room_is : (k : ℕ) → k < day.epochs.count → room k ≡ only_if (unassigned (done.epoch k)) (day.epochs.weight k)

-- a longer sum is not less
pub sum_up : (f : ℕ → ℕ) (a b : ℕ) → a ≤ b → sum a f ≤ sum b f
unfolding sum
sum_up f zero zero h = omega arith
sum_up f (suc a) zero h = absurd (omega arith)
sum_up f a (suc b) h = go (ℕ_discrete a (suc b)) (sum_up f a b)
  where
    go : Dec (a ≡ suc b) → (a ≤ b → sum a f ≤ sum b f) → sum a f ≤ sum b f + f b
    go (yes e) rest = let q : sum a f ≡ sum b f + f b = rw e refl in omega (arith, q)
    go (no e) rest = omega (arith, rest (omega (arith, e)))

-- the terms from a on are all terms less the first a
sum_from : (f : ℕ → ℕ) (a b : ℕ) → sum b (λ k. only_if (ltb a (suc k)) (f k)) ≡ sum b f - sum a f
sum_from f a zero = let z : sum 0 f ≡ 0 = unfold sum in refl in unfold sum in omega (arith, z)
sum_from f a (suc b) = go (dec_lt a (suc b)) (sum_from f a b)
  where
    one : sum (suc b) f ≡ sum b f + f b
    one = unfold sum in refl

    go : Dec (a < suc b) → sum b (λ k. only_if (ltb a (suc k)) (f k)) ≡ sum b f - sum a f
        → sum (suc b) (λ k. only_if (ltb a (suc k)) (f k)) ≡ sum (suc b) f - sum a f
    go (yes p) h =
        unfold sum in
        (ap (λ (x : ℕ). x + only_if (ltb a (suc b)) (f b)) h ∙
        rw (lt-ltb a (suc b) p) (unfold only_if in omega (arith, sum_up f a b (omega (arith, p)))))
    go (no p) h =
        unfold sum in
        (ap (λ (x : ℕ). x + only_if (ltb a (suc b)) (f b)) h ∙
        rw (le-ltb a (suc b) (omega (arith, p))) (unfold only_if in omega (arith, sum_up f (suc b) a (omega (arith, p)), one)))

-- three tests in one
three : (t a u : Bool) (v : ℕ) → only_if t (only_if a (only_if u v)) ≡ only_if (u && (a && t)) v
unfolding only_if
three true true true v = refl
three true true false v = refl
three true false true v = refl
three true false false v = refl
three false true true v = refl
three false true false v = refl
three false false true v = refl
three false false false v = refl

two : (a u : Bool) (v : ℕ) → only_if a (only_if u v) ≡ only_if (u && (a && true)) v
unfolding only_if
two true true v = refl
two true false v = refl
two false true v = refl
two false false v = refl

-- the bytes of the packets that are due by e and arrive from s on are the load
pub load_carried : (day : Day) (done : Progress) (count : ℕ) (from till rest : ℕ → ℕ) → PacketsLeft day done count from till rest → (s e : ℕ)
    → sum count (λ i. only_if (leb (till i) e) (counted_from s (from i) (rest i))) ≡ load day done s e
unfolding load left counted_from inside
load_carried day done count from till rest p s e =
    sum_eq count _ _ one ∙
    ap (λ (k : ℕ). sum k (λ i. only_if (unassigned (done.packet i) && (leb s (day.packets.from i) && leb (day.packets.till i) e)) (day.packets.weight i)))
    p.count_is
  where
    one : (i : ℕ) → i < count
        → only_if (leb (till i) e) (only_if (leb s (from i)) (rest i))
        ≡ only_if (unassigned (done.packet i) && (leb s (day.packets.from i) && leb (day.packets.till i) e)) (day.packets.weight i)
    one i q =
        rw (p.till_is i q, p.from_is i q, p.rest_is i q)
        (three (leb (day.packets.till i) e) (leb s (day.packets.from i)) (unassigned (done.packet i)) (day.packets.weight i))

module _ (day : Day) (done : Progress) (n : ℕ) (points : List ℕ) (room : ℕ → ℕ) (ground : EpochsLeft day done n points room) where
  -- a place is not after another exactly where its point is not
  place_le : (j k : ℕ) → j < n → k < n → ltb j (suc k) ≡ leb (get_or points j 0) (get_or points k 0)
  place_le j k h g = go (dec_lt j (suc k))
    where
      go : Dec (j < suc k) → ltb j (suc k) ≡ leb (get_or points j 0) (get_or points k 0)
      go (yes p) = lt-ltb j (suc k) p ∙ sym (le-leb _ _ (upto (ℕ_discrete j k)))
        where
          upto : Dec (j ≡ k) → get_or points j 0 ≤ get_or points k 0
          upto (yes e) = omega (arith, ap (λ (i : ℕ). get_or points i 0) e)
          upto (no e) = omega (arith, ground.rising j k (omega (arith, e)) g)
      go (no p) = le-ltb j (suc k) (omega (arith, p)) ∙ sym (lt-leb _ _ (ground.rising k j (omega (arith, p)) h))

  -- the seconds left between two places are the length between their points
  pub len_carried : (a b : ℕ) → a < n → b < n → sum b room - sum a room ≡ len day done (get_or points a 0) (get_or points b 0)
  unfolding len left inside
  len_carried a b g h =
      sym (sum_from room a b) ∙
      sum_eq b _ _ passed ∙
      sym (sum_cut day.epochs.count b
      (λ k. only_if (unassigned (done.epoch k) && (leb (get_or points a 0) (day.epochs.from k) && leb (day.epochs.till k) (get_or points b 0))) (day.epochs.weight k))
      (omega (arith, ground.n_is)) ahead)
    where
      passed : (k : ℕ) → k < b
          → only_if (ltb a (suc k)) (room k)
          ≡ only_if (unassigned (done.epoch k) && (leb (get_or points a 0) (day.epochs.from k) && leb (day.epochs.till k) (get_or points b 0))) (day.epochs.weight k)
      passed k q =
          let r : k < day.epochs.count = omega (arith, ground.n_is) in
          rw (
            place_le a k g (omega arith),
            ground.epoch_from k r,
            ground.room_is k r,
            ← (ground.epoch_till k r),
            ← (place_le (suc k) b (omega arith) h),
            lt-ltb (suc k) (suc b) (omega arith),
          )
          (two (leb (get_or points a 0) (day.epochs.from k)) (unassigned (done.epoch k)) (day.epochs.weight k))

      ahead : (k : ℕ) → b ≤ k → k < day.epochs.count
          → only_if (unassigned (done.epoch k) && (leb (get_or points a 0) (day.epochs.from k) && leb (day.epochs.till k) (get_or points b 0))) (day.epochs.weight k) ≡ 0
      ahead k p q =
          rw (← (ground.epoch_till k q), ← (place_le (suc k) b (omega (arith, ground.n_is)) h), le-ltb (suc k) (suc b) (omega arith))
          (nothing (unassigned (done.epoch k)) (leb (get_or points a 0) (day.epochs.from k)) (day.epochs.weight k))
        where
          nothing : (u a : Bool) (v : ℕ) → only_if (u && (a && false)) v ≡ 0
          nothing true true v = unfold only_if in refl
          nothing true false v = unfold only_if in refl
          nothing false a v = unfold only_if in refl
