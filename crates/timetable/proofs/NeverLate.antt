-- Earliest deadline first is never late, and fills every epoch that carries a rate. For a fraction N/D, the units unsent of its packets due by e are at
-- every event point at most N times the seconds of its epochs still to come up to e. Over an epoch both sides lose the same, or every packet due by e that has
-- arrived is finished, and `holds_inside` bounds what is to arrive. At the end nothing is unsent; and as no epoch takes more than it holds, each is full. Assumes nothing.
use Prim.Native.Nat.{ℕ, zero, suc, ◌+◌, ◌-◌, ◌*◌, ◌<◌, ◌≤◌}
use mathlib.Core.Path.{◌≡◌, refl, sym, ap, subst₂, ◌∙◌}
use mathlib.Core.Bool.{Bool, true, false, ◌&&◌}
use mathlib.Core.Logic.{◌⊎◌, inl, inr}
use native.Mathlib.Omega.{arith}
use native.Mathlib.Decide.{dec_le, ℕ_discrete}
use native.Mathlib.Nat.{le_trans, mul-le-mul_left}
use lib.Dec.{leb}
use borrow.Author.Tests.{le-leb, lt-leb, leb-true}
use Rattle.policy.specs.Windows.{Given, none, rate, inside, only_if, sum}
use Rattle.policy.specs.Rounds.{Day, Progress}
use Rattle.policy.specs.Runs.{Finished}
use Rattle.policy.specs.Carried.{carries, carried, carried_in_all}
use Rattle.policy.specs.Answer.{shown_d}
use Rattle.policy.proofs.Sums.{sum_eq, sum_le, sum_at, sum_none, sum_scale}
use Rattle.policy.proofs.Left.{both, both_true, not_both_ways, inside_true, inside_is, only_if_le}
use Rattle.policy.proofs.Carry.{carries_is, carries_same, is_carries}
use Rattle.policy.proofs.Proper.{Proper}
use Rattle.policy.proofs.Facts.{Facts, assigned}
use Rattle.timetable.specs.Entries.{Sheet, eligible, units_in, units_of, turns, begun, filled, sheet_at}
use Rattle.timetable.proofs.Turning.{differ, over}
use Rattle.timetable.proofs.Within.{same, due, Sending, sending, either_or}

-- what the argument asks of a day and its rates
pub record Rated (day : Day) (rates : Progress) : Type 0 where
  pub proper : Proper day
  pub facts : Facts day rates
  pub finished : Finished day rates
  -- epochs stand in time order, and their weights are their seconds
  pub rising : (j k : ℕ) → j < k → k < day.epochs.count → day.epochs.till j ≤ day.epochs.from k
  pub seconds : (k : ℕ) → k < day.epochs.count → day.epochs.weight k ≡ day.epochs.till k - day.epochs.from k

-- epoch j comes from epoch k on, carries N/D and ends by e
abbrev pub to_come : Day → Progress → ℕ → ℕ → ℕ → ℕ → ℕ → Bool
to_come day rates n d e k j = leb k j && (carries (rates.epoch j) n d && leb (day.epochs.till j) e)

-- the seconds of those
pub cap : Day → Progress → ℕ → ℕ → ℕ → ℕ → ℕ
cap day rates n d e k = sum day.epochs.count (λ j. only_if (to_come day rates n d e k j) (day.epochs.weight j))

only_in : (b : Bool) (x : ℕ) → b ≡ true → only_if b x ≡ x
unfolding only_if
only_in b x h = rw h refl

only_out : (b : Bool) (x : ℕ) → b ≡ false → only_if b x ≡ 0
unfolding only_if
only_out b x h = rw h refl

-- two fractions that differ are carried by no one at once
apart : (x : Given) (n d n' d' : ℕ) → carries (rate n d) n' d' ≡ false → carries x n' d' ≡ true → carries x n d ≡ false
apart x n d n' d' h p = go (carries x n d) refl
  where
    go : (b : Bool) → carries x n d ≡ b → b ≡ false
    go false q = refl
    go true q = absurd (not_both_ways (ap (λ (z : Given). carries z n' d') (sym (carries_is x n d q)) ∙ p) h)

-- terms that are not above others, and whose sum is not below theirs, are equal to them
pub sum_tight : (n : ℕ) (f g : ℕ → ℕ) → ((i : ℕ) → i < n → f i ≤ g i) → sum n g ≤ sum n f → (i : ℕ) → i < n → f i ≡ g i
unfolding sum
sum_tight zero f g h k i p = absurd (omega arith)
sum_tight (suc n) f g h k i p = go (ℕ_discrete i n) (λ (q : i < n). sum_tight n f g (λ j r. h j (omega arith)) (omega (arith, h n (omega arith))) i q)
  where
    go : Dec (i ≡ n) → (i < n → f i ≡ g i) → f i ≡ g i
    go (yes e) rest =
        ap f e ∙ (omega (arith, k, h n (omega arith), sum_le n f g (λ j r. h j (omega arith)))) ∙ ap g (sym e)
    go (no e) rest = rest (omega (arith, e))

module _ (day : Day) (rates : Progress) (r : Rated day rates) where
  units_are : (i n d : ℕ) → carries (rates.packet i) n d ≡ true → units_of day rates i ≡ day.packets.weight i * d
  unfolding units_of
  units_are i n d h = ap (λ (x : Given). day.packets.weight i * shown_d x) (carries_is (rates.packet i) n d h) ∙ (unfold shown_d in refl)

  units_in_lem : (k n : ℕ) → units_in day k n ≡ day.epochs.weight k * n
  units_in_lem k n = unfold units_in in refl

  -- packets that have not arrived by s are bounded by the epochs from s on
  to_arrive : (n d e s k : ℕ) (u : ℕ → ℕ) → ((i : ℕ) → u i ≤ units_of day rates i)
      → ((i : ℕ) → i < day.packets.count → same rates n d i ≡ true → day.packets.till i ≤ e → 0 < u i → s ≤ day.packets.from i)
      → ((j : ℕ) → j < day.epochs.count → s ≤ day.epochs.from j → k ≤ j)
      → over day.packets.count (due day rates n d e) u ≤ n * cap day rates n d e k
  unfolding over cap
  to_arrive n d e s k u most later from =
      le_trans bytes (le_trans (r.facts.holds_inside n d s e) (mul-le-mul_left n secs))
    where
      one : (i : ℕ) → i < day.packets.count → (b : Bool) → due day rates n d e i ≡ b → Dec (u i ≤ 0)
          → only_if b (u i) ≤ only_if (carries (rates.packet i) n d && inside day.packets s e i) (day.packets.weight i) * d
      one i h false p z = unfold only_if in omega arith
      one i h true p (yes z) = unfold only_if in omega (arith, z)
      one i h true p (no z) =
          let b = both (same rates n d i) (leb (day.packets.till i) e) p in
          let t = leb-true (day.packets.till i) e b.1 in
          let w = inside_is day.packets s e i (later i h b.0 t (omega (arith, z))) t in
          omega (
            arith,
            most i,
            units_are i n d b.0,
            only_in true (u i) refl,
            ap (λ (x : ℕ). x * d) (only_in (carries (rates.packet i) n d && inside day.packets s e i) (day.packets.weight i) (both_true b.0 w)),
          )

      bytes : sum day.packets.count (λ i. only_if (due day rates n d e i) (u i)) ≤ carried day.packets rates.packet n d s e * d
      bytes =
          unfold carried in
          rw (← (sum_scale day.packets.count (λ i. only_if (carries (rates.packet i) n d && inside day.packets s e i) (day.packets.weight i)) d))
          (sum_le day.packets.count (λ i. only_if (due day rates n d e i) (u i))
          (λ i. only_if (carries (rates.packet i) n d && inside day.packets s e i) (day.packets.weight i) * d)
          (λ i h. one i h (due day rates n d e i) refl (dec_le (u i) 0)))

      secs : carried day.epochs rates.epoch n d s e ≤ sum day.epochs.count (λ j. only_if (to_come day rates n d e k j) (day.epochs.weight j))
      secs =
          unfold carried in
          sum_le day.epochs.count _ _ λ j h.
          only_if_le (carries (rates.epoch j) n d && inside day.epochs s e j) (to_come day rates n d e k j) (day.epochs.weight j)
          λ t. let b = both (carries (rates.epoch j) n d) (inside day.epochs s e j) t in
          let w = inside_true day.epochs s e j b.1 in
          both_true (le-leb k j (from j h w.0)) (both_true b.0 (le-leb (day.epochs.till j) e w.1))

  -- the seconds to come, with and without epoch k
  cap_next : (n d e k : ℕ) → k < day.epochs.count
      → cap day rates n d e k ≡ cap day rates n d e (suc k) + only_if (carries (rates.epoch k) n d && leb (day.epochs.till k) e) (day.epochs.weight k)
  unfolding cap
  cap_next n d e k h =
      omega (
        arith,
        differ day.epochs.count (λ j. only_if (to_come day rates n d e (suc k) j) (day.epochs.weight j))
            (λ j. only_if (to_come day rates n d e k j) (day.epochs.weight j)) k h other,
        only_out (to_come day rates n d e (suc k) k) (day.epochs.weight k) (ap (λ (b : Bool). b && rest) (lt-leb (suc k) k (omega arith))),
        ap (λ (b : Bool). only_if (b && rest) (day.epochs.weight k)) (le-leb k k (omega arith)),
      )
    where
      rest : Bool
      rest = carries (rates.epoch k) n d && leb (day.epochs.till k) e

      other : (j : ℕ) → (j ≡ k → ⊥) → only_if (to_come day rates n d e (suc k) j) (day.epochs.weight j) ≡ only_if (to_come day rates n d e k j) (day.epochs.weight j)
      other j q = go (dec_le k j)
        where
          go : Dec (k ≤ j) → only_if (to_come day rates n d e (suc k) j) (day.epochs.weight j) ≡ only_if (to_come day rates n d e k j) (day.epochs.weight j)
          go (yes z) = rw (le-leb (suc k) j (omega (arith, z, q)), le-leb k j z) refl
          go (no z) = rw (lt-leb (suc k) j (omega (arith, z)), lt-leb k j (omega (arith, z))) refl

  -- no epoch from k on ends by the start of k
  cap_past : (n d k : ℕ) → k < day.epochs.count → cap day rates n d (day.epochs.from k) k ≡ 0
  unfolding cap
  cap_past n d k h = sum_none day.epochs.count _ λ j q. only_out (to_come day rates n d (day.epochs.from k) k j) (day.epochs.weight j) (go j q (to_come day rates n d (day.epochs.from k) k j) refl)
    where
      late : (j : ℕ) → j < day.epochs.count → k ≤ j → Dec (k ≡ j) → day.epochs.from k < day.epochs.till j
      late j q z (yes e) = omega (arith, r.proper.epoch j q, ap day.epochs.from e)
      late j q z (no e) = omega (arith, r.proper.epoch j q, r.proper.epoch k h, r.rising k j (omega (arith, z, e)) q)

      go : (j : ℕ) → j < day.epochs.count → (b : Bool) → to_come day rates n d (day.epochs.from k) k j ≡ b → b ≡ false
      go j q false p = refl
      go j q true p =
          let a = both (leb k j) _ p in
          let b = both (carries (rates.epoch j) n d) (leb (day.epochs.till j) (day.epochs.from k)) a.1 in
          absurd (omega (arith, late j q (leb-true k j a.0) (ℕ_discrete k j), leb-true (day.epochs.till j) (day.epochs.from k) b.1))

  -- no epoch from the last on
  cap_end : (n d e : ℕ) → cap day rates n d e day.epochs.count ≡ 0
  unfolding cap
  cap_end n d e =
      sum_none day.epochs.count _ λ j q. only_out (to_come day rates n d e day.epochs.count j) (day.epochs.weight j)
      (ap (λ (b : Bool). b && (carries (rates.epoch j) n d && leb (day.epochs.till j) e)) (lt-leb day.epochs.count j q))

  -- ## At every event point

  pub record OnTime (k : ℕ) (s : Sheet) : Type 0 where
    pub most : (i : ℕ) → s.unsent i ≤ units_of day rates i
    pub in_time : (n d e : ℕ) → over day.packets.count (due day rates n d e) s.unsent ≤ n * cap day rates n d e k

  over_le : (test : ℕ → Bool) (u v : ℕ → ℕ) → ((i : ℕ) → u i ≤ v i) → over day.packets.count test u ≤ over day.packets.count test v
  unfolding over
  over_le test u v h = sum_le day.packets.count _ _ λ i q. go (test i) i
    where
      go : (b : Bool) (i : ℕ) → only_if b (u i) ≤ only_if b (v i)
      go true i = unfold only_if in h i
      go false i = unfold only_if in omega arith

  over_at : (test : ℕ → Bool) (u : ℕ → ℕ) (i : ℕ) → i < day.packets.count → test i ≡ true → u i ≤ over day.packets.count test u
  unfolding over
  over_at test u i h t =
      omega (arith, only_in (test i) (u i) t, sum_at day.packets.count (λ j. only_if (test j) (u j)) i h)

  module _ (k : ℕ) (k_is : k < day.epochs.count) (s : Sheet) (on : OnTime k s) where
    -- a packet whose deadline has come is finished
    expired : (n d i : ℕ) → i < day.packets.count → same rates n d i ≡ true → day.packets.till i ≤ day.epochs.from k → s.unsent i ≡ 0
    expired n d i h p t =
        omega (
          arith,
          over_at (due day rates n d (day.epochs.from k)) s.unsent i h (both_true p (le-leb (day.packets.till i) (day.epochs.from k) t)),
          on.in_time n d (day.epochs.from k),
          ap (λ (x : ℕ). n * x) (cap_past n d k k_is),
        )

    -- the fraction of epoch k
    this_rate : (n d e : ℕ) → rates.epoch k ≡ rate n d → day.epochs.till k ≤ e
        → over day.packets.count (due day rates n d e) (turns day rates k n d day.packets.count (begun s)).unsent ≤ n * cap day rates n d e (suc k)
    this_rate n d e p t = go (turns day rates k n d day.packets.count (begun s)) (sending day rates k n d s) (either_or day rates k n d s e)
      where
        here : cap day rates n d e k ≡ cap day rates n d e (suc k) + day.epochs.weight k
        here =
            cap_next n d e k k_is ∙
            ap (λ (x : ℕ). cap day rates n d e (suc k) + x)
            (only_in _ (day.epochs.weight k) (both_true (is_carries (rates.epoch k) n d p) (le-leb (day.epochs.till k) e t)))

        later : (j : ℕ) → j < day.epochs.count → day.epochs.till k ≤ day.epochs.from j → k < j
        later j q h = at (dec_le j k)
          where
            at : Dec (j ≤ k) → k < j
            at (no z) = omega (arith, z)
            at (yes z) = absurd (off (ℕ_discrete j k))
              where
                off : Dec (j ≡ k) → ⊥
                off (yes w) = omega (arith, h, r.proper.epoch k k_is, ap day.epochs.from w)
                off (no w) = omega (arith, h, r.proper.epoch j q, r.proper.epoch k k_is, r.rising j k (omega (arith, z, w)) k_is)

        go : (z : Sheet) → Sending day rates k n d s.unsent z
            → (over day.packets.count (due day rates n d e) z.unsent + units_in day k n ≡ over day.packets.count (due day rates n d e) s.unsent)
            ⊎ ((i : ℕ) → i < day.packets.count → eligible day rates k n d i ≡ true → day.packets.till i ≤ e → z.unsent i ≡ 0)
            → over day.packets.count (due day rates n d e) z.unsent ≤ n * cap day rates n d e (suc k)
        go z w (inl h) = omega (arith, h, units_in_lem k n, on.in_time n d e, ap (λ (x : ℕ). n * x) here)
        go z w (inr h) =
            to_arrive n d e (day.epochs.till k) (suc k) z.unsent (λ i. le_trans (w.fewer i) (on.most i)) arrives later
          where
            arrives : (i : ℕ) → i < day.packets.count → same rates n d i ≡ true → day.packets.till i ≤ e → 0 < z.unsent i
                → day.epochs.till k ≤ day.packets.from i
            arrives i q m g some = at (r.proper.arrivals i k q k_is) (r.proper.deadlines i k q k_is)
              where
                at : (day.packets.from i ≤ day.epochs.from k) ⊎ (day.epochs.till k ≤ day.packets.from i)
                    → (day.packets.till i ≤ day.epochs.from k) ⊎ (day.epochs.till k ≤ day.packets.till i)
                    → day.epochs.till k ≤ day.packets.from i
                at (inr x) y = x
                at (inl x) (inl y) = absurd (omega (arith, some, w.fewer i, expired n d i q m y))
                at (inl x) (inr y) =
                    let m' : eligible day rates k n d i ≡ true =
                    unfold eligible in both_true m (inside_is day.epochs (day.packets.from i) (day.packets.till i) k x y) in
                    absurd (omega (arith, some, h i q m' g))

    -- any other, or an epoch that ends after e
    untouched : (n d e : ℕ) (u : ℕ → ℕ) → ((i : ℕ) → u i ≤ s.unsent i) → (carries (rates.epoch k) n d && leb (day.epochs.till k) e) ≡ false
        → over day.packets.count (due day rates n d e) u ≤ n * cap day rates n d e (suc k)
    untouched n d e u fewer h =
        omega (
          arith,
          over_le (due day rates n d e) u s.unsent fewer,
          on.in_time n d e,
          ap (λ (x : ℕ). n * x) (cap_next n d e k k_is),
          ap (λ (x : ℕ). n * x) (only_out _ (day.epochs.weight k) h),
        )

    next : (x : Given) → rates.epoch k ≡ x → OnTime (suc k) (filled day rates k x s)
    unfolding filled
    next none p =
        record {
          most = unfold begun in on.most;
          in_time = λ n d e. unfold begun in untouched n d e s.unsent (λ i. omega arith)
              (ap (λ (x : Given). carries x n d && leb (day.epochs.till k) e) p ∙ (unfold carries in refl));
        }
    next (rate n₀ d₀) p =
        let w = sending day rates k n₀ d₀ s in
        record {
          most = λ i. le_trans (w.fewer i) (on.most i);
          in_time = λ n d e. go n d e (carries (rate n₀ d₀) n d) refl (dec_le (day.epochs.till k) e);
        }
      where
        go : (n d e : ℕ) (b : Bool) → carries (rate n₀ d₀) n d ≡ b → Dec (day.epochs.till k ≤ e)
            → over day.packets.count (due day rates n d e) (turns day rates k n₀ d₀ day.packets.count (begun s)).unsent ≤ n * cap day rates n d e (suc k)
        go n d e true q (yes t) =
            let b = carries_same n₀ d₀ n d q in
            subst₂ (λ (x y : ℕ). over day.packets.count (due day rates n d e) (turns day rates k x y day.packets.count (begun s)).unsent ≤ n * cap day rates n d e (suc k))
            (sym b.0) (sym b.1) (this_rate n d e (p ∙ carries_is (rate n₀ d₀) n d q) t)
        go n d e true q (no t) =
            untouched n d e _ (sending day rates k n₀ d₀ s).fewer (ap (λ (b : Bool). carries (rates.epoch k) n d && b) (lt-leb (day.epochs.till k) e (omega (arith, t))) ∙ and_false (carries (rates.epoch k) n d))
          where
            and_false : (b : Bool) → (b && false) ≡ false
            and_false true = refl
            and_false false = refl
        go n d e false q t =
            untouched n d e _ (sending day rates k n₀ d₀ s).fewer
            (ap (λ (x : Given). carries x n d && leb (day.epochs.till k) e) p ∙ ap (λ (b : Bool). b && leb (day.epochs.till k) e) q)

  pub on_time : (k : ℕ) → k ≤ day.epochs.count → OnTime k (sheet_at day rates k)
  unfolding sheet_at
  on_time zero h =
      record {
        most = λ i. omega arith;
        in_time = λ n d e. to_arrive n d e 0 0 (units_of day rates) (λ i. omega arith) (λ i q m t z. omega arith) (λ j q z. omega arith);
      }
  on_time (suc k) h = next k h (sheet_at day rates k) (on_time k (omega arith)) (rates.epoch k) refl

  -- every packet is finished at the end
  pub all_sent : (i : ℕ) → i < day.packets.count → (sheet_at day rates day.epochs.count).unsent i ≡ 0
  all_sent i h =
      let a = assigned (rates.packet i) (r.finished i h) in
      let on = on_time day.epochs.count (omega arith) in
      omega (
        arith,
        over_at (due day rates a.0 a.1.0 (day.packets.till i)) (sheet_at day rates day.epochs.count).unsent i h
            (both_true (is_carries (rates.packet i) a.0 a.1.0 a.1.1) (le-leb (day.packets.till i) (day.packets.till i) (omega arith))),
        on.in_time a.0 a.1.0 (day.packets.till i),
        ap (λ (x : ℕ). a.0 * x) (cap_end a.0 a.1.0 (day.packets.till i)),
      )

  -- ## Every epoch is full

  -- what an epoch takes from the packets of N/D: what it has sent where it carries N/D, else nothing
  taken_by : (k n d : ℕ) (s : Sheet) (x : Given)
      → over day.packets.count (same rates n d) (filled day rates k x s).unsent + only_if (carries x n d) (filled day rates k x s).offset
      ≡ over day.packets.count (same rates n d) s.unsent
  unfolding filled
  taken_by k n d s none = unfold begun carries only_if in omega arith
  taken_by k n d s (rate n' d') = go (carries (rate n' d') n d) refl
    where
      others : carries (rate n' d') n d ≡ false
          → over day.packets.count (same rates n d) (turns day rates k n' d' day.packets.count (begun s)).unsent ≡ over day.packets.count (same rates n d) s.unsent
      others q = unfold over in sum_eq day.packets.count _ _ λ i h. at i (same rates n d i) refl
        where
          at : (i : ℕ) (b : Bool) → same rates n d i ≡ b → only_if b ((turns day rates k n' d' day.packets.count (begun s)).unsent i) ≡ only_if b (s.unsent i)
          at i false m = unfold only_if in refl
          at i true m =
              ap (only_if true) ((sending day rates k n' d' s).kept i
              (unfold eligible in ap (λ (b : Bool). b && inside day.epochs (day.packets.from i) (day.packets.till i) k) (apart (rates.packet i) n' d' n d q m)))

      go : (b : Bool) → carries (rate n' d') n d ≡ b
          → over day.packets.count (same rates n d) (turns day rates k n' d' day.packets.count (begun s)).unsent
          + only_if b (turns day rates k n' d' day.packets.count (begun s)).offset
          ≡ over day.packets.count (same rates n d) s.unsent
      go true q =
          let b = carries_same n' d' n d q in
          unfold only_if in
          subst₂ (λ (x y : ℕ). over day.packets.count (same rates n d) (turns day rates k x y day.packets.count (begun s)).unsent
          + (turns day rates k x y day.packets.count (begun s)).offset ≡ over day.packets.count (same rates n d) s.unsent)
          (sym b.0) (sym b.1) (sending day rates k n d s).total
      go false q = unfold only_if in omega (arith, others q)

  -- the offset that epoch k reaches
  abbrev pub reached : ℕ → ℕ
  reached k = (sheet_at day rates (suc k)).offset

  taken_in_all : (n d k : ℕ)
      → over day.packets.count (same rates n d) (sheet_at day rates k).unsent + sum k (λ j. only_if (carries (rates.epoch j) n d) (reached j))
      ≡ over day.packets.count (same rates n d) (units_of day rates)
  unfolding sum sheet_at
  taken_in_all n d zero = omega arith
  taken_in_all n d (suc k) = omega (arith, taken_in_all n d k, taken_by k n d (sheet_at day rates k) (rates.epoch k))

  within : (k n d : ℕ) (s : Sheet) (x : Given) → only_if (carries x n d) (filled day rates k x s).offset ≤ only_if (carries x n d) (day.epochs.weight k * n)
  unfolding filled
  within k n d s none = unfold carries only_if in omega arith
  within k n d s (rate n' d') = go (carries (rate n' d') n d) refl
    where
      go : (b : Bool) → carries (rate n' d') n d ≡ b
          → only_if b (turns day rates k n' d' day.packets.count (begun s)).offset ≤ only_if b (day.epochs.weight k * n)
      go true q =
          unfold only_if in
          omega (
            arith,
            (sending day rates k n' d' s).within,
            units_in_lem k n',
            ap (λ (x : ℕ). day.epochs.weight k * x) (carries_same n' d' n d q).0,
          )
      go false q = unfold only_if in omega arith

  -- all units of N/D are what its epochs hold
  in_all : (n d : ℕ)
      → over day.packets.count (same rates n d) (units_of day rates) ≡ sum day.epochs.count (λ j. only_if (carries (rates.epoch j) n d) (day.epochs.weight j * n))
  unfolding over
  in_all n d =
      omega (
        arith,
        sum_eq day.packets.count (λ i. only_if (same rates n d i) (units_of day rates i)) (λ i. only_if (carries (rates.packet i) n d) (day.packets.weight i) * d)
            (λ i h. bytes i (same rates n d i) refl),
        sum_scale day.packets.count (λ i. only_if (carries (rates.packet i) n d) (day.packets.weight i)) d,
        whole,
        sum_eq day.epochs.count (λ j. only_if (carries (rates.epoch j) n d) (day.epochs.weight j * n))
            (λ j. only_if (carries (rates.epoch j) n d) (day.epochs.weight j) * n) (λ j h. secs j (carries (rates.epoch j) n d)),
        sum_scale day.epochs.count (λ j. only_if (carries (rates.epoch j) n d) (day.epochs.weight j)) n,
      )
    where
      whole : sum day.packets.count (λ i. only_if (carries (rates.packet i) n d) (day.packets.weight i)) * d
          ≡ n * sum day.epochs.count (λ j. only_if (carries (rates.epoch j) n d) (day.epochs.weight j))
      whole = unfold carried_in_all in r.facts.filled_in_all n d

      bytes : (i : ℕ) (b : Bool) → same rates n d i ≡ b → only_if b (units_of day rates i) ≡ only_if b (day.packets.weight i) * d
      bytes i true m = unfold only_if in units_are i n d m
      bytes i false m = unfold only_if in omega arith

      secs : (j : ℕ) (b : Bool) → only_if b (day.epochs.weight j * n) ≡ only_if b (day.epochs.weight j) * n
      secs j true = unfold only_if in refl
      secs j false = unfold only_if in omega arith

  -- every epoch that carries a rate is filled exactly
  pub full : (k n d : ℕ) → k < day.epochs.count → rates.epoch k ≡ rate n d → reached k ≡ units_in day k n
  full k n d h p =
      let t =
      sum_tight day.epochs.count (λ j. only_if (carries (rates.epoch j) n d) (reached j)) (λ j. only_if (carries (rates.epoch j) n d) (day.epochs.weight j * n))
      (λ j q. unfold sheet_at in within j n d (sheet_at day rates j) (rates.epoch j))
      (omega (arith, taken_in_all n d day.epochs.count, in_all n d, empty)) k h in
      let c = is_carries (rates.epoch k) n d p in
      omega (
        arith,
        t,
        only_in (carries (rates.epoch k) n d) (reached k) c,
        only_in (carries (rates.epoch k) n d) (day.epochs.weight k * n) c,
        units_in_lem k n,
      )
    where
      empty : over day.packets.count (same rates n d) (sheet_at day rates day.epochs.count).unsent ≡ 0
      empty = unfold over in sum_none day.packets.count _ λ i q. at i (same rates n d i) q
        where
          at : (i : ℕ) (b : Bool) → i < day.packets.count → only_if b ((sheet_at day rates day.epochs.count).unsent i) ≡ 0
          at i true q = unfold only_if in all_sent i q
          at i false q = unfold only_if in refl

  -- nothing is sent in a silent epoch
  pub quiet : (k : ℕ) → rates.epoch k ≡ none → reached k ≡ 0
  quiet k p = unfold sheet_at in (ap (λ (x : Given). (filled day rates k x (sheet_at day rates k)).offset) p ∙ here)
    where
      here : (filled day rates k none (sheet_at day rates k)).offset ≡ 0
      here = unfold filled begun in refl
