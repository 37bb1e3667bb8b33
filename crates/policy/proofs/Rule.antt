-- The pick, without recursion: it is a holding that no holding beats, and only one interval is so. The best so far stands before all that were
-- seen; one more interval seen keeps it or takes its place. Assumes nothing.
use Prim.Native.Nat.{ℕ, zero, suc, ◌<◌, ◌≤◌}
use mathlib.Core.Path.{◌≡◌, refl, sym, ap, subst, subst₂, ◌∙◌}
use mathlib.Core.Bool.{Bool, true, false, ◌&&◌}
use mathlib.Core.Logic.{◌⊎◌, inl, inr}
use native.Mathlib.Omega.{arith}
use native.Mathlib.Decide.{dec_lt}
use native.Mathlib.Nat.{le_trans, le_refl}
use lib.Dec.{ltb}
use borrow.Author.Tests.{ltb-true, lt-ltb}
use Rattle.policy.specs.Windows.{choose, left, unassigned, inside, only_if}
use Rattle.policy.specs.Rounds.{Day, Progress, load, len, beats, Interval, nowhere, between, leads, better, best_from, best_of, pick}
use Rattle.policy.specs.Runs.{DataInterval, Holding, Best, Densest}
use Rattle.policy.proofs.Sums.{sum_at}
use Rattle.policy.proofs.Left.{both_true, not_both_ways, inside_is, only_if_le}
use Rattle.policy.proofs.Proper.{Proper}
use Rattle.policy.proofs.Order.{Figures, Ahead, Behind, before_ahead, before_behind, behind_before, ahead_behind, behind_self, behind_trans, behind_both, behind_density}

-- an interval with its load and its length
abbrev pub figures : Day → Progress → ℕ → ℕ → Figures
figures day done s e = record { start = s; end = e; load = load day done s e; len = len day done s e }

-- what holds an unassigned packet has length
abbrev pub Positive : Day → Progress → Type 0
Positive day done = (s e : ℕ) → 0 < load day done s e → 0 < len day done s e

-- the best so far stands before all candidates that were seen
abbrev pub Standing : Day → Progress → (ℕ → ℕ → Type 0) → Interval → Type 0
Standing day done Seen nowhere = (s e : ℕ) → Seen s e → 0 < load day done s e → ⊥
Standing day done Seen (between s e) =
    Holding day done s e ×
    ((s' e' : ℕ) → Seen s' e' → 0 < load day done s' e' → Behind (figures day done s' e') (figures day done s e))

-- one more seen
abbrev pub And : (ℕ → ℕ → Type 0) → ℕ → ℕ → ℕ → ℕ → Type 0
And Seen s e s' e' = Seen s' e' ⊎ ((s' ≡ s) × (e' ≡ e))

-- fewer seen
pub standing_fewer : (day : Day) (done : Progress) (Seen Fewer : ℕ → ℕ → Type 0) → ((s e : ℕ) → Fewer s e → Seen s e)
    → (best : Interval) → Standing day done Seen best → Standing day done Fewer best
standing_fewer day done Seen Fewer sub nowhere h = λ s e f. h s e (sub s e f)
standing_fewer day done Seen Fewer sub (between s e) h = (h.0, λ s' e' f. h.1 s' e' (sub s' e' f))

module _ (day : Day) (done : Progress) (positive : Positive day done) (Seen : ℕ → ℕ → Type 0) (s e : ℕ) (d : DataInterval day s e) where
  -- it holds nothing unassigned: the best stays
  pub step_empty : (0 < load day done s e → ⊥) → (best : Interval) → Standing day done Seen best → Standing day done (And Seen s e) best
  step_empty no_load nowhere h = λ s' e' x p. go s' e' x p
    where
      go : (s' e' : ℕ) → And Seen s e s' e' → 0 < load day done s' e' → ⊥
      go s' e' (inl a) p = h s' e' a p
      go s' e' (inr (a, b)) p = no_load (subst₂ (λ (x y : ℕ). 0 < load day done x y) a b p)
  step_empty no_load (between s₀ e₀) h = (h.0, go)
    where
      go : (s' e' : ℕ) → And Seen s e s' e' → 0 < load day done s' e' → Behind (figures day done s' e') (figures day done s₀ e₀)
      go s' e' (inl a) p = h.1 s' e' a p
      go s' e' (inr (a, b)) p = absurd (no_load (subst₂ (λ (x y : ℕ). 0 < load day done x y) a b p))

  -- it does not come before the best: the best stays
  pub step_behind : (s₀ e₀ : ℕ) → Behind (figures day done s e) (figures day done s₀ e₀)
      → Standing day done Seen (between s₀ e₀) → Standing day done (And Seen s e) (between s₀ e₀)
  step_behind s₀ e₀ behind h = (h.0, go)
    where
      go : (s' e' : ℕ) → And Seen s e s' e' → 0 < load day done s' e' → Behind (figures day done s' e') (figures day done s₀ e₀)
      go s' e' (inl a) p = h.1 s' e' a p
      go s' e' (inr (a, b)) p = subst₂ (λ (x y : ℕ). Behind (figures day done x y) (figures day done s₀ e₀)) (sym a) (sym b) behind

  -- the first that holds something
  pub step_first : 0 < load day done s e → Standing day done Seen nowhere → Standing day done (And Seen s e) (between s e)
  step_first holds h = (record { data_interval = d; holds = holds }, go)
    where
      go : (s' e' : ℕ) → And Seen s e s' e' → 0 < load day done s' e' → Behind (figures day done s' e') (figures day done s e)
      go s' e' (inl a) p = absurd (h s' e' a p)
      go s' e' (inr (a, b)) p =
          subst₂ (λ (x y : ℕ). Behind (figures day done x y) (figures day done s e)) (sym a) (sym b) (behind_self (figures day done s e))

  -- it comes before the best: it takes the best's place
  pub step_ahead : (s₀ e₀ : ℕ) → 0 < load day done s e → Ahead (figures day done s e) (figures day done s₀ e₀)
      → Standing day done Seen (between s₀ e₀) → Standing day done (And Seen s e) (between s e)
  step_ahead s₀ e₀ holds ahead h = (record { data_interval = d; holds = holds }, go)
    where
      go : (s' e' : ℕ) → And Seen s e s' e' → 0 < load day done s' e' → Behind (figures day done s' e') (figures day done s e)
      go s' e' (inl a) p =
          behind_trans (figures day done s' e') (figures day done s₀ e₀) (figures day done s e)
          (positive s' e' p) (positive s₀ e₀ h.0.holds) (positive s e holds)
          (h.1 s' e' a p) (ahead_behind (figures day done s e) (figures day done s₀ e₀) ahead)
      go s' e' (inr (a, b)) p =
          subst₂ (λ (x y : ℕ). Behind (figures day done x y) (figures day done s e)) (sym a) (sym b) (behind_self (figures day done s e))

  -- the definition's step
  step : (best : Interval) → Standing day done Seen best → Standing day done (And Seen s e) (better day done best s e)
  unfolding better
  step best h = go (ltb 0 (load day done s e)) refl
    where
      contest : (best : Interval) → Standing day done Seen best → 0 < load day done s e → (b : Bool) → leads day done s e best ≡ b
          → Standing day done (And Seen s e) (choose (true && b) (between s e) best)
      contest nowhere h p true q = unfold choose in step_first p h
      contest nowhere h p false q = absurd (not_both_ways {a = leads day done s e nowhere} (unfold leads in refl) q)
      contest (between s₀ e₀) h p true q =
          unfold choose in step_ahead s₀ e₀ p (before_ahead (figures day done s e) (figures day done s₀ e₀) (unfold leads beats in q)) h
      contest (between s₀ e₀) h p false q =
          unfold choose in step_behind s₀ e₀ (before_behind (figures day done s e) (figures day done s₀ e₀) (unfold leads beats in q)) h

      go : (a : Bool) → ltb 0 (load day done s e) ≡ a
          → Standing day done (And Seen s e) (choose (a && leads day done s e best) (between s e) best)
      go true p = contest best h (ltb-true 0 (load day done s e) p) (leads day done s e best) refl
      go false p = unfold choose in step_empty (λ (q : 0 < load day done s e). not_both_ways (lt-ltb 0 (load day done s e) q) p) best h

-- ## The recursive pick

-- from s to one of the first n deadlines
abbrev pub To : Day → (ℕ → ℕ → Type 0) → ℕ → ℕ → ℕ → ℕ → Type 0
To day Seen s n s' e' = Seen s' e' ⊎ ((s' ≡ s) × ((j : ℕ) × (j < n) × (e' ≡ day.packets.till j)))

-- from one of the first n arrivals to any deadline
abbrev pub Among : Day → ℕ → ℕ → ℕ → Type 0
Among day n s' e' = (i : ℕ) × (i < n) × (s' ≡ day.packets.from i) × ((j : ℕ) × (j < day.packets.count) × (e' ≡ day.packets.till j))

-- one deadline more
pub to_more : (day : Day) (Seen : ℕ → ℕ → Type 0) (s n s' e' : ℕ) → To day Seen s (suc n) s' e' → And (To day Seen s n) s (day.packets.till n) s' e'
to_more day Seen s n s' e' (inl a) = inl (inl a)
to_more day Seen s n s' e' (inr (p, (j, h, q))) = go (dec_lt j n)
  where
    go : Dec (j < n) → And (To day Seen s n) s (day.packets.till n) s' e'
    go (yes r) = inl (inr (p, (j, r, q)))
    go (no r) = let x : j ≡ n = omega (arith, r) in inr (p, q ∙ ap day.packets.till x)

-- one arrival more
pub among_more : (day : Day) (n s' e' : ℕ) → Among day (suc n) s' e' → To day (Among day n) (day.packets.from n) day.packets.count s' e'
among_more day n s' e' (i, h, p, q) = go (dec_lt i n)
  where
    go : Dec (i < n) → To day (Among day n) (day.packets.from n) day.packets.count s' e'
    go (yes r) = inl (i, r, p, q)
    go (no r) = let x : i ≡ n = omega (arith, r) in inr (p ∙ ap day.packets.from x, q)

module _ (day : Day) (done : Progress) (positive : Positive day done) where
  best_from_lem : (Seen : ℕ → ℕ → Type 0) (best : Interval) (i n : ℕ) → i < day.packets.count → n ≤ day.packets.count → Standing day done Seen best
      → Standing day done (To day Seen (day.packets.from i) n) (best_from day done best (day.packets.from i) n)
  unfolding best_from
  best_from_lem Seen best i zero p q h = standing_fewer day done Seen (To day Seen (day.packets.from i) 0) only best h
    where
      only : (s e : ℕ) → To day Seen (day.packets.from i) 0 s e → Seen s e
      only s e (inl a) = a
      only s e (inr (a, (j, b, c))) = absurd (omega arith)
  best_from_lem Seen best i (suc n) p q h =
      standing_fewer day done (And (To day Seen (day.packets.from i) n) (day.packets.from i) (day.packets.till n))
      (To day Seen (day.packets.from i) (suc n)) (to_more day Seen (day.packets.from i) n)
      (better day done (best_from day done best (day.packets.from i) n) (day.packets.from i) (day.packets.till n))
      (step day done positive (To day Seen (day.packets.from i) n) (day.packets.from i) (day.packets.till n)
      (record { starter = i; starts = p; start = refl; ender = n; ends = q; end = refl })
      (best_from day done best (day.packets.from i) n) (best_from_lem Seen best i n p (omega arith) h))

  best_of_lem : (n : ℕ) → n ≤ day.packets.count → Standing day done (Among day n) (best_of day done n)
  unfolding best_of
  best_of_lem zero p = λ s e x. absurd (omega (arith, x.1))
  best_of_lem (suc n) p =
      standing_fewer day done (To day (Among day n) (day.packets.from n) day.packets.count) (Among day (suc n)) (among_more day n)
      (best_from day done (best_of day done n) (day.packets.from n) day.packets.count)
      (best_from_lem (Among day n) (best_of day done n) n day.packets.count p (omega arith) (best_of_lem n (omega arith)))

  -- a data interval is among all
  among : (s e : ℕ) → DataInterval day s e → Among day day.packets.count s e
  among s e d = (d.starter, d.starts, sym d.start, (d.ender, d.ends, sym d.end))

  -- what stands before all is the best
  pub standing_best : (s e : ℕ) → Standing day done (Among day day.packets.count) (between s e) → Best day done s e
  unfolding beats
  standing_best s e h =
      record {
        holding = h.0;
        unbeaten = λ s' e' c.
            behind_before (figures day done s' e') (figures day done s e) (h.1 s' e' (among s' e' c.data_interval) c.holds);
      }

  -- only one interval is the best
  pub best_one : (s e s' e' : ℕ) → Best day done s e → Best day done s' e' → (s ≡ s') × (e ≡ e')
  unfolding beats
  best_one s e s' e' b b' =
      behind_both (figures day done s e) (figures day done s' e')
      (before_behind (figures day done s e) (figures day done s' e') (b'.unbeaten s e b.holding))
      (before_behind (figures day done s' e') (figures day done s e) (b.unbeaten s' e' b'.holding))

  -- the pick is the best
  pub pick_best : (s e : ℕ) → pick day done ≡ between s e → Best day done s e
  unfolding pick
  pick_best s e p = standing_best s e (subst (Standing day done (Among day day.packets.count)) p (best_of_lem day.packets.count (omega arith)))

  -- where there is no pick, no data interval holds an unassigned packet
  pub pick_none : pick day done ≡ nowhere → (s e : ℕ) → DataInterval day s e → 0 < load day done s e → ⊥
  unfolding pick
  pick_none p s e d =
      let h : Standing day done (Among day day.packets.count) nowhere =
      subst (Standing day done (Among day day.packets.count)) p (best_of_lem day.packets.count (omega arith)) in
      h s e (among s e d)

  -- the best is the pick
  pub best_pick : (s e : ℕ) → Best day done s e → pick day done ≡ between s e
  best_pick s e b = go (pick day done) refl
    where
      go : (x : Interval) → pick day done ≡ x → x ≡ between s e
      go nowhere p = absurd (pick_none p s e b.holding.data_interval b.holding.holds)
      go (between s' e') p = let q = best_one s' e' s e (pick_best s' e' p) b in rw (q.0, q.1) refl

  -- the best is densest
  pub best_densest : (s e : ℕ) → Best day done s e → Densest day done s e
  unfolding beats
  best_densest s e b =
      record {
        holding = b.holding;
        densest = λ s' e' c.
            behind_density (figures day done s' e') (figures day done s e)
            (before_behind (figures day done s' e') (figures day done s e) (b.unbeaten s' e' c));
      }

-- ## An unassigned packet

-- an unassigned packet inside an interval is load
pub packet_loads : (day : Day) → Proper day → (done : Progress) (s e i : ℕ) → i < day.packets.count → unassigned (done.packet i) ≡ true
    → inside day.packets s e i ≡ true → 0 < load day done s e
unfolding load left only_if
packet_loads day proper done s e i h u v =
    le_trans (proper.some_bytes i h)
    (le_trans (only_if_le true (unassigned (done.packet i) && inside day.packets s e i) (day.packets.weight i) (λ _. both_true u v))
    (sum_at day.packets.count (λ j. only_if (unassigned (done.packet j) && inside day.packets s e j) (day.packets.weight j)) i h))

-- the window of an unassigned packet is a data interval that holds it
pub own_window : (day : Day) → Proper day → (done : Progress) (i : ℕ) → i < day.packets.count → unassigned (done.packet i) ≡ true
    → Holding day done (day.packets.from i) (day.packets.till i)
own_window day proper done i h u =
    record {
      data_interval = record { starter = i; starts = h; start = refl; ender = i; ends = h; end = refl };
      holds =
          packet_loads day proper done (day.packets.from i) (day.packets.till i) i h u
          (inside_is day.packets (day.packets.from i) (day.packets.till i) i (le_refl _) (le_refl _));
    }
