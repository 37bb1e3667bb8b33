-- The sweep finds the pick. At a bound of the row it has the load and the length of the definition; so the leader stands before every interval that was seen,
-- and in the end all were. Assumes nothing.
use Prim.Native.Nat.{ℕ, zero, suc, ◌-◌, ◌<◌, ◌≤◌}
use mathlib.Core.Path.{◌≡◌, refl, sym, ap, subst, subst₂, ◌∙◌}
use mathlib.Core.Bool.{Bool, true, false}
use mathlib.Core.Logic.{◌⊎◌, inl, inr}
use native.Mathlib.Omega.{arith}
use native.Mathlib.Decide.{dec_lt, ℕ_discrete}
use Rattle.std.specs.Prelude.{Option, Some, None}
use Rattle.policy.specs.declared.densest.Leader.{Leader}
use Rattle.policy.specs.declared.densest.Left.{Left}
use Rattle.policy.specs.declared.row.Due.{Due}
use Rattle.policy.specs.Rounds.{Day, Progress, load, len, Interval, nowhere, between, pick}
use Rattle.policy.specs.Runs.{DataInterval}
use Rattle.policy.specs.Steps.{due_to, swept, considered, led, leader_ahead}
use Rattle.policy.proofs.Left.{not_both_ways}
use Rattle.policy.proofs.Sweeping.{unmarked_loses, empty_loses, first_leads, ahead_leads, behind_loses}
use Rattle.policy.proofs.Order.{before_ahead, before_behind}
use Rattle.policy.proofs.Rule.{Positive, Standing, And, Among, figures, standing_fewer, standing_best, step_empty, step_behind, step_first, step_ahead, pick_best, best_pick}

-- what the sweep is given: arrivals and deadlines, each of them, and the load and the length that it comes to at the last of a deadline
pub record Board (day : Day) (done : Progress) (count : ℕ) (from base : ℕ → ℕ) (due : ℕ → Due) (left : ℕ → Left) : Type 0 where
  pub count_is : count ≡ day.packets.count
  pub starts : (i : ℕ) → i < count → (k : ℕ) × (k < count) × (from i ≡ day.packets.from k)
  pub all_starts : (k : ℕ) → k < count → (i : ℕ) × (i < count) × (from i ≡ day.packets.from k)
  pub ends : (j : ℕ) → j < count → (k : ℕ) × (k < count) × ((due j).deadline ≡ day.packets.till k)
  pub all_ends : (k : ℕ) → k < count → (j : ℕ) × (j < count) × ((due j).last ≡ true) × ((due j).deadline ≡ day.packets.till k)
  pub load_is : (s j : ℕ) → j < count → (due j).last ≡ true → due_to due left s (suc j) ≡ load day done s (due j).deadline
  pub len_is : (i j : ℕ) → i < count → j < count → (left j).seconds - base i ≡ len day done (from i) (due j).deadline

-- ## The leader

-- a leader shows an interval with its load and its length, or there is none
pub data Shows (day : Day) (done : Progress) (x : Option Leader) : Interval → Type 0 where
  nobody : x ≡ None → Shows day done x nowhere
  somebody : (s e : ℕ) → 0 < load day done s e → x ≡ Some (record { start = s; end = e; load = load day done s e; len = len day done s e })
      → Shows day done x (between s e)

-- the leader stands before all that were seen
pub record Leading (day : Day) (done : Progress) (Seen : ℕ → ℕ → Type 0) (x : Option Leader) : Type 0 where
  pub interval : Interval
  pub shows : Shows day done x interval
  pub stands : Standing day done Seen interval

pub leading_fewer : (day : Day) (done : Progress) (Seen Fewer : ℕ → ℕ → Type 0) (x : Option Leader) → ((s e : ℕ) → Fewer s e → Seen s e)
    → Leading day done Seen x → Leading day done Fewer x
leading_fewer day done Seen Fewer x sub l =
    record { interval = l.interval; shows = l.shows; stands = standing_fewer day done Seen Fewer sub l.interval l.stands }

-- a contest with an interval that ends at the last of its deadline
pub leading_marked : (day : Day) (done : Progress) → Positive day done → (Seen : ℕ → ℕ → Type 0) (x : Option Leader) (last : Bool) (s e : ℕ) → last ≡ true
    → DataInterval day s e → Leading day done Seen x
    → Leading day done (And Seen s e) (considered x last (record { start = s; end = e; load = load day done s e; len = len day done s e }))
leading_marked day done positive Seen x last s e m d l = go (ℕ_discrete (load day done s e) 0) l.interval l.shows l.stands
  where
    new : Leader
    new = record { start = s; end = e; load = load day done s e; len = len day done s e }

    Result : Type 0
    Result = Leading day done (And Seen s e) (considered x last new)

    some : (load day done s e ≡ 0 → ⊥) → 0 < load day done s e
    some p = omega (arith, p)

    stays : x ≡ considered x last new → (i : Interval) → Shows day done x i → Standing day done (And Seen s e) i → Result
    stays p i sh st = subst (Leading day done (And Seen s e)) p (record { interval = i; shows = sh; stands = st })

    changes : 0 < load day done s e → Some new ≡ considered x last new → Standing day done (And Seen s e) (between s e) → Result
    changes h p st =
        subst (Leading day done (And Seen s e)) p (record { interval = between s e; shows = somebody s e h refl; stands = st })

    contested : (load day done s e ≡ 0 → ⊥) → (s₀ e₀ : ℕ) → 0 < load day done s₀ e₀
        → x ≡ Some (record { start = s₀; end = e₀; load = load day done s₀ e₀; len = len day done s₀ e₀ })
        → Standing day done Seen (between s₀ e₀) → (b : Bool)
        → leader_ahead new (record { start = s₀; end = e₀; load = load day done s₀ e₀; len = len day done s₀ e₀ }) ≡ b → Result
    contested p s₀ e₀ h q st true r =
        changes (some p) (ahead_leads _ last new m p r ∙ ap (λ (y : Option Leader). considered y last new) (sym q))
        (step_ahead day done positive Seen s e d s₀ e₀ (some p) (before_ahead (figures day done s e) (figures day done s₀ e₀) (unfold leader_ahead in r)) st)
    contested p s₀ e₀ h q st false r =
        stays (q ∙ behind_loses _ last new m p r ∙ ap (λ (y : Option Leader). considered y last new) (sym q)) (between s₀ e₀) (somebody s₀ e₀ h q)
        (step_behind day done positive Seen s e d s₀ e₀ (before_behind (figures day done s e) (figures day done s₀ e₀) (unfold leader_ahead in r)) st)

    go : Dec (load day done s e ≡ 0) → (i : Interval) → Shows day done x i → Standing day done Seen i → Result
    go (yes p) i sh st = stays (empty_loses x last new p) i sh (step_empty day done positive Seen s e d (λ h. omega (arith, h, p)) i st)
    go (no p) _ (nobody q) st =
        changes (some p) (first_leads last new m p ∙ ap (λ (y : Option Leader). considered y last new) (sym q))
        (step_first day done positive Seen s e d (some p) st)
    go (no p) _ (somebody s₀ e₀ h q) st = contested p s₀ e₀ h q st (leader_ahead new (record { start = s₀; end = e₀; load = load day done s₀ e₀; len = len day done s₀ e₀ })) refl

module _ (day : Day) (done : Progress) (count : ℕ) (from base : ℕ → ℕ) (due : ℕ → Due) (left : ℕ → Left) (board : Board day done count from base due left) where
  -- ## The sweep

  -- from s to the last of a deadline among the first m in the row
  UpToLast : (ℕ → ℕ → Type 0) → ℕ → ℕ → ℕ → ℕ → Type 0
  UpToLast Seen s m s' e' = Seen s' e' ⊎ ((s' ≡ s) × ((j : ℕ) × (j < m) × ((due j).last ≡ true) × (e' ≡ (due j).deadline)))

  -- nothing is due before the first
  up_to_none : (Seen : ℕ → ℕ → Type 0) (s s' e' : ℕ) → UpToLast Seen s 0 s' e' → Seen s' e'
  unfolding UpToLast
  up_to_none Seen s s' e' (inl a) = a
  up_to_none Seen s s' e' (inr (p, (j, h, q, r))) = absurd (omega arith)

  -- one more, which is not the last of its deadline
  up_to_unmarked : (Seen : ℕ → ℕ → Type 0) (s m : ℕ) → (due m).last ≡ false → (s' e' : ℕ) → UpToLast Seen s (suc m) s' e' → UpToLast Seen s m s' e'
  unfolding UpToLast
  up_to_unmarked Seen s m z s' e' (inl a) = inl a
  up_to_unmarked Seen s m z s' e' (inr (p, (j, q, r, t))) = inr (p, (j, before (ℕ_discrete j m), r, t))
    where
      before : Dec (j ≡ m) → j < m
      before (yes e) = absurd (not_both_ways (ap (λ (k : ℕ). (due k).last) (sym e) ∙ r) z)
      before (no e) = omega (arith, q, e)

  -- one more, which is the last
  up_to_marked : (Seen : ℕ → ℕ → Type 0) (s m : ℕ) → (s' e' : ℕ) → UpToLast Seen s (suc m) s' e' → And (UpToLast Seen s m) s (due m).deadline s' e'
  unfolding UpToLast
  up_to_marked Seen s m s' e' (inl a) = inl (inl a)
  up_to_marked Seen s m s' e' (inr (p, (j, q, r, t))) = go (ℕ_discrete j m)
    where
      go : Dec (j ≡ m) → And (UpToLast Seen s m) s (due m).deadline s' e'
      go (yes x) = inr (p, t ∙ ap (λ (k : ℕ). (due k).deadline) x)
      go (no x) = inl (inr (p, (j, omega (arith, x, q), r, t)))

  module _ (positive : Positive day done) where
    -- the leader of a sweep over the first m in the row
    sweep_leads : (Seen : ℕ → ℕ → Type 0) (i : ℕ) → i < count → (x : Option Leader) → Leading day done Seen x → (m : ℕ) → m ≤ count
        → Leading day done (UpToLast Seen (from i) m) (swept due left (from i) (base i) x m)
    unfolding swept
    sweep_leads Seen i p x l zero h = leading_fewer day done Seen (UpToLast Seen (from i) 0) x (up_to_none Seen (from i)) l
    sweep_leads Seen i p x l (suc m) h = go (due m).last refl (sweep_leads Seen i p x l m (omega arith))
      where
        s : ℕ
        s = from i

        y : Option Leader
        y = swept due left s (base i) x m

        e : ℕ
        e = (due m).deadline

        Next : Option Leader → Type 0
        Next = Leading day done (UpToLast Seen s (suc m))

        data_interval : (k : ℕ) × (k < count) × (s ≡ day.packets.from k) → (k : ℕ) × (k < count) × (e ≡ day.packets.till k) → DataInterval day s e
        data_interval (k, q, r) (k', q', r') =
            record {
              starter = k;
              starts = subst (λ (c : ℕ). k < c) board.count_is q;
              start = sym r;
              ender = k';
              ends = subst (λ (c : ℕ). k' < c) board.count_is q';
              end = sym r';
            }

        go : (b : Bool) → (due m).last ≡ b → Leading day done (UpToLast Seen s m) y
            → Next (considered y (due m).last (record { start = s; end = e; load = due_to due left s (suc m); len = (left m).seconds - base i }))
        go false z l =
            subst Next (unmarked_loses y (due m).last _ z)
            (leading_fewer day done (UpToLast Seen s m) (UpToLast Seen s (suc m)) y (up_to_unmarked Seen s m z) l)
        go true z l =
            subst₂ (λ (a c : ℕ). Next (considered y (due m).last (record { start = s; end = e; load = a; len = c })))
            (sym (board.load_is s m h z)) (sym (board.len_is i m p h))
            (leading_fewer day done (And (UpToLast Seen s m) s e) (UpToLast Seen s (suc m)) _ (up_to_marked Seen s m)
            (leading_marked day done positive (UpToLast Seen s m) y (due m).last s e z (data_interval (board.starts i p) (board.ends m h)) l))

    -- from one of the first m arrivals to any deadline
    Begun : ℕ → ℕ → ℕ → Type 0
    Begun m s e = (i : ℕ) × (i < m) × (s ≡ from i) × ((j : ℕ) × (j < day.packets.count) × (e ≡ day.packets.till j))

    arrival_more : (m : ℕ) → m < count → (s e : ℕ) → Begun (suc m) s e → UpToLast (Begun m) (from m) count s e
    unfolding UpToLast Begun
    arrival_more m h s e (i, p, q, (j, r, t)) = go (dec_lt i m)
      where
        go : Dec (i < m) → UpToLast (Begun m) (from m) count s e
        go (yes x) = inl (i, x, q, (j, r, t))
        go (no x) =
            let y : i ≡ m = omega (arith, x, p) in
            let z = board.all_ends j (subst (λ (k : ℕ). j < k) (sym board.count_is) r) in
            inr (q ∙ ap from y, (z.0, z.1, z.2, t ∙ sym z.3))

    -- the leader of the first m arrivals
    led_leads : (m : ℕ) → m ≤ count → Leading day done (Begun m) (led count from base due left m)
    unfolding led Begun
    led_leads zero h = record { interval = nowhere; shows = nobody refl; stands = λ s e x. absurd (omega (arith, x.1)) }
    led_leads (suc m) h =
        leading_fewer day done (UpToLast (Begun m) (from m) count) (Begun (suc m)) _ (arrival_more m h)
        (sweep_leads (Begun m) m h (led count from base due left m) (led_leads m (omega arith)) count (omega arith))

    -- every arrival is one of these
    all_begun : (s e : ℕ) → Among day day.packets.count s e → Begun count s e
    unfolding Begun
    all_begun s e (i, p, q, r) =
        let z = board.all_starts i (subst (λ (k : ℕ). i < k) (sym board.count_is) p) in
        (z.0, z.1, q ∙ sym z.2, r)

    abbrev leader : Option Leader
    leader = led count from base due left count

    all : Leading day done (Among day day.packets.count) leader
    all = leading_fewer day done (Begun count) (Among day day.packets.count) leader all_begun (led_leads count (omega arith))

    -- without a leader there is no pick
    pub no_leader : leader ≡ None → pick day done ≡ nowhere
    no_leader h = go all.interval all.shows all.stands
      where
        none_left : Standing day done (Among day day.packets.count) nowhere → (x : Interval) → pick day done ≡ x → x ≡ nowhere
        none_left st nowhere p = refl
        none_left st (between s e) p =
            let b = pick_best day done positive s e p in
            let d = b.holding.data_interval in
            absurd (st s e (d.starter, d.starts, sym d.start, (d.ender, d.ends, sym d.end)) b.holding.holds)

        go : (i : Interval) → Shows day done leader i → Standing day done (Among day day.packets.count) i → pick day done ≡ nowhere
        go _ (nobody q) st = none_left st (pick day done) refl
        go _ (somebody s e p q) st = let z : ◌≡◌ {A = ℕ} 0 1 = cc in absurd (omega arith)

    -- a leader is the pick, with its load and its length
    pub leader_picked : (x : Leader) → leader ≡ Some x
        → (pick day done ≡ between x.start x.end) × (x.load ≡ load day done x.start x.end) × (x.len ≡ len day done x.start x.end) × (0 < x.load)
    leader_picked x h = go all.interval all.shows all.stands
      where
        go : (i : Interval) → Shows day done leader i → Standing day done (Among day day.packets.count) i
            → (pick day done ≡ between x.start x.end) × (x.load ≡ load day done x.start x.end) × (x.len ≡ len day done x.start x.end) × (0 < x.load)
        go _ (nobody q) st = let z : ◌≡◌ {A = ℕ} 0 1 = cc in absurd (omega arith)
        go _ (somebody s e p q) st =
            let f : x ≡ record { start = s; end = e; load = load day done s e; len = len day done s e } = cc in
            rw f (best_pick day done positive s e (standing_best day done positive s e st), refl, refl, p)
