-- Stretches second by second. What one entry sends in each second adds up to the entry; outside its epoch it sends nothing; and the entries of one epoch, which
-- do not overlap, send at most N units in any second of it. Units are 1/D byte. Assumes nothing.
use Prim.Native.Nat.{ℕ, zero, suc, ◌+◌, ◌-◌, ◌*◌, ◌/◌, ◌<◌, ◌≤◌, min, max}
use mathlib.Core.Path.{◌≡◌, refl, sym, ap, ◌∙◌}
use mathlib.Core.List.{List, [], ◌∷◌}
use mathlib.Core.Logic.{◌⊎◌, inl, inr}
use native.Mathlib.Omega.{arith}
use native.Mathlib.Decide.{dec_le, dec_lt}
use native.Mathlib.Nat.{le_trans, mul-le-mul_right}
use Rattle.policy.specs.Windows.{rate, sum}
use Rattle.policy.specs.Rounds.{Day, Progress}
use Rattle.policy.proofs.Sums.{sum_add, sum_none}
use Rattle.timetable.specs.Entries.{Entry, units_in}
use Rattle.timetable.specs.Right.{Each, EndsBy, Ordered, Right}
use Rattle.timetable.proofs.NeverLate.{Rated}
use Rattle.optimum.specs.Optimum.{units_at}

-- ## Sums over entries

-- a fact of each entry from two
pub each_zip : {P Q R : Entry → Type 0} → ((e : Entry) → P e → Q e → R e) → (entries : List Entry) → Each P entries → Each Q entries → Each R entries
each_zip f [] p q = tt
each_zip f (e ∷ entries) p q = (f e p.0 q.0, each_zip f entries p.1 q.1)

-- the sum over entries
unfoldable pub over : (Entry → ℕ) → List Entry → ℕ
over f [] = 0
over f (e ∷ entries) = f e + over f entries

-- equal terms
pub over_eq : (f g : Entry → ℕ) (entries : List Entry) → Each (λ e. f e ≡ g e) entries → over f entries ≡ over g entries
unfolding over
over_eq f g [] h = refl
over_eq f g (e ∷ entries) h = omega (arith, h.0, over_eq f g entries h.1)

-- term by term
pub over_le : (f g : Entry → ℕ) (entries : List Entry) → Each (λ e. f e ≤ g e) entries → over f entries ≤ over g entries
unfolding over
over_le f g [] h = omega arith
over_le f g (e ∷ entries) h = omega (arith, h.0, over_le f g entries h.1)

-- the order of two sums
pub over_sum : (n : ℕ) (f : ℕ → Entry → ℕ) (entries : List Entry) → sum n (λ t. over (f t) entries) ≡ over (λ e. sum n (λ t. f t e)) entries
unfolding over
over_sum n f [] = sum_none n (λ t. 0) (λ t h. refl)
over_sum n f (e ∷ entries) = omega (arith, over_sum n f entries, sum_add n (λ t. f t e) (λ t. over (f t) entries))

-- ## One entry

-- before its epoch nothing
pub before_none : (j : ℕ) (e : Entry) → j < e.start → units_at j e ≡ 0
unfolding units_at
before_none j e h = omega (arith, ap (λ (x : ℕ). x * e.N) none)
  where
    none : suc j - e.start ≡ 0
    none = omega arith

-- after its end nothing
past_none : (j : ℕ) (e : Entry) → e.to ≤ (j - e.start) * e.N → units_at j e ≡ 0
unfolding units_at
past_none j e h = omega arith

-- what is sent in the first S seconds of the day
first_seconds : (S : ℕ) (e : Entry) → e.from ≤ e.to → sum S (λ t. units_at t e) + e.from ≡ max e.from (min e.to ((S - e.start) * e.N))
unfolding sum
first_seconds zero e h = omega (arith, ap (λ (x : ℕ). x * e.N) none)
  where
    none : 0 - e.start ≡ 0
    none = omega arith
first_seconds (suc S) e h = go (first_seconds S e h) (mul-le-mul_right e.N later)
  where
    later : S - e.start ≤ suc S - e.start
    later = omega arith

    step : (s P Q : ℕ) → s + e.from ≡ max e.from (min e.to P) → P ≤ Q → s + (min e.to Q - max e.from P) + e.from ≡ max e.from (min e.to Q)
    step s P Q old l = omega arith

    go : sum S (λ t. units_at t e) + e.from ≡ max e.from (min e.to ((S - e.start) * e.N)) → (S - e.start) * e.N ≤ (suc S - e.start) * e.N
        → sum S (λ t. units_at t e) + units_at S e + e.from ≡ max e.from (min e.to ((suc S - e.start) * e.N))
    go old l = unfold units_at in step (sum S (λ t. units_at t e)) ((S - e.start) * e.N) ((suc S - e.start) * e.N) old l

-- ## Entries of one epoch

-- an entry of epoch k, which has the rate N/D
record Here (day : Day) (k n d : ℕ) (e : Entry) : Type 0 where
  starts : e.start ≡ day.epochs.from k
  same_n : e.N ≡ n
  same_d : e.D ≡ d

-- an entry that begins from an offset on, if it sends anything in second j
abbrev From : ℕ → ℕ → Entry → Type 0
From j from f = (units_at j f ≡ 0) ⊎ (from ≤ f.from)

-- a stretch [from, to) and what follows it take no more of [first, last) than lies behind an offset that is not after the stretch
room : (a from to first last : ℕ) → a ≤ from → from < to → min to last - max from first + (last - max to first) ≤ last - max a first
room a from to first last h g =
    le_trans (both (max from first) (max to first) (omega arith) (omega arith)) (less (max a first) (max from first) (omega arith))
  where
    both : (m u : ℕ) → m ≤ u → to ≤ u → min to last - m + (last - u) ≤ last - m
    both m u p q = omega arith

    less : (m u : ℕ) → m ≤ u → last - u ≤ last - m
    less m u p = omega arith

module _ (day : Day) (rates : Progress) (r : Rated day rates) where
  -- a stretch ends by N times the seconds from its epoch's start to any second that is not before the epoch's end
  ends : (e : Entry) (g : Right day rates e) (j : ℕ) → day.epochs.till g.epoch ≤ j → e.to ≤ (j - e.start) * e.N
  unfolding units_in
  ends e g j h =
      le_trans g.fits
      (mul-le-mul_right e.N (omega (arith, h, r.seconds g.epoch g.epoch_is, g.starts)))

  -- after its epoch nothing
  pub after_none : (e : Entry) (g : Right day rates e) (j : ℕ) → day.epochs.till g.epoch ≤ j → units_at j e ≡ 0
  after_none e g j h = past_none j e (ends e g j h)

  -- all of it by any second that is not before the epoch's end
  pub all_seconds : (e : Entry) (g : Right day rates e) (S : ℕ) → day.epochs.till g.epoch ≤ S → sum S (λ t. units_at t e) ≡ e.to - e.from
  all_seconds e g S h = omega (arith, first_seconds S e (omega (arith, g.some)), ends e g S h, g.some)

  -- something in a second of its epoch only
  data Sends (j : ℕ) (e : Entry) (g : Right day rates e) : Type 0 where
    nothing : units_at j e ≡ 0 → Sends j e g
    something : day.epochs.from g.epoch ≤ j → j < day.epochs.till g.epoch → Sends j e g

  sends : (j : ℕ) (e : Entry) (g : Right day rates e) → Sends j e g
  sends j e g = go (dec_le (day.epochs.from g.epoch) j) (dec_lt j (day.epochs.till g.epoch))
    where
      go : Dec (day.epochs.from g.epoch ≤ j) → Dec (j < day.epochs.till g.epoch) → Sends j e g
      go (yes a) (yes b) = something a b
      go (yes a) (no b) = nothing (after_none e g j (omega (arith, b)))
      go (no a) b = nothing (before_none j e (omega (arith, a, g.starts)))

  -- a second lies in one epoch only
  one_epoch : (j k k' : ℕ) → k < day.epochs.count → k' < day.epochs.count → day.epochs.from k ≤ j → j < day.epochs.till k
      → day.epochs.from k' ≤ j → j < day.epochs.till k' → k' ≡ k
  one_epoch j k k' h h' a b a' b' = go (dec_lt k k') (dec_lt k' k)
    where
      go : Dec (k < k') → Dec (k' < k) → k' ≡ k
      go (yes l) m = absurd (omega (arith, r.rising k k' l h'))
      go (no l) (yes m) = absurd (omega (arith, r.rising k' k m h))
      go (no l) (no m) = omega (arith, l, m)

  module _ (L j k n d : ℕ) (h : k < day.epochs.count) (p : rates.epoch k ≡ rate n d)
      (a : day.epochs.from k ≤ j) (b : j < day.epochs.till k)
    where
      -- the offsets of second j in epoch k
      abbrev first : ℕ
      first = (j - day.epochs.from k) * n

      abbrev last : ℕ
      last = (suc j - day.epochs.from k) * n

      -- an entry whose epoch has second j is of epoch k
      here : (e : Entry) (g : Right day rates e) → day.epochs.from g.epoch ≤ j → j < day.epochs.till g.epoch → Here day k n d e
      here e g x y =
          record {
            starts = g.starts ∙ ap day.epochs.from same;
            same_n = cc carried;
            same_d = cc carried;
          }
        where
          same : g.epoch ≡ k
          same = one_epoch j k g.epoch h g.epoch_is a b x y

          carried : rate e.N e.D ≡ rate n d
          carried = sym g.carries ∙ ap rates.epoch same ∙ p

      -- what follows a stretch of this epoch begins where it ends
      follows : (e : Entry) → Here day k n d e → (f : Entry) → Right day rates f → EndsBy e f.start f.from → From j e.to f
      follows e x f g o = go (sends j f g) o
        where
          go : Sends j f g → EndsBy e f.start f.from → From j e.to f
          go (nothing z) o = inl z
          go (something u v) (inl l) = absurd (omega (arith, l, x.starts, (here f g u v).starts))
          go (something u v) (inr l) = inr l.1

      -- entries that begin from an offset on send no more in second j than lies behind it
      bounded : (entries : List Entry) → Each (Right day rates) entries → Ordered entries → (from : ℕ) → Each (From j from) entries
          → over (λ e. units_at j e * (L / e.D)) entries ≤ (last - max from first) * (L / d)
      unfolding over
      bounded [] g o from w = omega arith
      bounded (e ∷ entries) g o from w =
          go (sends j e g.0) w.0 (bounded entries g.1 o.1 from w.1)
          (λ (x : Here day k n d e). bounded entries g.1 o.1 e.to (each_zip (follows e x) entries g.1 o.0))
        where
          rest : ℕ
          rest = over (λ e. units_at j e * (L / e.D)) entries

          none : units_at j e ≡ 0 → rest ≤ (last - max from first) * (L / d) → units_at j e * (L / e.D) + rest ≤ (last - max from first) * (L / d)
          none z old = omega (arith, ap (λ (x : ℕ). x * (L / e.D)) z, old)

          more : Here day k n d e → from ≤ e.from → rest ≤ (last - max e.to first) * (L / d)
              → units_at j e * (L / e.D) + rest ≤ (last - max from first) * (L / d)
          more x l old =
              omega (
                arith,
                old,
                ap (λ (y : ℕ). units_at j e * (L / y)) x.same_d,
                mul-le-mul_right (L / d) fits,
              )
            where
              units_are : units_at j e ≡ min e.to last - max e.from first
              units_are =
                  unfold units_at in
                  ap (λ (s : ℕ). min e.to ((suc j - s) * e.N) - max e.from ((j - s) * e.N)) x.starts ∙
                  ap (λ (m : ℕ). min e.to ((suc j - day.epochs.from k) * m) - max e.from ((j - day.epochs.from k) * m)) x.same_n

              fits : units_at j e + (last - max e.to first) ≤ last - max from first
              fits = rw units_are (room from e.from e.to first last l g.0.some)

          go : Sends j e g.0 → From j from e → rest ≤ (last - max from first) * (L / d)
              → (Here day k n d e → rest ≤ (last - max e.to first) * (L / d)) → units_at j e * (L / e.D) + rest ≤ (last - max from first) * (L / d)
          go (nothing z) w old new = none z old
          go (something u v) (inl z) old new = none z old
          go (something u v) (inr l) old new = more (here e g.0 u v) l (new (here e g.0 u v))

  -- what all entries send in second j is at most the rate of its epoch, and nothing where no epoch has it
  pub second_bound : (L j c : ℕ) (entries : List Entry) → Each (Right day rates) entries → Ordered entries
      → ((k n d : ℕ) → k < day.epochs.count → rates.epoch k ≡ rate n d → day.epochs.from k ≤ j → j < day.epochs.till k → n * (L / d) ≤ c)
      → over (λ e. units_at j e * (L / e.D)) entries ≤ c
  unfolding over
  second_bound L j c [] g o most = omega arith
  second_bound L j c (e ∷ entries) g o most = go (sends j e g.0) (second_bound L j c entries g.1 o.1 most)
    where
      go : Sends j e g.0 → over (λ e. units_at j e * (L / e.D)) entries ≤ c → units_at j e * (L / e.D) + over (λ e. units_at j e * (L / e.D)) entries ≤ c
      go (nothing z) old = omega (arith, ap (λ (x : ℕ). x * (L / e.D)) z, old)
      go (something u v) old =
          le_trans (bounded L j k e.N e.D g.0.epoch_is g.0.carries u v (e ∷ entries) g o 0 (each_any (e ∷ entries)))
          (le_trans (mul-le-mul_right (L / e.D) (second k e.N u)) (most k e.N e.D g.0.epoch_is g.0.carries u v))
        where
          k : ℕ
          k = g.0.epoch

          each_any : (es : List Entry) → Each (From j 0) es
          each_any [] = tt
          each_any (f ∷ es) = (inr (omega arith), each_any es)

          -- a second of an epoch has N units
          second : (k n : ℕ) → day.epochs.from k ≤ j → (suc j - day.epochs.from k) * n - max 0 ((j - day.epochs.from k) * n) ≤ n
          second k n a = omega (arith, ap (λ (x : ℕ). x * n) one)
            where
              one : suc j - day.epochs.from k ≡ suc (j - day.epochs.from k)
              one = omega arith
