-- One stretch, and the stretches of an epoch one after the other. What every stretch keeps, any number of them keeps; and as many stretches as packets
-- settle the epoch: it is full, or no candidate is left. Each stretch that does not fill the epoch ends a packet. Assumes nothing.
use Prim.Native.Nat.{ℕ, zero, suc, ◌+◌, ◌-◌, ◌<◌, ◌≤◌, min}
use mathlib.Core.Path.{◌≡◌, refl, sym, ap, ◌∙◌}
use mathlib.Core.Bool.{Bool, true, false}
use mathlib.Core.Logic.{◌⊎◌, inl, inr}
use native.Mathlib.Omega.{arith}
use native.Mathlib.Decide.{dec_le, ℕ_discrete}
use native.Mathlib.Nat.{add-zero, add-suc}
use lib.Dec.{ltb}
use borrow.Author.Tests.{eq-eqb, ne_eqb, lt-ltb, le-ltb, ltb-true, ltb-false}
use Rattle.policy.specs.Windows.{choose, only_if, sum}
use Rattle.policy.specs.Rounds.{Day, Progress}
use Rattle.policy.proofs.Sums.{sum_eq, sum_at}
use Rattle.policy.proofs.Left.{both, both_true, not_both_ways}
use Rattle.timetable.specs.Entries.{Choice, nobody, packet, Sheet, eligible, candidate, earliest, units_in, less, sent, next_in, turn_of, turns}
use Rattle.timetable.proofs.Earliest.{Chosen, Says, none_counts, chosen, earliest_says}

-- ## Sums that differ at one number

pub differ : (m : ℕ) (f g : ℕ → ℕ) (i : ℕ) → i < m → ((j : ℕ) → (j ≡ i → ⊥) → f j ≡ g j) → sum m f + g i ≡ sum m g + f i
unfolding sum
differ zero f g i h same = absurd (omega arith)
differ (suc m) f g i h same = go (ℕ_discrete i m) (λ (q : i < m). differ m f g i q same)
  where
    go : Dec (i ≡ m) → (i < m → sum m f + g i ≡ sum m g + f i) → sum m f + f m + g i ≡ sum m g + g m + f i
    go (yes e) rest = omega (arith, sum_eq m f g (λ j q. same j (λ r. omega (arith, r))), ap f e, ap g e)
    go (no e) rest = omega (arith, rest (omega (arith, e)), same m (λ r. e (sym r)))

pub less_same : (u : ℕ → ℕ) (i y : ℕ) → less u i y i ≡ u i - y
unfolding less choose
less_same u i y = rw (eq-eqb i i refl) refl

pub less_other : (u : ℕ → ℕ) (i y j : ℕ) → (j ≡ i → ⊥) → less u i y j ≡ u j
unfolding less choose
less_other u i y j h = rw (ne_eqb j i h) refl

pub less_fewer : (u : ℕ → ℕ) (i y j : ℕ) → less u i y j ≤ u j
less_fewer u i y j = go (ℕ_discrete j i)
  where
    go : Dec (j ≡ i) → less u i y j ≤ u j
    go (yes e) = omega (arith, less_same u i y, ap (less u i y) e, ap u e)
    go (no e) = omega (arith, less_other u i y j e)

-- the units of those that a test takes
unfoldable pub over : ℕ → (ℕ → Bool) → (ℕ → ℕ) → ℕ
over count test u = sum count (λ i. only_if (test i) (u i))

-- a stretch of y units, seen by a test
pub over_less : (count : ℕ) (test : ℕ → Bool) (u : ℕ → ℕ) (i y : ℕ) → i < count → y ≤ u i
    → over count test (less u i y) + only_if (test i) y ≡ over count test u
unfolding over only_if
over_less count test u i y h q =
    go (test i) (differ count (λ j. only_if (test j) (less u i y j)) (λ j. only_if (test j) (u j)) i h
    (λ j p. ap (only_if (test j)) (less_other u i y j p)))
  where
    go : (b : Bool) → sum count (λ j. only_if (test j) (less u i y j)) + only_if b (u i) ≡ sum count (λ j. only_if (test j) (u j)) + only_if b (less u i y i)
        → sum count (λ j. only_if (test j) (less u i y j)) + only_if b y ≡ sum count (λ j. only_if (test j) (u j))
    go true e = omega (arith, e, less_same u i y)
    go false e = omega (arith, e)

-- the same, where the test takes the packet
pub over_less_in : (count : ℕ) (test : ℕ → Bool) (u : ℕ → ℕ) (i y : ℕ) → i < count → y ≤ u i → test i ≡ true
    → over count test (less u i y) + y ≡ over count test u
over_less_in count test u i y h q p = omega (arith, over_less count test u i y h q, taken)
  where
    taken : only_if (test i) y ≡ y
    taken = unfold only_if in rw p refl

-- the number of packets with units unsent
unfoldable pub unfinished : ℕ → (ℕ → ℕ) → ℕ
unfinished count u = sum count (λ i. only_if (ltb 0 (u i)) 1)

pub unfinished_most : (count : ℕ) (u : ℕ → ℕ) → unfinished count u ≤ count
unfolding unfinished sum
unfinished_most zero u = omega arith
unfinished_most (suc count) u = omega (arith, unfinished_most count u, go (ltb 0 (u count)))
  where
    go : (b : Bool) → only_if b 1 ≤ 1
    go true = unfold only_if in omega arith
    go false = unfold only_if in omega arith

marked : (x : ℕ) → 0 < x → only_if (ltb 0 x) 1 ≡ 1
marked x h = unfold only_if in rw (lt-ltb 0 x h) refl

unmarked : (x : ℕ) → x ≡ 0 → only_if (ltb 0 x) 1 ≡ 0
unmarked x h = unfold only_if in rw (le-ltb 0 x (omega (arith, h))) refl

mark_le : (x y : ℕ) → x ≤ y → only_if (ltb 0 x) 1 ≤ only_if (ltb 0 y) 1
mark_le x y h = go (ltb 0 x) refl
  where
    go : (b : Bool) → ltb 0 x ≡ b → only_if b 1 ≤ only_if (ltb 0 y) 1
    go true p = unfold only_if in omega (arith, ltb-true 0 x p, marked y (omega (arith, ltb-true 0 x p)))
    go false p = unfold only_if in omega arith

-- a stretch leaves no more unfinished ..
pub unfinished_less : (count : ℕ) (u : ℕ → ℕ) (i y : ℕ) → i < count → unfinished count (less u i y) ≤ unfinished count u
unfolding unfinished
unfinished_less count u i y h =
    omega (
      arith,
      differ count (λ j. only_if (ltb 0 (less u i y j)) 1) (λ j. only_if (ltb 0 (u j)) 1) i h (λ j p. ap (λ (x : ℕ). only_if (ltb 0 x) 1) (less_other u i y j p)),
      mark_le (less u i y i) (u i) (less_fewer u i y i),
    )

-- .. and one fewer where it ends a packet
pub unfinished_ends : (count : ℕ) (u : ℕ → ℕ) (i y : ℕ) → i < count → 0 < u i → y ≡ u i → suc (unfinished count (less u i y)) ≡ unfinished count u
unfolding unfinished
unfinished_ends count u i y h some e =
    omega (
      arith,
      differ count (λ j. only_if (ltb 0 (less u i y j)) 1) (λ j. only_if (ltb 0 (u j)) 1) i h (λ j p. ap (λ (x : ℕ). only_if (ltb 0 x) 1) (less_other u i y j p)),
      unmarked (less u i y i) (less_same u i y ∙ omega (arith, e)),
      marked (u i) some,
    )

pub unfinished_some : (count : ℕ) (u : ℕ → ℕ) (i : ℕ) → i < count → 0 < u i → 0 < unfinished count u
unfolding unfinished
unfinished_some count u i h some = omega (arith, sum_at count (λ j. only_if (ltb 0 (u j)) 1) i h, marked (u i) some)

-- ## The stretches of epoch k at N/D

module _ (day : Day) (rates : Progress) (k n d : ℕ) where
  -- packet i is sent next, for y units
  pub record Stretch (s : Sheet) (i y : ℕ) : Type 0 where
    pub below : i < day.packets.count
    pub room : s.offset < units_in day k n
    pub may : eligible day rates k n d i ≡ true
    pub first : (j : ℕ) → j < day.packets.count → candidate day rates k n d s.unsent j ≡ true → day.packets.till i ≤ day.packets.till j
    pub some : 0 < y
    pub has : y ≤ s.unsent i
    pub fits : s.offset + y ≤ units_in day k n
    pub ends : (y ≡ s.unsent i) ⊎ (s.offset + y ≡ units_in day k n)

  -- the epoch is full, or no candidate is left
  abbrev pub Settled : Sheet → Type 0
  Settled s = (units_in day k n ≤ s.offset) ⊎ ((j : ℕ) → j < day.packets.count → candidate day rates k n d s.unsent j ≡ false)

  -- who is sent next is a candidate
  unsettled : (s : Sheet) (i y : ℕ) → Stretch s i y → Settled s → ⊥
  unsettled s i y p (inl q) = omega (arith, p.room)
  unsettled s i y p (inr q) = not_both_ways {a = candidate day rates k n d s.unsent i} counts (q i p.below)
    where
      counts : candidate day rates k n d s.unsent i ≡ true
      counts = unfold candidate in both_true p.may (lt-ltb 0 (s.unsent i) (omega (arith, p.some, p.has)))

  -- a turn is a stretch, or the epoch is settled and nothing changes
  pub data Turn (s : Sheet) : Sheet → Type 0 where
    rests : Settled s → Turn s s
    goes : (i y : ℕ) → Stretch s i y → Turn s (sent day k n d s i y)

  length_of : (s : Sheet) (i : ℕ) → s.offset < units_in day k n → Chosen (candidate day rates k n d s.unsent) day.packets.till day.packets.count i
      → Stretch s i (min (s.unsent i) (units_in day k n - s.offset))
  unfolding candidate
  length_of s i room c =
      let b = both (eligible day rates k n d i) (ltb 0 (s.unsent i)) c.counts in
      let u : 0 < s.unsent i = ltb-true 0 (s.unsent i) b.1 in
      record {
        below = c.below;
        room = room;
        may = b.0;
        first = c.first;
        some = omega arith;
        has = omega arith;
        fits = omega arith;
        ends = go (s.unsent i) (dec_le (s.unsent i) (units_in day k n - s.offset));
      }
    where
      go : (a : ℕ) → Dec (a ≤ units_in day k n - s.offset)
          → (min a (units_in day k n - s.offset) ≡ a) ⊎ (s.offset + min a (units_in day k n - s.offset) ≡ units_in day k n)
      go a (yes p) = inl (omega arith)
      go a (no p) = inr (omega (arith, p))

  -- who is sent next, and for how long; nobody where the epoch is settled
  pub data Next (s : Sheet) : Choice → Type 0 where
    none_next : Settled s → Next s nobody
    next_one : (i : ℕ) → Stretch s i (min (s.unsent i) (units_in day k n - s.offset)) → Next s (packet i)

  pub next_is : (s : Sheet) → Next s (next_in day rates k n d s)
  unfolding next_in
  next_is s = go (ltb s.offset (units_in day k n)) refl
    where
      found : (c : Choice) → s.offset < units_in day k n → Says (candidate day rates k n d s.unsent) day.packets.till day.packets.count c → Next s c
      found _ room (none_counts h) = none_next (inr h)
      found _ room (chosen i c) = next_one i (length_of s i room c)

      go : (b : Bool) → ltb s.offset (units_in day k n) ≡ b
          → Next s (choose b (earliest (candidate day rates k n d s.unsent) day.packets.till day.packets.count) nobody)
      go true p =
          unfold choose in
          found _ (ltb-true _ _ p) (earliest_says (candidate day rates k n d s.unsent) day.packets.till day.packets.count)
      go false p = unfold choose in none_next (inl (ltb-false _ _ p))

  pub turn_is : (s : Sheet) → Turn s (turn_of day k n d s (next_in day rates k n d s))
  turn_is s = go (next_in day rates k n d s) (next_is s)
    where
      go : (c : Choice) → Next s c → Turn s (turn_of day k n d s c)
      go _ (none_next h) = unfold turn_of in rests h
      go _ (next_one i p) = unfold turn_of in goes i _ p

  -- what every stretch keeps holds after any number of turns
  pub turns_keep : (Inv : Sheet → Type 0) → ((s : Sheet) (i y : ℕ) → Stretch s i y → Inv s → Inv (sent day k n d s i y))
      → (t : ℕ) (s : Sheet) → Inv s → Inv (turns day rates k n d t s)
  unfolding turns
  turns_keep Inv keep zero s h = h
  turns_keep Inv keep (suc t) s h = go (turn_is (turns day rates k n d t s)) (turns_keep Inv keep t s h)
    where
      go : {a b : Sheet} → Turn a b → Inv a → Inv b
      go (rests p) q = q
      go {a} (goes i y p) q = keep a i y p q

  -- settled, nothing changes
  pub settled_rests : (s : Sheet) → Settled s → turn_of day k n d s (next_in day rates k n d s) ≡ s
  settled_rests s h = go _ (turn_is s)
    where
      go : (z : Sheet) → Turn s z → z ≡ s
      go _ (rests p) = refl
      go _ (goes i y p) = absurd (unsettled s i y p h)

  settles : (t : ℕ) (s : Sheet) → Settled (turns day rates k n d t s)
      ⊎ (unfinished day.packets.count (turns day rates k n d t s).unsent + t ≤ unfinished day.packets.count s.unsent)
  unfolding turns
  settles zero s = inr (omega arith)
  settles (suc t) s = go (turns day rates k n d t s) _ (turn_is (turns day rates k n d t s)) (settles t s)
    where
      go : (a b : Sheet) → Turn a b
          → Settled a ⊎ (unfinished day.packets.count a.unsent + t ≤ unfinished day.packets.count s.unsent)
          → Settled b ⊎ (unfinished day.packets.count b.unsent + suc t ≤ unfinished day.packets.count s.unsent)
      go a _ (rests p) h = inl p
      go a _ (goes i y p) (inl h) = absurd (unsettled a i y p h)
      go a _ (goes i y p) (inr h) = unfold sent in ended p.ends
        where
          ended : (y ≡ a.unsent i) ⊎ (a.offset + y ≡ units_in day k n)
              → Settled (sent day k n d a i y) ⊎ (unfinished day.packets.count (less a.unsent i y) + suc t ≤ unfinished day.packets.count s.unsent)
          ended (inl e) =
              inr (omega (arith, h, unfinished_ends day.packets.count a.unsent i y p.below (omega (arith, p.some, p.has)) e))
          ended (inr e) = inl (inl (unfold sent in omega (arith, e)))

  -- as many turns as packets settle the epoch
  pub settled : (s : Sheet) → Settled (turns day rates k n d day.packets.count s)
  settled s = go (turns day rates k n d day.packets.count s) (settles day.packets.count s)
    where
      go : (z : Sheet) → Settled z ⊎ (unfinished day.packets.count z.unsent + day.packets.count ≤ unfinished day.packets.count s.unsent) → Settled z
      go z (inl h) = h
      go z (inr h) = inr λ j q. over_none j q (candidate day rates k n d z.unsent j) refl
        where
          over_none : (j : ℕ) → j < day.packets.count → (b : Bool) → candidate day rates k n d z.unsent j ≡ b → b ≡ false
          over_none j q false p = refl
          over_none j q true p =
              let b = both (eligible day rates k n d j) (ltb 0 (z.unsent j)) (unfold candidate in p) in
              absurd (omega (
                arith,
                h,
                unfinished_most day.packets.count s.unsent,
                unfinished_some day.packets.count z.unsent j q (ltb-true 0 (z.unsent j) b.1),
              ))

  -- from a settled sheet on nothing changes
  pub turns_rest : (t more : ℕ) (s : Sheet) → Settled (turns day rates k n d t s) → turns day rates k n d (t + more) s ≡ turns day rates k n d t s
  unfolding turns
  turns_rest t zero s h = ap (λ (x : ℕ). turns day rates k n d x s) (add-zero t)
  turns_rest t (suc more) s h =
      ap (λ (x : ℕ). turns day rates k n d x s) (add-suc t more) ∙
      ap (λ (z : Sheet). turn_of day k n d z (next_in day rates k n d z)) (turns_rest t more s h) ∙
      settled_rests (turns day rates k n d t s) h
