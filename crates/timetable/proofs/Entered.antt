-- The entries, one after the other. Each new one stands behind all others: it begins at the offset that its epoch has reached. It sends what its packet and its
-- epoch gain by it, and it ends a packet or fills the epoch. Assumes nothing.
use Prim.Native.Nat.{ℕ, zero, suc, ◌+◌, ◌-◌, ◌<◌, ◌≤◌}
use mathlib.Core.Path.{◌≡◌, refl, sym, ap, ◌∙◌}
use mathlib.Core.Bool.{Bool, true, false}
use mathlib.Core.Logic.{◌⊎◌, inl, inr}
use mathlib.Core.List.{List, [], ◌∷◌, ◌++◌}
use native.Mathlib.Omega.{arith}
use native.Mathlib.Decide.{ℕ_discrete}
use lib.ListN.{length, length-append}
use lib.Dec.{eqb}
use borrow.Author.Tests.{eq-eqb, ne_eqb}
use Rattle.policy.specs.Windows.{Given, none, rate, inside, only_if}
use Rattle.policy.specs.Rounds.{Day, Progress}
use Rattle.policy.specs.Carried.{carries}
use Rattle.policy.proofs.Left.{both, inside_true}
use Rattle.policy.proofs.Carry.{carries_is}
use Rattle.timetable.specs.Setting.{setting}
use Rattle.timetable.specs.Entries.{Entry, Sheet, eligible, units_in, units_of, less, sent, turns, begun, filled, sheet_at}
use Rattle.timetable.specs.Right.{Each, Right, EndsBy, Ordered, units_where, of_packet, in_epoch}
use Rattle.timetable.proofs.Turning.{less_same, less_other, unfinished, unfinished_most, unfinished_less, unfinished_ends, unfinished_some, Stretch, turns_keep}
use Rattle.timetable.proofs.NeverLate.{Rated, reached}

-- ## One entry more

pub each_more : (P : Entry → Type 0) (entries : List Entry) (e : Entry) → Each P entries → P e → Each P (entries ++ (e ∷ []))
each_more P [] e h p = (p, tt)
each_more P (f ∷ entries) e h p = (h.0, each_more P entries e h.1 p)

pub each_map : {P Q : Entry → Type 0} → ((e : Entry) → P e → Q e) → (entries : List Entry) → Each P entries → Each Q entries
each_map h [] all = tt
each_map h (e ∷ entries) all = (h e all.0, each_map h entries all.1)

ordered_more : (entries : List Entry) (e : Entry) → Ordered entries → Each (λ f. EndsBy f e.start e.from) entries → Ordered (entries ++ (e ∷ []))
ordered_more [] e h p = (tt, tt)
ordered_more (f ∷ entries) e h p = (each_more (λ g. EndsBy f g.start g.from) entries e h.0 p.0, ordered_more entries e h.1 p.1)

pub units_more : (test : Entry → Bool) (entries : List Entry) (e : Entry)
    → units_where test (entries ++ (e ∷ [])) ≡ units_where test entries + only_if (test e) (e.to - e.from)
unfolding units_where
units_more test [] e = omega arith
units_more test (f ∷ entries) e = omega (arith, units_more test entries e)

-- no units at a start that no entry has
units_none : (t : ℕ) (entries : List Entry) → Each (λ e. e.start < t) entries → units_where (in_epoch t) entries ≡ 0
unfolding units_where
units_none t [] h = refl
units_none t (e ∷ entries) h = omega (arith, units_none t entries h.1, out)
  where
    out : only_if (eqb e.start t) (e.to - e.from) ≡ 0
    out = unfold only_if in rw (ne_eqb e.start t (λ q. omega (arith, h.0, q))) refl

-- a test that takes the entry, or does not
units_in_lem : (test : Entry → Bool) (entries : List Entry) (e : Entry) (y : ℕ) → test e ≡ true → e.to ≡ e.from + y
    → units_where test (entries ++ (e ∷ [])) ≡ units_where test entries + y
units_in_lem test entries e y h q = omega (arith, units_more test entries e, only)
  where
    only : only_if (test e) (e.to - e.from) ≡ y
    only = unfold only_if in rw h (omega (arith, q))

units_out : (test : Entry → Bool) (entries : List Entry) (e : Entry) → test e ≡ false → units_where test (entries ++ (e ∷ [])) ≡ units_where test entries
units_out test entries e h = omega (arith, units_more test entries e, only)
  where
    only : only_if (test e) (e.to - e.from) ≡ 0
    only = unfold only_if in rw h refl

-- the entry of a stretch
abbrev pub new_entry : Day → ℕ → ℕ → ℕ → ℕ → ℕ → ℕ → Entry
new_entry day k n d i x y = record { packet = i; start = day.epochs.from k; R = setting n d; D = d; from = x; to = x + y; N = n }

-- it stands in one of the first k epochs
abbrev Past : Day → ℕ → Entry → Type 0
Past day k e = (j : ℕ) × (j < k) × (e.start ≡ day.epochs.from j)

-- ## In an epoch

module _ (day : Day) (rates : Progress) (k n d : ℕ) (k_is : k < day.epochs.count) (p : rates.epoch k ≡ rate n d) where
  record Entering (s z : Sheet) : Type 0 where
    right : Each (Right day rates) z.entries
    past : Each (Past day (suc k)) z.entries
    behind : Each (λ e. EndsBy e (day.epochs.from k) z.offset) z.entries
    ordered : Ordered z.entries
    packet_units : (i : ℕ) → units_where (of_packet i) z.entries + z.unsent i ≡ units_of day rates i
    epoch_units : units_where (in_epoch (day.epochs.from k)) z.entries ≡ z.offset
    other_units : (t : ℕ) → (t ≡ day.epochs.from k → ⊥) → units_where (in_epoch t) z.entries ≡ units_where (in_epoch t) s.entries
    counted : (length z.entries + unfinished day.packets.count z.unsent ≤ day.packets.count + k)
        ⊎ ((z.offset ≡ units_in day k n) × (length z.entries + unfinished day.packets.count z.unsent ≤ suc (day.packets.count + k)))

  module _ (s z : Sheet) (i y : ℕ) (q : Stretch day rates k n d z i y) where
    abbrev e : Entry
    e = new_entry day k n d i z.offset y

    pub new_right : Right day rates e
    new_right =
        let b = both (carries (rates.packet i) n d) (inside day.epochs (day.packets.from i) (day.packets.till i) k) (unfold eligible in q.may) in
        let w = inside_true day.epochs (day.packets.from i) (day.packets.till i) k b.1 in
        record {
          packet_is = q.below;
          epoch = k;
          epoch_is = k_is;
          starts = refl;
          carries = p;
          assigned = carries_is (rates.packet i) n d b.0;
          arrived = w.0;
          in_time = w.1;
          set = refl;
          some = omega (arith, q.some);
          fits = q.fits;
        }

    module _ (old : Entering s z) where
      packet_units' : (j : ℕ) → units_where (of_packet j) (z.entries ++ (e ∷ [])) + less z.unsent i y j ≡ units_of day rates j
      packet_units' j = go (ℕ_discrete i j)
        where
          go : Dec (i ≡ j) → units_where (of_packet j) (z.entries ++ (e ∷ [])) + less z.unsent i y j ≡ units_of day rates j
          go (yes g) =
              omega (
                arith,
                units_in_lem (of_packet j) z.entries e y (eq-eqb i j g) refl,
                old.packet_units j,
                less_same z.unsent i y,
                ap (less z.unsent i y) g,
                ap z.unsent g,
                q.has,
              )
          go (no g) =
              omega (
                arith,
                units_out (of_packet j) z.entries e (ne_eqb i j g),
                old.packet_units j,
                less_other z.unsent i y j (λ w. g (sym w)),
              )

      counted' : (length (z.entries ++ (e ∷ [])) + unfinished day.packets.count (less z.unsent i y) ≤ day.packets.count + k)
          ⊎ ((z.offset + y ≡ units_in day k n) × (length (z.entries ++ (e ∷ [])) + unfinished day.packets.count (less z.unsent i y) ≤ suc (day.packets.count + k)))
      counted' = go old.counted q.ends
        where
          more : length (z.entries ++ (e ∷ [])) ≡ suc (length z.entries)
          more = omega (arith, length-append z.entries (e ∷ []))

          go : (length z.entries + unfinished day.packets.count z.unsent ≤ day.packets.count + k)
              ⊎ ((z.offset ≡ units_in day k n) × (length z.entries + unfinished day.packets.count z.unsent ≤ suc (day.packets.count + k)))
              → (y ≡ z.unsent i) ⊎ (z.offset + y ≡ units_in day k n)
              → (length (z.entries ++ (e ∷ [])) + unfinished day.packets.count (less z.unsent i y) ≤ day.packets.count + k)
              ⊎ ((z.offset + y ≡ units_in day k n) × (length (z.entries ++ (e ∷ [])) + unfinished day.packets.count (less z.unsent i y) ≤ suc (day.packets.count + k)))
          go (inr h) g = absurd (omega (arith, h.0, q.room))
          go (inl h) (inl g) =
              inl (omega (arith, h, more, unfinished_ends day.packets.count z.unsent i y q.below (omega (arith, q.some, q.has)) g))
          go (inl h) (inr g) =
              inr (g, omega (arith, h, more, unfinished_less day.packets.count z.unsent i y q.below))

      enters : Entering s (sent day k n d z i y)
      unfolding sent
      enters =
          record {
            right = each_more (Right day rates) z.entries e old.right new_right;
            past = each_more (Past day (suc k)) z.entries e old.past (k, omega arith, refl);
            behind = each_more (λ f. EndsBy f (day.epochs.from k) (z.offset + y)) z.entries e (each_map later z.entries old.behind) (inr (refl, omega arith));
            ordered = ordered_more z.entries e old.ordered old.behind;
            packet_units = packet_units';
            epoch_units = omega (arith, units_in_lem (in_epoch (day.epochs.from k)) z.entries e y (eq-eqb (day.epochs.from k) (day.epochs.from k) refl) refl, old.epoch_units);
            other_units = λ t g. omega (arith, units_out (in_epoch t) z.entries e (ne_eqb (day.epochs.from k) t (λ w. g (sym w))), old.other_units t g);
            counted = counted';
          }
        where
          later : (f : Entry) → EndsBy f (day.epochs.from k) z.offset → EndsBy f (day.epochs.from k) (z.offset + y)
          later f (inl h) = inl h
          later f (inr h) = inr (h.0, omega (arith, h.1))

-- ## Epoch after epoch

module _ (day : Day) (rates : Progress) (r : Rated day rates) where
  pub record Entered (k : ℕ) (s : Sheet) : Type 0 where
    pub right : Each (Right day rates) s.entries
    pub past : Each (λ e. (j : ℕ) × (j < k) × (e.start ≡ day.epochs.from j)) s.entries
    pub ordered : Ordered s.entries
    pub packet_units : (i : ℕ) → units_where (of_packet i) s.entries + s.unsent i ≡ units_of day rates i
    pub epoch_units : (j : ℕ) → j < k → units_where (in_epoch (day.epochs.from j)) s.entries ≡ reached day rates r j
    pub counted : length s.entries + unfinished day.packets.count s.unsent ≤ day.packets.count + k

  starts_rise : (j k : ℕ) → j < k → k < day.epochs.count → day.epochs.from j < day.epochs.from k
  starts_rise j k h q = omega (arith, r.rising j k h q, r.proper.epoch j (omega arith))

  module _ (k : ℕ) (k_is : k < day.epochs.count) (s : Sheet) (old : Entered k s) where
    earlier : Each (λ e. e.start < day.epochs.from k) s.entries
    earlier = each_map (λ e h. omega (arith, starts_rise h.0 k h.1 k_is, h.2)) s.entries old.past

    still_past : Each (Past day (suc k)) s.entries
    still_past = each_map (λ e h. (h.0, omega (arith, h.1), h.2)) s.entries old.past

    -- at the start of the epoch
    starting : (n d : ℕ) (p : rates.epoch k ≡ rate n d) → Entering day rates k n d k_is p s (begun s)
    starting n d p =
        unfold begun in
        record {
          right = old.right;
          past = still_past;
          behind = each_map (λ e h. inl h) s.entries earlier;
          ordered = old.ordered;
          packet_units = old.packet_units;
          epoch_units = units_none (day.epochs.from k) s.entries earlier;
          other_units = λ t g. refl;
          counted = inl old.counted;
        }

    -- the units of earlier epochs, and of this one
    by_epoch : (z : Sheet) → z.offset ≡ reached day rates r k → units_where (in_epoch (day.epochs.from k)) z.entries ≡ z.offset
        → ((t : ℕ) → (t ≡ day.epochs.from k → ⊥) → units_where (in_epoch t) z.entries ≡ units_where (in_epoch t) s.entries)
        → (j : ℕ) → j < suc k → units_where (in_epoch (day.epochs.from j)) z.entries ≡ reached day rates r j
    by_epoch z w this others j h = go (ℕ_discrete j k)
      where
        go : Dec (j ≡ k) → units_where (in_epoch (day.epochs.from j)) z.entries ≡ reached day rates r j
        go (yes q) =
            ap (λ (x : ℕ). units_where (in_epoch (day.epochs.from x)) z.entries) q ∙ this ∙ w ∙ ap (reached day rates r) (sym q)
        go (no q) =
            others (day.epochs.from j) (λ g. omega (arith, g, starts_rise j k (omega (arith, q)) k_is)) ∙
            old.epoch_units j (omega (arith, q))

    next : (x : Given) → rates.epoch k ≡ x → (filled day rates k x s).offset ≡ reached day rates r k → Entered (suc k) (filled day rates k x s)
    unfolding filled
    next none p w =
        unfold begun in
        record {
          right = old.right;
          past = still_past;
          ordered = old.ordered;
          packet_units = old.packet_units;
          epoch_units = by_epoch (begun s) w (unfold begun in units_none (day.epochs.from k) s.entries earlier) (λ t g. unfold begun in refl);
          counted = omega (arith, old.counted);
        }
    next (rate n d) p w =
        let z =
        turns_keep day rates k n d (Entering day rates k n d k_is p s)
        (λ z i y q inv. enters day rates k n d k_is p s z i y q inv) day.packets.count (begun s) (starting n d p) in
        record {
          right = z.right;
          past = z.past;
          ordered = z.ordered;
          packet_units = z.packet_units;
          epoch_units = by_epoch (turns day rates k n d day.packets.count (begun s)) w z.epoch_units z.other_units;
          counted = most (turns day rates k n d day.packets.count (begun s)) z.counted;
        }
      where
        most : (z : Sheet)
            → (length z.entries + unfinished day.packets.count z.unsent ≤ day.packets.count + k)
            ⊎ ((z.offset ≡ units_in day k n) × (length z.entries + unfinished day.packets.count z.unsent ≤ suc (day.packets.count + k)))
            → length z.entries + unfinished day.packets.count z.unsent ≤ day.packets.count + suc k
        most z (inl h) = omega (arith, h)
        most z (inr h) = omega (arith, h.1)

  pub entered : (k : ℕ) → k ≤ day.epochs.count → Entered k (sheet_at day rates k)
  unfolding sheet_at
  entered zero h =
      record {
        right = tt;
        past = tt;
        ordered = tt;
        packet_units = λ i. unfold units_where in omega arith;
        epoch_units = λ j q. absurd (omega arith);
        counted = omega (arith, unfinished_most day.packets.count (units_of day rates));
      }
  entered (suc k) h = next k h (sheet_at day rates k) (entered k (omega arith)) (rates.epoch k) refl refl

  -- before a stretch, the entries are fewer than packets and epochs
  pub room_for_one : (k n d : ℕ) → k < day.epochs.count → rates.epoch k ≡ rate n d → (t i y : ℕ)
      → Stretch day rates k n d (turns day rates k n d t (begun (sheet_at day rates k))) i y
      → length (turns day rates k n d t (begun (sheet_at day rates k))).entries < day.packets.count + k
  room_for_one k n d k_is p t i y q = go (turns day rates k n d t (begun (sheet_at day rates k))) q counting
    where
      old : Entered k (sheet_at day rates k)
      old = entered k (omega arith)

      counting : (length (turns day rates k n d t (begun (sheet_at day rates k))).entries
          + unfinished day.packets.count (turns day rates k n d t (begun (sheet_at day rates k))).unsent ≤ day.packets.count + k)
          ⊎ (((turns day rates k n d t (begun (sheet_at day rates k))).offset ≡ units_in day k n)
          × (length (turns day rates k n d t (begun (sheet_at day rates k))).entries
          + unfinished day.packets.count (turns day rates k n d t (begun (sheet_at day rates k))).unsent ≤ suc (day.packets.count + k)))
      counting =
          (turns_keep day rates k n d (Entering day rates k n d k_is p (sheet_at day rates k))
          (λ z j w g inv. enters day rates k n d k_is p (sheet_at day rates k) z j w g inv) t (begun (sheet_at day rates k))
          (starting k k_is (sheet_at day rates k) old n d p)).counted

      go : (z : Sheet) → Stretch day rates k n d z i y
          → (length z.entries + unfinished day.packets.count z.unsent ≤ day.packets.count + k)
          ⊎ ((z.offset ≡ units_in day k n) × (length z.entries + unfinished day.packets.count z.unsent ≤ suc (day.packets.count + k)))
          → length z.entries < day.packets.count + k
      go z g (inl h) = omega (arith, h, unfinished_some day.packets.count z.unsent i g.below (omega (arith, g.some, g.has)))
      go z g (inr h) = absurd (omega (arith, h.0, g.room))
