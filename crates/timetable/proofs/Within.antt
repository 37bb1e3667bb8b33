-- What one epoch does to the units unsent. All that is sent goes to eligible packets; and for each time e, either all of it went to deadlines up to e, or every
-- eligible packet due by e is finished: the first packet with a later deadline is sent only when no candidate is due by e. Assumes nothing.
use Prim.Native.Nat.{ℕ, ◌+◌, ◌<◌, ◌≤◌}
use mathlib.Core.Path.{◌≡◌, refl, sym, ap, ◌∙◌}
use mathlib.Core.Bool.{Bool, true, false, ◌&&◌}
use mathlib.Core.Logic.{◌⊎◌, inl, inr}
use native.Mathlib.Omega.{arith}
use native.Mathlib.Decide.{dec_le}
use native.Mathlib.Nat.{le_trans}
use lib.Dec.{leb}
use borrow.Author.Tests.{le-leb, lt-ltb}
use Rattle.policy.specs.Rounds.{Day, Progress}
use Rattle.policy.specs.Carried.{carries}
use Rattle.policy.proofs.Left.{both, both_true, not_both_ways}
use Rattle.timetable.specs.Entries.{Sheet, eligible, candidate, units_in, less, sent, turns, begun}
use Rattle.timetable.proofs.Turning.{less_other, less_fewer, over, over_less_in, Stretch, Settled, turns_keep, settled}

-- packet i carries N/D
abbrev pub same : Progress → ℕ → ℕ → ℕ → Bool
same rates n d i = carries (rates.packet i) n d

-- .. and is due by e
abbrev pub due : Day → Progress → ℕ → ℕ → ℕ → ℕ → Bool
due day rates n d e i = same rates n d i && leb (day.packets.till i) e

-- from the units u at an epoch's start to those on the sheet s
pub record Sending (day : Day) (rates : Progress) (k n d : ℕ) (u : ℕ → ℕ) (s : Sheet) : Type 0 where
  pub fewer : (i : ℕ) → s.unsent i ≤ u i
  pub kept : (i : ℕ) → eligible day rates k n d i ≡ false → s.unsent i ≡ u i
  pub within : s.offset ≤ units_in day k n
  pub total : over day.packets.count (same rates n d) s.unsent + s.offset ≡ over day.packets.count (same rates n d) u
  pub first : (e : ℕ) → (over day.packets.count (due day rates n d e) s.unsent + s.offset ≡ over day.packets.count (due day rates n d e) u)
      ⊎ ((i : ℕ) → i < day.packets.count → eligible day rates k n d i ≡ true → day.packets.till i ≤ e → s.unsent i ≡ 0)

module _ (day : Day) (rates : Progress) (k n d : ℕ) where
  eligible_same : (i : ℕ) → eligible day rates k n d i ≡ true → same rates n d i ≡ true
  unfolding eligible
  eligible_same i h = (both (carries (rates.packet i) n d) _ h).0

  module _ (u : ℕ → ℕ) (s : Sheet) (i y : ℕ) (p : Stretch day rates k n d s i y) (old : Sending day rates k n d u s) where
    total' : over day.packets.count (same rates n d) (less s.unsent i y) + (s.offset + y) ≡ over day.packets.count (same rates n d) u
    total' =
        omega (arith, old.total, over_less_in day.packets.count (same rates n d) s.unsent i y p.below p.has (eligible_same i p.may))

    first' : (e : ℕ) → (over day.packets.count (due day rates n d e) (less s.unsent i y) + (s.offset + y) ≡ over day.packets.count (due day rates n d e) u)
        ⊎ ((j : ℕ) → j < day.packets.count → eligible day rates k n d j ≡ true → day.packets.till j ≤ e → less s.unsent i y j ≡ 0)
    first' e = go (dec_le (day.packets.till i) e) (old.first e)
      where
        finished : (day.packets.till i ≤ e → ⊥) → (j : ℕ) → j < day.packets.count → eligible day rates k n d j ≡ true → day.packets.till j ≤ e
            → Dec (s.unsent j ≤ 0) → less s.unsent i y j ≡ 0
        finished q j h m t (yes z) = omega (arith, less_fewer s.unsent i y j, z)
        finished q j h m t (no z) =
            absurd (q (le_trans (p.first j h (unfold candidate in both_true m (lt-ltb 0 (s.unsent j) (omega (arith, z))))) t))

        go : Dec (day.packets.till i ≤ e)
            → (over day.packets.count (due day rates n d e) s.unsent + s.offset ≡ over day.packets.count (due day rates n d e) u)
            ⊎ ((j : ℕ) → j < day.packets.count → eligible day rates k n d j ≡ true → day.packets.till j ≤ e → s.unsent j ≡ 0)
            → (over day.packets.count (due day rates n d e) (less s.unsent i y) + (s.offset + y) ≡ over day.packets.count (due day rates n d e) u)
            ⊎ ((j : ℕ) → j < day.packets.count → eligible day rates k n d j ≡ true → day.packets.till j ≤ e → less s.unsent i y j ≡ 0)
        go (yes q) (inl h) =
            inl (omega (
              arith,
              h,
              over_less_in day.packets.count (due day rates n d e) s.unsent i y p.below p.has
                  (both_true (eligible_same i p.may) (le-leb (day.packets.till i) e q)),
            ))
        go (yes q) (inr h) = absurd (omega (arith, p.some, p.has, h i p.below p.may q))
        go (no q) h = inr λ j g m t. finished q j g m t (dec_le (s.unsent j) 0)

  keeps : (u : ℕ → ℕ) (s : Sheet) (i y : ℕ) → Stretch day rates k n d s i y → Sending day rates k n d u s → Sending day rates k n d u (sent day k n d s i y)
  unfolding sent
  keeps u s i y p old =
      record {
        fewer = λ j. le_trans (less_fewer s.unsent i y j) (old.fewer j);
        kept = λ j h. less_other s.unsent i y j (λ e. not_both_ways p.may (ap (eligible day rates k n d) (sym e) ∙ h)) ∙ old.kept j h;
        within = p.fits;
        total = total' u s i y p old;
        first = first' u s i y p old;
      }

  -- the whole epoch
  pub sending : (sheet : Sheet) → Sending day rates k n d sheet.unsent (turns day rates k n d day.packets.count (begun sheet))
  sending sheet = turns_keep day rates k n d (Sending day rates k n d sheet.unsent) (keeps sheet.unsent) day.packets.count (begun sheet) start
    where
      start : Sending day rates k n d sheet.unsent (begun sheet)
      start =
          unfold begun in
          record {
            fewer = λ i. omega arith;
            kept = λ i h. refl;
            within = omega arith;
            total = omega arith;
            first = λ e. inl (omega arith);
          }

  -- for each e: all of a full epoch went to deadlines up to e, or every eligible packet due by e is finished
  pub either_or : (sheet : Sheet) (e : ℕ)
      → (over day.packets.count (due day rates n d e) (turns day rates k n d day.packets.count (begun sheet)).unsent + units_in day k n
      ≡ over day.packets.count (due day rates n d e) sheet.unsent)
      ⊎ ((i : ℕ) → i < day.packets.count → eligible day rates k n d i ≡ true → day.packets.till i ≤ e
      → (turns day rates k n d day.packets.count (begun sheet)).unsent i ≡ 0)
  either_or sheet e = go (turns day rates k n d day.packets.count (begun sheet)) (sending sheet) (settled day rates k n d (begun sheet))
    where
      nothing : (z : Sheet) (i : ℕ) → eligible day rates k n d i ≡ true → candidate day rates k n d z.unsent i ≡ false → z.unsent i ≡ 0
      nothing z i m h = at (dec_le (z.unsent i) 0)
        where
          at : Dec (z.unsent i ≤ 0) → z.unsent i ≡ 0
          at (yes q) = omega arith
          at (no q) =
              let c : candidate day rates k n d z.unsent i ≡ true = unfold candidate in both_true m (lt-ltb 0 (z.unsent i) (omega (arith, q))) in
              absurd (not_both_ways c h)

      go : (z : Sheet) → Sending day rates k n d sheet.unsent z → Settled day rates k n d z
          → (over day.packets.count (due day rates n d e) z.unsent + units_in day k n ≡ over day.packets.count (due day rates n d e) sheet.unsent)
          ⊎ ((i : ℕ) → i < day.packets.count → eligible day rates k n d i ≡ true → day.packets.till i ≤ e → z.unsent i ≡ 0)
      go z s (inr h) = inr λ i q m t. nothing z i m (h i q)
      go z s (inl h) = here (s.first e)
        where
          here : (over day.packets.count (due day rates n d e) z.unsent + z.offset ≡ over day.packets.count (due day rates n d e) sheet.unsent)
              ⊎ ((i : ℕ) → i < day.packets.count → eligible day rates k n d i ≡ true → day.packets.till i ≤ e → z.unsent i ≡ 0)
              → (over day.packets.count (due day rates n d e) z.unsent + units_in day k n ≡ over day.packets.count (due day rates n d e) sheet.unsent)
              ⊎ ((i : ℕ) → i < day.packets.count → eligible day rates k n d i ≡ true → day.packets.till i ≤ e → z.unsent i ≡ 0)
          here (inl q) = inl (omega (arith, q, h, s.within))
          here (inr q) = inr q
