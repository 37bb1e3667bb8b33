-- A plan made here is never refused by the plan writer for its entries or its cost: the entries of accepted packets are 1 to 191, each passes the tests of an
-- entry, and the radio cost fits. Assumes nothing.
use Prim.Native.Nat.{ℕ, zero, suc, ◌+◌, ◌*◌, ◌<◌, ◌≤◌, ◌^◌}
use mathlib.Core.Path.{◌≡◌, refl, ap, subst, ◌∙◌}
use mathlib.Core.List.{List, [], ◌∷◌, ◌++◌}
use native.Mathlib.Omega.{arith}
use lib.ListN.{length, length-append}
use Rattle.packets.specs.Records.{Accepted}
use Rattle.timetable.specs.Entries.{Entry, entries_of}
use Rattle.timetable.specs.Right.{Each, Figured}
use Rattle.timetable.specs.Costs.{cost_of}
use Rattle.timetable.proofs.Lists.{timetable, figured}
use Rattle.timetable.proofs.Costs.{cost_fits}
use Rattle.plan.specs.Entries.{entry_numbers, field_of}
use Rattle.plan.proofs.Judging.{SoundAt, sound_entries, tests_past}
use Rattle.plan.proofs.Framing.{Fitting}
use Rattle.timetable.specs.Steps.{first_numbers}
use Rattle.planner.specs.Whole.{plan_numbers}

-- six numbers for each entry
pub length_numbers : (entries : List Entry) → length (plan_numbers entries) ≡ entry_numbers * length entries
unfolding plan_numbers
length_numbers [] = omega arith
length_numbers (e ∷ entries) = omega (arith, length_numbers entries)

-- they are the first six of each seven
pub numbers_six : (entries : List Entry) → first_numbers 6 entries ≡ plan_numbers entries
unfolding plan_numbers first_numbers
numbers_six [] = refl
numbers_six (e ∷ entries) = ap (λ (l : List ℕ). e.packet ∷ e.start ∷ e.R ∷ e.D ∷ e.from ∷ e.to ∷ l) (numbers_six entries)

-- entries whose figures are in range are sound, each at its place
sound_numbers : (entries : List Entry) → Each Figured entries → (k : ℕ) → k < length entries → SoundAt (plan_numbers entries) k
unfolding plan_numbers
sound_numbers [] fig k h = absurd (omega arith)
sound_numbers (e ∷ entries) fig zero h =
    let f = fig.0 in
    record {
      packet_fits = f.packet_fits;
      start_fits = f.start_most;
      r_some = f.r_some;
      r_fits = f.r_fits;
      d_some = f.d_some;
      d_fits = f.d_most;
      rising = f.some;
      to_fits = f.to_fits;
    }
sound_numbers (e ∷ entries) fig (suc k) h =
    let next : (j : ℕ) → field_of (plan_numbers entries) k j ≡ field_of (plan_numbers (e ∷ entries)) (suc k) j = λ j. later e entries k j in
    let s = sound_numbers entries fig.1 k (omega arith) in
    record {
      packet_fits = subst (λ (x : ℕ). x < 2 ^ 6) (next 0) s.packet_fits;
      start_fits = subst (λ (x : ℕ). x < 86400) (next 1) s.start_fits;
      r_some = subst (λ (x : ℕ). 0 < x) (next 2) s.r_some;
      r_fits = subst (λ (x : ℕ). x < 2 ^ 22) (next 2) s.r_fits;
      d_some = subst (λ (x : ℕ). 0 < x) (next 3) s.d_some;
      d_fits = subst (λ (x : ℕ). x ≤ 86400) (next 3) s.d_fits;
      rising = omega (arith, s.rising, next 4, next 5);
      to_fits = subst (λ (x : ℕ). x < 2 ^ 39) (next 5) s.to_fits;
    }
  where
    later : (e : Entry) (entries : List Entry) (k j : ℕ) → field_of (plan_numbers entries) k j ≡ field_of (plan_numbers (e ∷ entries)) (suc k) j
    later e entries k j =
        let n : entry_numbers * suc k + j ≡ suc (suc (suc (suc (suc (suc (entry_numbers * k + j)))))) = omega arith in
        rw n

-- accepted packets: what they are planned to fits the plan writer, whatever stands behind it in memory
pub fitting : (count : ℕ) (records behind : List ℕ) → Accepted count records
    → Fitting (length (entries_of count records)) (plan_numbers (entries_of count records) ++ behind) (cost_of count records)
fitting count records behind accepted =
    let t = timetable count records accepted in
    let long = length_numbers (entries_of count records) in
    record {
      some = t.some;
      few = t.few;
      held = omega (arith, long, length-append (plan_numbers (entries_of count records)) behind);
      small = cost_fits count records accepted;
      sound =
          tests_past (length (entries_of count records)) (plan_numbers (entries_of count records)) behind (omega (arith, long))
          ∙ sound_entries (length (entries_of count records)) 0 (plan_numbers (entries_of count records))
          (λ k lo hi. sound_numbers (entries_of count records) (figured count records accepted) k (omega arith));
    }
