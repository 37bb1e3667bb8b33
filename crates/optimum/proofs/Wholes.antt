-- Demand 3 of the whole call. What the reader reads back is the entries of the list (`plan_reads`), and the list is accepted; so this is demand 3 of the list.
-- Assumes nothing.
use Prim.Native.Nat.{ℕ, ◌*◌, ◌≤◌}
use mathlib.Core.Path.{◌≡◌, refl, sym, ap, subst, ◌∙◌}
use mathlib.Core.List.{List, [], ◌∷◌, ◌++◌}
use native.Mathlib.Omega.{arith}
use lib.ListN.{length, drop}
use Rattle.packets.specs.Outcome.{gives}
use Rattle.packets.specs.Limits.{air_bytes}
use Rattle.packets.specs.Records.{size_of}
use Rattle.packets.specs.List.{count_on, records_on}
use Rattle.timetable.specs.Entries.{Entry, entries_of, radio_moment}
use Rattle.timetable.specs.Costs.{cost_of, stretches_cost, Multiple}
use Rattle.timetable.specs.Right.{Each, EndsBy, Ordered}
use Rattle.timetable.proofs.Lists.{timetable}
use Rattle.timetable.proofs.Costs.{entries_cost}
use Rattle.plan.specs.Entries.{entry_numbers}
use Rattle.plan.specs.Frame.{plan_on, read_outcome, entries_after}
use Rattle.planner.specs.Whole.{plan_numbers, frame_after}
use Rattle.planner.proofs.Reading.{Plans, plans, plan_reads}
use Rattle.optimum.specs.Rival.{Fraction, whole, Equal}
use Rattle.optimum.specs.Optimum.{Optimum, bytes_in, all_units, InWindow}
use Rattle.optimum.specs.Whole.{entries_said, WholeOptimum}
use Rattle.optimum.proofs.Lists.{optimum}

-- an entry as a plan says it
said : Entry → Entry
said e = record { packet = e.packet; start = e.start; R = e.R; D = e.D; from = e.from; to = e.to; N = 0 }

-- entries as a plan says them
all_said : List Entry → List Entry
all_said [] = []
all_said (e ∷ entries) = said e ∷ all_said entries

-- what stands in a plan's numbers is said again, whatever stands behind them
said_again : (entries : List Entry) (behind : List ℕ) → entries_said (length entries) (plan_numbers entries ++ behind) ≡ all_said entries
unfolding entries_said plan_numbers all_said said
said_again [] behind = refl
said_again (e ∷ entries) behind = ap (λ (l : List Entry). said e ∷ l) (said_again entries behind)

-- N has no part in the bytes that entries send
said_bytes : (entries : List Entry) (i : ℕ) → bytes_in all_units (all_said entries) i ≡ bytes_in all_units entries i
unfolding bytes_in all_said said
said_bytes [] i = refl
said_bytes (e ∷ entries) i = rw (said_bytes entries i)

-- nor in whether they are inside their windows
said_windows : (count : ℕ) (records : List ℕ) (entries : List Entry) → Each (InWindow count records) entries → Each (InWindow count records) (all_said entries)
unfolding all_said said radio_moment
said_windows count records [] w = w
said_windows count records (e ∷ entries) w =
    (record { packet_is = w.0.packet_is; arrived = w.0.arrived; in_time = w.0.in_time }, said_windows count records entries w.1)

-- nor in their order
said_ends : (e : Entry) (entries : List Entry) → Each (λ f. EndsBy e f.start f.from) entries → Each (λ f. EndsBy (said e) f.start f.from) (all_said entries)
unfolding all_said said
said_ends e [] o = o
said_ends e (f ∷ entries) o = (o.0, said_ends e entries o.1)

said_ordered : (entries : List Entry) → Ordered entries → Ordered (all_said entries)
unfolding all_said
said_ordered [] o = o
said_ordered (e ∷ entries) o = (said_ends e entries o.0, said_ordered entries o.1)

-- nor in what they cost, and in which units
said_cost : (M : ℕ) (entries : List Entry) → stretches_cost M (all_said entries) ≡ stretches_cost M entries
unfolding stretches_cost all_said said
said_cost M [] = refl
said_cost M (e ∷ entries) = rw (said_cost M entries)

said_multiple : (M : ℕ) (entries : List Entry) → Each (Multiple M) (all_said entries) → Each (Multiple M) entries
unfolding all_said said
said_multiple M [] m = m
said_multiple M (e ∷ entries) m = (m.0, said_multiple M entries m.1)

-- demand 3, for every input and frame that the whole call accepts
pub whole_optimum : (list frame : List ℕ) → WholeOptimum list frame
whole_optimum list frame rounds entries cost h lent long =
    record {
      read = rw (n_is, cost_is) told;
      sent = λ i within. subst (λ (x : Fraction). Equal x (whole (air_bytes (size_of (records_on list) i)))) (sym (same_bytes i)) (best.sent i within);
      windows = subst (Each (InWindow (count_on list) (records_on list))) (sym same) (said_windows (count_on list) (records_on list) own best.windows);
      ordered = subst Ordered (sym same) (said_ordered own (timetable (count_on list) (records_on list) p.accepted).ordered);
      paid = λ M m.
          ap (stretches_cost M) same ∙ said_cost M own
          ∙ entries_cost (count_on list) (records_on list) p.accepted M (said_multiple M own (subst (Each (Multiple M)) same m))
          ∙ ap (λ (x : ℕ). x * M) (sym cost_is);
      below = λ slots bytes rival. rw cost_is (best.rounded slots bytes rival);
    }
  where
    p : Plans list (length frame) (rounds ∷ entries ∷ cost ∷ [])
    p = plans list (length frame) (rounds ∷ entries ∷ cost ∷ []) h

    own : List Entry
    own = entries_of (count_on list) (records_on list)

    best : Optimum (count_on list) (records_on list)
    best = optimum (count_on list) (records_on list) p.accepted

    n_is : entries ≡ length own
    n_is = let t = p.told in cc

    cost_is : cost ≡ cost_of (count_on list) (records_on list)
    cost_is = let t = p.told in cc

    held : entry_numbers * length own ≤ length lent
    held = omega (arith, (timetable (count_on list) (records_on list) p.accepted).few)

    told : read_outcome (plan_on (frame_after list frame)) (length lent) ≡ gives (length own ∷ cost_of (count_on list) (records_on list) ∷ [])
    told = (plan_reads list frame (rounds ∷ entries ∷ cost ∷ []) lent h held).0

    filled : entries_after (plan_on (frame_after list frame)) lent ≡ plan_numbers own ++ drop (entry_numbers * length own) lent
    filled = (plan_reads list frame (rounds ∷ entries ∷ cost ∷ []) lent h held).1

    same : entries_said entries (entries_after (plan_on (frame_after list frame)) lent) ≡ all_said own
    same = rw (n_is, filled) (said_again own (drop (entry_numbers * length own) lent))

    same_bytes : (i : ℕ) → bytes_in all_units (entries_said entries (entries_after (plan_on (frame_after list frame)) lent)) i ≡ bytes_in all_units own i
    same_bytes i = ap (λ (l : List Entry). bytes_in all_units l i) same ∙ said_bytes own i
