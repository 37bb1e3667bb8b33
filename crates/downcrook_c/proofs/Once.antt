-- Nothing is lost when an outcome is shown as numbers. No refusal has the number 0 (`Numbered`, proved of each operation's outcome), so a first number of 0 says
-- that the call did its work (`worked`), and different outcomes are shown as different numbers (`shown_once`). Assumes nothing.
use Prim.Native.Nat.{ℕ, zero, suc, ◌<◌}
use mathlib.Core.Path.{◌≡◌}
use mathlib.Core.List.{List, ◌∷◌}
use mathlib.Core.Bool.{Bool, true, false}
use native.Mathlib.Omega.{arith}
use lib.Dec.{lit<}
use Rattle.packets.specs.Outcome.{Outcome, gives, refuses, ◌when◌else◌, ◌then◌, in_order}
use Rattle.packets.specs.Records.{record_test, record_at, record_tests, memory_tests}
use Rattle.packets.specs.Wire.{table_tests}
use Rattle.packets.specs.List as lists
use Rattle.policy.specs.Answer.{rates_outcome}
use Rattle.timetable.specs.Answer.{timetables_outcome}
use Rattle.plan.specs.Entries.{entry_test, entry_at, entry_tests}
use Rattle.plan.specs.Frame as plans
use Rattle.planner.specs.Whole.{packets_outcome, plan_outcome}
use Rattle.downcrook_c.specs.Shown.{shown}

-- an outcome that gives values, or refuses with a number above 0
pub data Numbered : Outcome → Type 0 where
  values : {given : List ℕ} → Numbered (gives given)
  number : {n p : ℕ} → 0 < n → Numbered (refuses n p)

-- ---- what is shown

-- a first number of 0: the call gives what stands behind the place
pub worked : (count : ℕ) {o : Outcome} → Numbered o → (place : ℕ) (given : List ℕ) → shown count o ≡ 0 ∷ place ∷ given → o ≡ gives given
worked count values place given e = cc
worked count (number {n = n} above) place given e = let z : n ≡ 0 = cc in absurd (omega arith)

-- outcomes that are shown alike are one
pub shown_once : (count : ℕ) {o u : Outcome} → Numbered o → Numbered u → shown count o ≡ shown count u → o ≡ u
shown_once count some (values {given = given}) e = worked count some 0 given e
shown_once count values (number {n = n} above) e = let z : n ≡ 0 = cc in absurd (omega arith)
shown_once count (number {n = n} {p = p} above) (number {n = m} {p = q} other) e = let f : n ≡ m = cc in let g : p ≡ q = cc in cc

-- ---- the outcome of every operation

numbered_values : (given : List ℕ) → Numbered (gives given)
numbered_values given = values

numbered_when : (n p : ℕ) (test : Bool) {rest : Outcome} → 0 < n → Numbered rest → Numbered (refuses n p when test else rest)
unfolding ◌when◌else◌
numbered_when n p true above some = number above
numbered_when n p false above some = some

numbered_then : {first next : Outcome} → Numbered first → Numbered next → Numbered (first then next)
unfolding ◌then◌
numbered_then values later = later
numbered_then (number above) later = number above

numbered_in_order : (test : ℕ → Outcome) → ((i : ℕ) → Numbered (test i)) → (n i : ℕ) → Numbered (in_order test n i)
unfolding in_order
numbered_in_order test each zero i = values
numbered_in_order test each (suc n) i = numbered_then (each i) (numbered_in_order test each n (suc i))

ruleset laws = (lit<, numbered_values, numbered_when, numbered_then, numbered_in_order)

records_numbered : (n i : ℕ) (records : List ℕ) → Numbered (record_tests n i records)
unfolding record_tests record_at record_test
records_numbered n i records = numbered_in_order _ (λ (k : ℕ). search laws depth 12) n i

entries_numbered : (n i : ℕ) (entries : List ℕ) → Numbered (entry_tests n i entries)
unfolding entry_tests entry_at entry_test
entries_numbered n i entries = numbered_in_order _ (λ (k : ℕ). search laws depth 12) n i

pub judge_packets_numbered : (count : ℕ) (records : List ℕ) → Numbered (memory_tests count records)
unfolding memory_tests
judge_packets_numbered count records = search (laws, records_numbered) depth 12

pub read_list_numbered : (bytes : List ℕ) (room : ℕ) → Numbered (lists.read_outcome bytes room)
unfolding lists.read_outcome table_tests lists.room_test
read_list_numbered bytes room = search (laws, records_numbered) depth 12

pub write_list_numbered : (count : ℕ) (records : List ℕ) (room : ℕ) → Numbered (lists.write_outcome count records room)
unfolding lists.write_outcome
write_list_numbered count records room = search (laws, judge_packets_numbered) depth 12

pub epoch_rates_numbered : (count : ℕ) (records : List ℕ) (room : ℕ) → Numbered (rates_outcome count records room)
unfolding rates_outcome
epoch_rates_numbered count records room = search (laws, judge_packets_numbered) depth 12

pub timetables_numbered : (count : ℕ) (records : List ℕ) (room : ℕ) → Numbered (timetables_outcome count records room)
unfolding timetables_outcome
timetables_numbered count records room = search (laws, judge_packets_numbered) depth 12

pub plan_list_numbered : (list : List ℕ) (room : ℕ) → Numbered (plan_outcome list room)
unfolding plan_outcome packets_outcome table_tests
plan_list_numbered list room = search (laws, records_numbered) depth 12

pub read_plan_numbered : (plan : List ℕ) (room : ℕ) → Numbered (plans.read_outcome plan room)
unfolding plans.read_outcome table_tests plans.room_test
read_plan_numbered plan room = search (laws, entries_numbered) depth 12

pub write_plan_numbered : (count : ℕ) (entries : List ℕ) (cost room : ℕ) → Numbered (plans.write_outcome count entries cost room)
unfolding plans.write_outcome plans.memory_tests
write_plan_numbered count entries cost room = search (laws, entries_numbered) depth 12
