-- Answers of wrong planners that the whole call's promise does not admit, on the worked lists. Frames of 3,357 bytes. Assumes nothing.
use Prim.Native.Nat.{ℕ}
use mathlib.Core.Path.{◌≡◌, refl, sym, ap, ◌∙◌}
use mathlib.Core.List.{List, [], ◌∷◌, ◌++◌}
use native.Mathlib.Omega.{arith}
use lib.ListN.{length, drop, replicate}
use Rattle.bits.specs.Field.{digit, bit, spelt, field_at}
use Rattle.bits.specs.Table.{total, rows, fields_at}
use Rattle.packets.specs.Outcome.{gives, refuses}
use Rattle.packets.specs.List.{count_on, records_on}
use Rattle.packets.specs.declared.refusal.Refusal.{Refusal}
use Rattle.packets.specs.declared.refusal.Refusal.TheVariants.{EntryCount}
use Rattle.packets.proofs.Answers.{refusal_gives}
use Rattle.timetable.specs.Entries.{entries_of}
use Rattle.plan.specs.Frame.{plan_on, read_outcome, entries_after}
use Rattle.std.specs.Prelude.{Result, Ok, Err}
use Rattle.timetable.specs.declared.Timetable.{Timetable}
use Rattle.planner.specs.Whole.{plan_numbers, plan_answer_of, plan_outcome, Whole}
use Rattle.planner.proofs.Reading.{plans, plan_reads}
use Rattle.planner.proofs.Cases.{A, B, C, cases}

-- what the promise says of a list's answer, in any frame of 3,357 bytes
at_room : (list frame after : List ℕ) (answer : Result Timetable Refusal) → length frame ≡ 3357 → Whole list frame answer after → plan_answer_of answer ≡ plan_outcome list 3357
at_room list frame after answer long w = w.0 ∙ ap (plan_outcome list) long

-- one that refuses everything
pub not_refused : (frame after : List ℕ) (refusal : Refusal) → length frame ≡ 3357 → Whole A.bytes frame (Err refusal) after → ⊥
not_refused frame after refusal long w = refusal_gives refusal _ (at_room A.bytes frame after (Err refusal) long w ∙ cases.0.1)

-- one that invents the rounds, or does its first round and gives the other packets any rate: list A takes 3 rounds, 5 entries and a cost of 577 (bytes per
-- second, squared, times seconds)
pub only_a : (frame after : List ℕ) (rounds entries cost : ℕ) → length frame ≡ 3357 → Whole A.bytes frame (Ok (record { rounds = rounds; entries = entries; cost = cost })) after
    → (rounds ≡ 3) × (entries ≡ 5) × (cost ≡ 577)
only_a frame after rounds entries cost long w =
    let e : gives (rounds ∷ entries ∷ cost ∷ []) ≡ gives (3 ∷ 5 ∷ 577 ∷ []) = at_room A.bytes frame after (Ok (record { rounds = rounds; entries = entries; cost = cost })) long w ∙ cases.0.1 in
    (cc, cc, cc)

-- one with one fixed answer
pub not_fixed : (frame after after' : List ℕ) (answer : Result Timetable Refusal) → length frame ≡ 3357 → Whole B.bytes frame answer after → Whole C.bytes frame answer after' → ⊥
not_fixed frame after after' answer long w w' =
    let e : gives (1 ∷ 1 ∷ 1 ∷ []) ≡ gives (1 ∷ 2 ∷ 16 ∷ []) =
    sym (at_room B.bytes frame after answer long w ∙ cases.1.1) ∙ at_room C.bytes frame after' answer long w' ∙ cases.2.1 in
    let z : ◌≡◌ {A = ℕ} 1 2 = cc in
    omega arith

-- list A is on the wire what it is in memory
a_on_wire : (count_on A.bytes ≡ A.count) × (records_on A.bytes ≡ A.records)
unfolding digit bit spelt field_at total rows fields_at records_on
a_on_wire = (refl, refl)

-- planning list A into a frame of 3,357 bytes leaves a frame from which A's five entries and its cost are read, into any room of 1,146 numbers
a_read : (frame after lent : List ℕ) (answer : Result Timetable Refusal) → length frame ≡ 3357 → length lent ≡ 1146 → Whole A.bytes frame answer after
    → (read_outcome (plan_on after) 1146 ≡ gives (5 ∷ 577 ∷ [])) × (entries_after (plan_on after) lent ≡ A.entries ++ drop 30 lent)
a_read frame after lent answer long room w =
    let planned : plan_outcome A.bytes (length frame) ≡ gives (3 ∷ 5 ∷ 577 ∷ []) = ap (plan_outcome A.bytes) long ∙ cases.0.1 in
    let told = (plans A.bytes (length frame) (3 ∷ 5 ∷ 577 ∷ []) planned).told in
    let five : length (entries_of (count_on A.bytes) (records_on A.bytes)) ≡ 5 = cc in
    let read = plan_reads A.bytes frame _ lent planned (omega arith) in
    let numbers : plan_numbers (entries_of (count_on A.bytes) (records_on A.bytes)) ≡ A.entries =
    ap (λ (n : ℕ). plan_numbers (entries_of n (records_on A.bytes))) a_on_wire.0 ∙ ap (λ (r : List ℕ). plan_numbers (entries_of 3 r)) a_on_wire.1 ∙ cases.0.3 in
    let is = w.1 in
    (cc, cc)

-- one that writes nothing: a frame in which no plan stands would stay such a frame
pub not_nothing : (frame : List ℕ) (answer : Result Timetable Refusal) → length frame ≡ 3357 → read_outcome (plan_on frame) 1146 ≡ refuses 9 0
    → Whole A.bytes frame answer frame → ⊥
not_nothing frame answer long none w = refusal_gives EntryCount _ (sym none ∙ (a_read frame frame (replicate 1146 0) answer long refl w).0)

-- one that does its first round and gives the other packets any rate: what is read from the frame is A's entries, all five of them
pub only_entries_of_a : (frame after lent : List ℕ) (answer : Result Timetable Refusal) → length frame ≡ 3357 → length lent ≡ 1146 → Whole A.bytes frame answer after
    → entries_after (plan_on after) lent ≡ A.entries ++ drop 30 lent
only_entries_of_a frame after lent answer long room w = (a_read frame after lent answer long room w).1
