-- Answers of wrong programs that the promises do not admit, each refuted on one plan of one entry. Assumes nothing.
use Prim.Native.Nat.{ℕ}
use mathlib.Core.Path.{◌≡◌, ap}
use mathlib.Core.List.{List, [], ◌∷◌}
use native.Mathlib.Omega.{arith}
use lib.ListN.{get_or}
use Rattle.bits.specs.Field.{digit, bit, spelt, field_at, bytes_from, replaced, put_field}
use Rattle.bits.specs.Table.{total, rows, fields_at, put_fields, field_widths, table_widths, table_bytes, unused_at, write_table}
use Rattle.packets.specs.Outcome.{gives, ◌when◌else◌, ◌then◌, in_order, ◌given◌else◌}
use Rattle.packets.specs.Wire.{table_tests}
use Rattle.packets.specs.declared.refusal.Refusal.{Refusal}
use Rattle.std.specs.Prelude.{Result, Err}
use Rattle.plan.specs.declared.frame.PlanHead.{PlanHead}
use Rattle.packets.proofs.Answers.{refusal_gives}
use Rattle.plan.specs.Entries.{entry_test, entry_at, entry_tests}
use Rattle.plan.specs.Frame.{frame_bytes, cost_on, entries_on, read_answer_of, frame_answer_of, room_test, read_outcome, entries_after, memory_tests, write_outcome, framed, frame_after, PlanRead, PlanWritten}

-- the plan of list B, whose packet of 1 byte is sent from 0 to 1 seconds at 1 byte per second: the entry in memory; and its frame: a head of zeros, the plan
-- and one byte behind it
abbrev entry_b : List ℕ
entry_b = 0 ∷ 0 ∷ 1 ∷ 1 ∷ 0 ∷ 1 ∷ []

abbrev frame_b : List ℕ
frame_b =
    0 ∷ 0 ∷ 0 ∷ 0 ∷ 0 ∷ 0 ∷ 0 ∷ 0 ∷
    0x01 ∷ 0x00 ∷ 0x00 ∷ 0x00 ∷ 0x00 ∷ 0x00 ∷ 0x10 ∷ 0x00 ∷ 0x00 ∷ 0x00 ∷ 0x00 ∷ 0x00 ∷
    0x80 ∷ 0x00 ∷ 0x40 ∷ 0x00 ∷ 0x00 ∷ 0x00 ∷ 0x00 ∷ 0x00 ∷ 0x00 ∷ 0x00 ∷ 0x00 ∷ 0x01 ∷
    0x55 ∷ []

-- an empty frame of as many bytes
abbrev blank : List ℕ
blank =
    0 ∷ 0 ∷ 0 ∷ 0 ∷ 0 ∷ 0 ∷ 0 ∷ 0 ∷
    0 ∷ 0 ∷ 0 ∷ 0 ∷ 0 ∷ 0 ∷ 0 ∷ 0 ∷ 0 ∷ 0 ∷ 0 ∷ 0 ∷
    0 ∷ 0 ∷ 0 ∷ 0 ∷ 0 ∷ 0 ∷ 0 ∷ 0 ∷ 0 ∷ 0 ∷ 0 ∷ 0 ∷
    0x55 ∷ []

-- what the promise says of reading it into room for one entry
reads_b : (answer : Result PlanHead Refusal) (after : List ℕ) → PlanRead frame_b (9 ∷ 9 ∷ 9 ∷ 9 ∷ 9 ∷ 9 ∷ []) answer after
    → (read_answer_of answer ≡ gives (1 ∷ 1 ∷ [])) × (after ≡ entry_b)
unfolding digit bit spelt field_at total rows fields_at field_widths table_bytes unused_at ◌when◌else◌ ◌then◌ ◌given◌else◌ entry_test entry_at entry_tests in_order table_tests cost_on entries_on room_test read_outcome entries_after
reads_b answer after p = p

-- a reader that refuses everything
pub read_not_refused : (refusal : Refusal) (after : List ℕ) → PlanRead frame_b (9 ∷ 9 ∷ 9 ∷ 9 ∷ 9 ∷ 9 ∷ []) (Err refusal) after → ⊥
read_not_refused refusal after p = refusal_gives refusal _ (reads_b (Err refusal) after p).0

-- a reader that writes nothing
pub read_not_nothing : (answer : Result PlanHead Refusal) → PlanRead frame_b (9 ∷ 9 ∷ 9 ∷ 9 ∷ 9 ∷ 9 ∷ []) answer (9 ∷ 9 ∷ 9 ∷ 9 ∷ 9 ∷ 9 ∷ []) → ⊥
read_not_nothing answer p = let z : ◌≡◌ {A = ℕ} 9 0 = ap (λ (l : List ℕ). get_or l 0 0) (reads_b answer _ p).1 in omega arith

-- what the promise says of writing it into the empty frame
writes_b : (answer : Result ℕ Refusal) (after : List ℕ) → PlanWritten 1 entry_b 1 blank answer after → (frame_answer_of answer ≡ gives (32 ∷ [])) × (after ≡ frame_b)
unfolding digit bit spelt field_at bytes_from replaced put_field total rows fields_at put_fields field_widths table_widths table_bytes unused_at write_table ◌when◌else◌ ◌then◌ ◌given◌else◌ entry_test entry_at entry_tests in_order frame_bytes memory_tests write_outcome framed frame_after
writes_b answer after p = p

-- a writer that refuses everything
pub write_not_refused : (refusal : Refusal) (after : List ℕ) → PlanWritten 1 entry_b 1 blank (Err refusal) after → ⊥
write_not_refused refusal after p = refusal_gives refusal _ (writes_b (Err refusal) after p).0

-- a writer that writes nothing
pub write_not_nothing : (answer : Result ℕ Refusal) → PlanWritten 1 entry_b 1 blank answer blank → ⊥
write_not_nothing answer p = let z : ◌≡◌ {A = ℕ} 0 1 = ap (λ (l : List ℕ). get_or l 8 0) (writes_b answer _ p).1 in omega arith
