-- Answers of wrong programs that the promises do not admit, each refuted on one small input. Assumes nothing.
use Prim.Native.Nat.{ℕ}
use mathlib.Core.Path.{◌≡◌, ap}
use mathlib.Core.List.{List, [], ◌∷◌}
use native.Mathlib.Omega.{arith}
use lib.ListN.{get_or, length}
use Rattle.bits.specs.Field.{digit, bit, spelt, field_at, bytes_from, replaced, put_field}
use Rattle.bits.specs.Table.{total, rows, fields_at, put_fields, field_widths, table_widths, table_bytes, unused_at, write_table}
use Rattle.packets.specs.declared.refusal.Refusal.{Refusal}
use Rattle.packets.specs.declared.refusal.Refusal.TheVariants.{Deadline}
use Rattle.std.specs.Prelude.{Result, Ok, Err}
use Rattle.packets.specs.Outcome.{verdict_of, ◌when◌else◌, ◌then◌, in_order, ◌given◌else◌}
use Rattle.packets.specs.Wire.{table_tests}
use Rattle.packets.specs.Records.{size_of, arrival_of, deadline_of, record_test, record_at, record_tests, memory_tests}
use Rattle.packets.specs.List.{records_on, room_test, read_outcome, records_after, rest_after, write_outcome, bytes_after, ListJudged, ListRead, ListWritten}
use Rattle.packets.proofs.Answers.{refusal_gives}

-- list B: one packet of 1 byte, from 0 to 1 seconds; then with one byte behind it, and with a nonzero unused bit
abbrev list_b : List ℕ
list_b = 0x02 ∷ 0x00 ∷ 0x02 ∷ 0x00 ∷ 0x00 ∷ 0x00 ∷ 0x00 ∷ 0x80 ∷ []

abbrev behind_b : List ℕ
behind_b = 0x02 ∷ 0x00 ∷ 0x02 ∷ 0x00 ∷ 0x00 ∷ 0x00 ∷ 0x00 ∷ 0x80 ∷ 0x55 ∷ []

abbrev faulty_b : List ℕ
faulty_b = 0x02 ∷ 0x00 ∷ 0x02 ∷ 0x00 ∷ 0x00 ∷ 0x00 ∷ 0x00 ∷ 0xc0 ∷ []

-- a judge that tests the deadline before the size: both are at fault, and the size is told first
not_deadline_first : verdict_of (Err (Deadline 0)) ≡ memory_tests 1 (0 ∷ 0 ∷ 86401 ∷ []) → ⊥
unfolding memory_tests record_tests record_at in_order record_test size_of arrival_of deadline_of ◌when◌else◌ ◌then◌
not_deadline_first e = let z : ◌≡◌ {A = ℕ} 5 4 = cc in omega arith

-- a judge that refuses everything, whatever its refusal
judge_not_refused : (refusal : Refusal) → verdict_of (Err refusal) ≡ memory_tests 1 (1 ∷ 0 ∷ 1 ∷ []) → ⊥
unfolding memory_tests record_tests record_at in_order record_test size_of arrival_of deadline_of ◌when◌else◌ ◌then◌
judge_not_refused refusal e = refusal_gives refusal [] e

-- a reader that accepts a list with a nonzero unused bit, whatever it says of it
not_unused_bit : (count bytes : ℕ) → ListJudged faulty_b 3 (Ok (record { count = count; bytes = bytes })) → ⊥
unfolding digit bit spelt field_at total rows fields_at field_widths table_bytes unused_at ◌when◌else◌ ◌then◌ record_test record_at record_tests in_order table_tests records_on room_test read_outcome
not_unused_bit count bytes e = let z : ◌≡◌ {A = ℕ} 0 1 = cc in omega arith

-- a reader that refuses everything, whatever its refusal
not_always_refused : (refusal : Refusal) → ListJudged list_b 3 (Err refusal) → ⊥
unfolding digit bit spelt field_at total rows fields_at field_widths table_bytes unused_at ◌when◌else◌ ◌then◌ size_of arrival_of deadline_of record_test record_at record_tests in_order table_tests records_on room_test read_outcome
not_always_refused refusal e = refusal_gives refusal (1 ∷ 8 ∷ []) e

-- a reader that writes nothing
read_not_nothing : (rest : List ℕ) → ListRead list_b (9 ∷ 9 ∷ 9 ∷ []) rest (9 ∷ 9 ∷ 9 ∷ []) → ⊥
unfolding digit bit spelt field_at total rows fields_at field_widths table_bytes unused_at ◌when◌else◌ ◌then◌ ◌given◌else◌ size_of arrival_of deadline_of record_test record_at record_tests in_order table_tests records_on room_test read_outcome records_after rest_after
read_not_nothing rest p = let z : ◌≡◌ {A = ℕ} 9 1 = ap (λ (l : List ℕ). get_or l 0 0) p.1 in omega arith

-- a reader that writes a record before it refuses: there is room for two numbers, and the first is changed
not_scribbled : (rest : List ℕ) → ListRead list_b (9 ∷ 9 ∷ []) rest (1 ∷ 9 ∷ []) → ⊥
unfolding digit bit spelt field_at total rows fields_at field_widths table_bytes unused_at ◌when◌else◌ ◌then◌ ◌given◌else◌ size_of arrival_of deadline_of record_test record_at record_tests in_order table_tests records_on room_test read_outcome records_after rest_after
not_scribbled rest p = let z : ◌≡◌ {A = ℕ} 1 9 = ap (λ (l : List ℕ). get_or l 0 0) p.1 in omega arith

-- a reader that hands back one byte too many
not_one_too_many : (after : List ℕ) → ListRead behind_b (9 ∷ 9 ∷ 9 ∷ []) (0x80 ∷ 0x55 ∷ []) after → ⊥
unfolding digit bit spelt field_at total rows fields_at field_widths table_bytes unused_at ◌when◌else◌ ◌then◌ ◌given◌else◌ size_of arrival_of deadline_of record_test record_at record_tests in_order table_tests records_on room_test read_outcome records_after rest_after
not_one_too_many after p = let z : ◌≡◌ {A = ℕ} 2 1 = ap length p.0 in omega arith

-- a writer that touches the byte behind the list
not_behind : (answer : Result ℕ Refusal) → ListWritten 1 (1 ∷ 0 ∷ 1 ∷ []) behind_b answer (0x02 ∷ 0x00 ∷ 0x02 ∷ 0x00 ∷ 0x00 ∷ 0x00 ∷ 0x00 ∷ 0x80 ∷ 0x00 ∷ []) → ⊥
unfolding digit bit spelt field_at bytes_from replaced put_field total rows fields_at put_fields field_widths table_widths table_bytes unused_at write_table ◌when◌else◌ ◌then◌ ◌given◌else◌ size_of arrival_of deadline_of record_test record_at record_tests in_order memory_tests write_outcome bytes_after
not_behind answer p = let z : ◌≡◌ {A = ℕ} 0 0x55 = ap (λ (l : List ℕ). get_or l 8 0) p.1 in omega arith

-- a writer that refuses everything, whatever its refusal
write_not_refused : (refusal : Refusal) (after : List ℕ) → ListWritten 1 (1 ∷ 0 ∷ 1 ∷ []) list_b (Err refusal) after → ⊥
unfolding digit bit spelt field_at bytes_from replaced put_field total rows fields_at put_fields field_widths table_widths table_bytes unused_at write_table ◌when◌else◌ ◌then◌ ◌given◌else◌ size_of arrival_of deadline_of record_test record_at record_tests in_order memory_tests write_outcome bytes_after
write_not_refused refusal after p = refusal_gives refusal (8 ∷ []) p.0

-- a writer that writes nothing
not_nothing : (answer : Result ℕ Refusal) → ListWritten 1 (1 ∷ 0 ∷ 1 ∷ []) (0 ∷ 0 ∷ 0 ∷ 0 ∷ 0 ∷ 0 ∷ 0 ∷ 0 ∷ []) answer (0 ∷ 0 ∷ 0 ∷ 0 ∷ 0 ∷ 0 ∷ 0 ∷ 0 ∷ []) → ⊥
unfolding digit bit spelt field_at bytes_from replaced put_field total rows fields_at put_fields field_widths table_widths table_bytes unused_at write_table ◌when◌else◌ ◌then◌ ◌given◌else◌ size_of arrival_of deadline_of record_test record_at record_tests in_order memory_tests write_outcome bytes_after
not_nothing answer p = let z : ◌≡◌ {A = ℕ} 0 0x02 = ap (λ (l : List ℕ). get_or l 0 0) p.1 in omega arith
