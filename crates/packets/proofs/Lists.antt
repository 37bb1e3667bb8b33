-- Laws of the list on the wire: the bits that it takes, and what an answer that gives values tells. Assumes nothing.
use Prim.Native.Nat.{ℕ, zero, suc, ◌+◌, ◌-◌, ◌*◌, ◌/◌, ◌≤◌}
use mathlib.Core.Path.{◌≡◌, refl, sym, ap, ◌∙◌}
use mathlib.Core.List.{List, [], ◌∷◌, ◌++◌}
use native.Mathlib.Omega.{arith}
use lib.ListN.{length, take, drop, length-drop}
use lib.Seq.{sets, take_all}
use borrow.Author.Tests.{le-ltb}
use Rattle.bits.specs.Table.{total, rows, fields_at, field_widths, table_bytes, write_table, AtMost}
use Rattle.bits.proofs.Tables.{total_rows, length_rows, length_fields}
use Rattle.packets.specs.Limits.{most_packets}
use Rattle.packets.specs.Outcome.{Outcome, gives, refuses, ◌when◌else◌, ◌then◌, refusal_of}
use Rattle.packets.specs.Records.{record_numbers, record_tests, memory_tests, Accepted}
use Rattle.packets.specs.Forms.{list_form}
use Rattle.packets.specs.Wire.{table_outcome}
use Rattle.packets.specs.List.{count_width, record_widths, list_bytes, count_on, records_on, wire_tests, room_test, read_outcome, records_after, rest_after, write_outcome, bytes_after}
use Rattle.packets.specs.declared.refusal.Refusal.{Refusal}
use Rattle.packets.proofs.Outcomes.{then_gives, given_leaves, has_room}
use Rattle.packets.proofs.Wire.{table_readable, Whole, wire_whole, stored_given}
use Rattle.packets.proofs.Records.{records_sound}

-- ---- the bits of a list

-- a record's bits
record_total : total record_widths ≡ 50
unfolding total
record_total = refl

-- the records' bits
pub records_total : (count : ℕ) → total (rows count record_widths) ≡ 50 * count
records_total count = total_rows count record_widths ∙ rw record_total (omega arith)

-- the count's bits and the records'
pub list_total : (count : ℕ) → total (field_widths (count_width ∷ []) record_widths count) ≡ 7 + 50 * count
unfolding field_widths total
list_total count = omega (arith, records_total count)

pub list_bytes_is : (count : ℕ) → list_bytes count ≡ (7 + 50 * count + 7) / 8
unfolding table_bytes
list_bytes_is count = rw list_total

-- no field of a list is wider than 64 bits
pub count_narrow : AtMost 64 (count_width ∷ [])
count_narrow zero = omega arith
count_narrow (suc i) = omega arith

-- three numbers for each record
pub length_records : (bytes : List ℕ) (count : ℕ) → length (fields_at bytes count_width (rows count record_widths)) ≡ record_numbers * count
length_records bytes count = length_fields bytes count_width (rows count record_widths) ∙ length_rows count record_widths ∙ omega arith

-- ---- what passing tells

-- bytes that hold a whole list, with zero in its unused bits
abbrev pub WholeList : List ℕ → Type 0
WholeList bytes = Whole (count_width ∷ []) record_widths most_packets bytes

-- the records as the reader takes them
records_read : (bytes : List ℕ) (count : ℕ) → count ≡ count_on bytes → fields_at bytes count_width (rows count record_widths) ≡ records_on bytes
unfolding records_on
records_read bytes count e = rw e

-- reading a list is reading a table of its form
pub list_outcome : (bytes : List ℕ) (room : ℕ) → read_outcome bytes room ≡ table_outcome list_form bytes room (count_on bytes ∷ list_bytes (count_on bytes) ∷ [])
unfolding read_outcome room_test record_tests records_on table_outcome total
list_outcome bytes room = refl

-- ---- what an answer that gives values tells

-- a list that is read: whole, its records sound, and room for them
pub record Readable (bytes : List ℕ) (room : ℕ) (values : List ℕ) : Type 0 where
  pub whole : WholeList bytes
  pub sound : record_tests (count_on bytes) 0 (records_on bytes) ≡ gives []
  pub held : record_numbers * count_on bytes ≤ room
  pub told : values ≡ count_on bytes ∷ list_bytes (count_on bytes) ∷ []

pub read_readable : (bytes : List ℕ) (room : ℕ) (values : List ℕ) → read_outcome bytes room ≡ gives values → Readable bytes room values
unfolding record_tests records_on total
read_readable bytes room values h =
    let r = table_readable list_form bytes room _ values (sym (list_outcome bytes room) ∙ h) in
    record { whole = r.1.whole; sound = r.1.sound; held = r.1.held; told = r.0 }

-- the numbers of such an answer, and the bounds that they meet
pub record Told (bytes : List ℕ) (room count used : ℕ) : Type 0 where
  pub packets : count ≡ count_on bytes
  pub few : count ≤ most_packets
  pub taken : used ≡ list_bytes (count_on bytes)
  pub within : used ≤ length bytes
  pub bits : count_width + total (rows count record_widths) ≤ 8 * length bytes
  pub held : record_numbers * count ≤ room

pub read_told : (bytes : List ℕ) (room count used : ℕ) → gives (count ∷ used ∷ []) ≡ read_outcome bytes room → Told bytes room count used
read_told bytes room count used e =
    let r = read_readable bytes room (count ∷ used ∷ []) (sym e) in
    let t = r.told in
    let n : count ≡ count_on bytes = cc in
    let u : used ≡ list_bytes (count_on bytes) = cc in
    let w = r.whole in
    let held = r.held in
    let long = list_bytes_is (count_on bytes) in
    let bits = records_total count in
    record { packets = n; few = omega arith; taken = u; within = omega arith; bits = omega arith; held = omega arith }

-- what stands in every buffer when the list has been read
pub read_done : (bytes lent filled : List ℕ) (count used : ℕ) → gives (count ∷ used ∷ []) ≡ read_outcome bytes (length lent)
    → filled ≡ sets lent 0 (fields_at bytes count_width (rows count record_widths))
    → (take (length bytes - used) (drop used bytes) ≡ rest_after bytes (length lent)) × (filled ≡ records_after bytes lent)
unfolding rest_after records_after
read_done bytes lent filled count used e stored =
    let t = read_told bytes (length lent) count used e in
    let held = t.held in
    let whole : take (length bytes - used) (drop used bytes) ≡ drop used bytes = take_all (length bytes - used) (drop used bytes) (omega (arith, length-drop used bytes)) in
    let records = records_read bytes count t.packets in (
      whole ∙ ap (λ (n : ℕ). drop n bytes) t.taken ∙ sym (given_leaves _ _ e),
      stored ∙ rw records (stored_given (records_on bytes) lent e (rw (← records) (omega (arith, length_records bytes count)))),
    )

-- ---- writing

pub write_gives : (count : ℕ) (records : List ℕ) (room : ℕ) → gives [] ≡ memory_tests count records → list_bytes count ≤ room
    → gives (list_bytes count ∷ []) ≡ write_outcome count records room
unfolding write_outcome
write_gives count records room e held = has_room _ _ _ e held

-- what stands in the lent bytes when the list has been written
pub write_done : (count : ℕ) (records lent written : List ℕ) → gives (list_bytes count ∷ []) ≡ write_outcome count records (length lent)
    → written ≡ write_table lent (count_width ∷ []) record_widths count ((count ∷ []) ++ take (count * 3) records) → written ≡ bytes_after count records lent
unfolding bytes_after
write_done count records lent written e w =
    let c : count * 3 ≡ record_numbers * count = omega arith in
    rw c at w ∙ sym (given_leaves _ _ e)

-- ---- a list for the layers above

-- where the tests of the bytes and of the records pass, the packets are accepted
pub packets_accepted : (bytes own values : List ℕ) → wire_tests bytes ≡ gives own → record_tests (count_on bytes) 0 (records_on bytes) ≡ gives values
    → Accepted (count_on bytes) (records_on bytes)
packets_accepted bytes own values wire tests =
    let w = (wire_whole _ _ _ _ _ _ bytes own wire).1 in
    let long : length (records_on bytes) ≡ record_numbers * count_on bytes = (unfold records_on in (length_records bytes (count_on bytes))) in
    record {
      some = w.some;
      few = w.few;
      held = omega (arith, long);
      sound = λ i within. records_sound (count_on bytes) 0 (records_on bytes) values tests i (omega arith) (omega arith);
    }

-- a list that is read passes both, and its packets are accepted
pub read_passes : (bytes : List ℕ) (room : ℕ) (values : List ℕ) → read_outcome bytes room ≡ gives values
    → (gives [] ≡ wire_tests bytes) × (gives [] ≡ record_tests (count_on bytes) 0 (records_on bytes)) × Accepted (count_on bytes) (records_on bytes)
unfolding read_outcome
read_passes bytes room values h =
    let a = then_gives (wire_tests bytes) _ h in
    let w = wire_whole _ _ _ _ _ _ bytes a.0 a.1 in
    let r = read_readable bytes room values (unfold read_outcome in h) in
    (sym (a.1 ∙ ap gives w.0), sym r.sound, packets_accepted bytes a.0 [] a.1 r.sound)

-- a list that is refused although there is room for every record is refused for its bytes or its records, whatever is tested after them
pub read_refused : (bytes : List ℕ) (refusal : Refusal) (next : Outcome) → refusal_of refusal ≡ read_outcome bytes (record_numbers * most_packets)
    → refusal_of refusal ≡ (wire_tests bytes then record_tests (count_on bytes) 0 (records_on bytes) then next)
unfolding read_outcome room_test ◌then◌ ◌when◌else◌
read_refused bytes refusal next e = by_wire (wire_tests bytes) refl
  where
    by_records : (few : count_on bytes ≤ most_packets) (tests : Outcome) → record_tests (count_on bytes) 0 (records_on bytes) ≡ tests
        → refusal_of refusal ≡ (tests then room_test bytes (record_numbers * most_packets)) → refusal_of refusal ≡ (tests then next)
    by_records few (refuses n p) t h = h
    by_records few (gives v) t h =
        let z : ◌≡◌ {A = ℕ} 0 1 = cc (le-ltb (record_numbers * most_packets) (record_numbers * count_on bytes) (omega arith), h) in
        absurd (omega arith)

    by_wire : (tests : Outcome) → wire_tests bytes ≡ tests → refusal_of refusal ≡ (wire_tests bytes then record_tests (count_on bytes) 0 (records_on bytes) then next)
    by_wire (refuses n p) t = rw t (rw t at e)
    by_wire (gives v) t =
        let w = wire_whole _ _ _ _ _ _ bytes v t in
        rw t (by_records w.1.few (record_tests (count_on bytes) 0 (records_on bytes)) refl (rw t at e))
