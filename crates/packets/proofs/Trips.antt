-- The two round trips of a list: written and read back, the same packets; read and written again, the same bytes. Both stand on the table laws of the
-- bits layer. Assumes nothing.
use Prim.Native.Nat.{ℕ, zero, suc, ◌+◌, ◌*◌, ◌<◌, ◌≤◌, ◌^◌}
use mathlib.Core.Path.{◌≡◌, refl, sym, ap, ◌∙◌}
use mathlib.Core.List.{List, [], ◌∷◌, ◌++◌}
use native.Mathlib.Omega.{arith}
use native.Mathlib.Nat.{add-zero}
use lib.ListN.{length, get_or, take, drop, length-append}
use lib.Seq.{take_at, length-take-le}
use borrow.Author.Tests.{le-ltb}
use Rattle.bits.specs.Field.{Bytes}
use Rattle.bits.specs.Table.{rows, fields_at, field_widths, read_table, write_table, Fit}
use Rattle.bits.proofs.Tables.{write_read, write_behind, read_write}
use Rattle.packets.specs.Outcome.{gives, ◌when◌else◌}
use Rattle.packets.specs.Records.{record_numbers, size_of, arrival_of, deadline_of, record_tests, Sound, Accepted}
use Rattle.packets.specs.List.{count_width, record_widths, list_bytes, count_on, records_on, wire_tests, room_test, read_outcome, records_after, rest_after, write_outcome, bytes_after}
use Rattle.packets.proofs.Outcomes.{passed_then, given_leaves}
use Rattle.packets.proofs.Wire.{whole_wire, written_whole, front_same, fit_rows}
use Rattle.packets.proofs.Records.{tests_past, tests_first, records_sound, sound_records, accepted_memory}
use Rattle.packets.proofs.Lists.{WholeList, Readable, read_readable, length_records, write_gives}

-- ---- written and read back

-- the numbers of a sound record fit their widths
record_fits : (records : List ℕ) (i j : ℕ) → Sound (size_of records i) (arrival_of records i) (deadline_of records i) → j < record_numbers
    → get_or records (record_numbers * i + j) 0 < 2 ^ get_or record_widths j 0
unfolding size_of arrival_of deadline_of
record_fits records i zero s h = rw add-zero (omega (arith, s.small))
record_fits records i (suc zero) s h = omega (arith, s.early, s.today)
record_fits records i (suc (suc zero)) s h = omega (arith, s.today)
record_fits records i (suc (suc (suc j))) s h = absurd (omega arith)

-- a table of a count and records, read: the count, and the records behind it
table_list : (bytes : List ℕ) (count : ℕ) → read_table bytes (count_width ∷ []) record_widths count ≡ count_on bytes ∷ fields_at bytes count_width (rows count record_widths)
unfolding read_table field_widths fields_at count_on
table_list bytes count = refl

-- the first records of accepted packets are accepted alike
first_tests : (count : ℕ) (records : List ℕ) → Accepted count records → record_tests count 0 (take (record_numbers * count) records) ≡ gives []
first_tests count records a = tests_first count records a.held ∙ sound_records count 0 records (λ k lo hi. a.sound k (omega arith))

-- Accepted packets, written into any bytes that have room.
module _ (count : ℕ) (records lent : List ℕ) (accepted : Accepted count records) (small : Bytes lent) (long : list_bytes count ≤ length lent) where
  written : List ℕ
  written = write_table lent (count_width ∷ []) record_widths count (count ∷ take (record_numbers * count) records)

  fits : Fit (field_widths (count_width ∷ []) record_widths count) (count ∷ take (record_numbers * count) records)
  unfolding field_widths
  fits = (omega (arith, accepted.few), fit_rows record_widths count records accepted.held (λ i j within h. record_fits records i j (accepted.sound i within) h))

  -- the written bytes are a whole list, and hold the count and the records
  whole_back : (count_on written ≡ count) × WholeList written
  unfolding written
  whole_back = written_whole _ _ _ _ 2 3 count (take (record_numbers * count) records) lent fits long accepted.some accepted.few

  count_back : count_on written ≡ count
  count_back = whole_back.0

  records_back : records_on written ≡ take (record_numbers * count) records
  unfolding records_on written
  records_back = rw count_back (ap (drop 1) (sym (table_list written count) ∙ (write_read (count_width ∷ []) record_widths count lent _ long fits).0))

  -- reading gives the same packets: their count, the bytes that they take, and their records
  write_then_read : (room : ℕ) → record_numbers * count ≤ room → read_outcome written room ≡ gives (count ∷ list_bytes count ∷ [])
  unfolding read_outcome room_test ◌when◌else◌
  write_then_read room held =
      passed_then _ (sym (whole_wire _ _ _ _ _ _ (omega arith) written whole_back.1))
      ∙ passed_then _ (sym (rw (count_back, records_back) (first_tests count records accepted)))
      ∙ rw count_back (simp (le-ltb _ _ held))

  -- in the words of the calls: what is written, read into room that is lent, is the packets, and the bytes behind the list are handed back
  pub write_read_list : (room : List ℕ) → record_numbers * count ≤ length room
      → (read_outcome (bytes_after count records lent) (length room) ≡ gives (count ∷ list_bytes count ∷ []))
      × (records_after (bytes_after count records lent) room ≡ take (record_numbers * count) records ++ drop (record_numbers * count) room)
      × (rest_after (bytes_after count records lent) (length room) ≡ drop (list_bytes count) lent)
  unfolding bytes_after records_after rest_after written
  write_read_list room held =
      let wrote : bytes_after count records lent ≡ written =
      given_leaves _ _ (write_gives count records (length lent) (sym (accepted_memory count records accepted)) long) in
      let gave = sym (write_then_read (length room) held) in
      let n = length-take-le (record_numbers * count) records accepted.held in (
        rw wrote (sym gave),
        rw wrote (given_leaves _ _ gave ∙ rw (records_back, n)),
        rw wrote (given_leaves _ _ gave ∙ rw count_back behind),
      )
    where
      behind : drop (list_bytes count) written ≡ drop (list_bytes count) lent
      behind = write_behind (count_width ∷ []) record_widths count lent _ small long

-- ---- read and written again

-- A list that is read into lent room, and what the room then holds written into any bytes that have room.
module _ (bytes room out : List ℕ) (small : Bytes bytes) (small_out : Bytes out) (values : List ℕ)
    (gave : read_outcome bytes (length room) ≡ gives values) (long : list_bytes (count_on bytes) ≤ length out) where
  read : Readable bytes (length room) values
  read = read_readable bytes (length room) values gave

  held : records_after bytes room ≡ records_on bytes ++ drop (length (records_on bytes)) room
  unfolding records_after
  held = given_leaves _ _ (sym gave)

  length_on : length (records_on bytes) ≡ record_numbers * count_on bytes
  unfolding records_on
  length_on = length_records bytes (count_on bytes)

  tests_on : record_tests (count_on bytes) 0 (records_after bytes room) ≡ gives []
  tests_on = rw held (tests_past (count_on bytes) (records_on bytes) _ (omega (arith, length_on)) ∙ read.sound)

  -- the packets are accepted again
  pub still_accepted : Accepted (count_on bytes) (records_after bytes room)
  still_accepted =
      record {
        some = read.whole.some;
        few = read.whole.few;
        held = rw held (omega (arith, length_on, length-append (records_on bytes) (drop (length (records_on bytes)) room)));
        sound = λ i within. records_sound (count_on bytes) 0 (records_after bytes room) [] tests_on i (omega arith) (omega arith);
      }

  -- the values of the table, and the records that are written, are the same
  same_values : count_on bytes ∷ take (record_numbers * count_on bytes) (records_after bytes room) ≡ read_table bytes (count_width ∷ []) record_widths (count_on bytes)
  unfolding records_on
  same_values =
      ap (λ (l : List ℕ). count_on bytes ∷ l)
      (ap (take (record_numbers * count_on bytes)) held ∙ take_at (records_on bytes) _ (record_numbers * count_on bytes) length_on)
      ∙ sym (table_list bytes (count_on bytes))

  pub read_write_list : (write_outcome (count_on bytes) (records_after bytes room) (length out) ≡ gives (list_bytes (count_on bytes) ∷ []))
      × (bytes_after (count_on bytes) (records_after bytes room) out ≡ take (list_bytes (count_on bytes)) bytes ++ drop (list_bytes (count_on bytes)) out)
  unfolding bytes_after
  read_write_list = (sym wrote, given_leaves _ _ wrote ∙ rw same_values again)
    where
      wrote : gives (list_bytes (count_on bytes) ∷ []) ≡ write_outcome (count_on bytes) (records_after bytes room) (length out)
      wrote = write_gives (count_on bytes) (records_after bytes room) (length out) (sym (accepted_memory _ _ still_accepted)) long

      again : write_table out (count_width ∷ []) record_widths (count_on bytes) (read_table bytes (count_width ∷ []) record_widths (count_on bytes))
          ≡ take (list_bytes (count_on bytes)) bytes ++ drop (list_bytes (count_on bytes)) out
      again = read_write (count_width ∷ []) record_widths (count_on bytes) bytes out small small_out read.whole.held long read.whole.clear

-- ---- what stands behind a list

-- bytes that agree as far as a whole list goes are read alike: nothing behind the list has any influence
pub nothing_behind : (a b : List ℕ) (room : ℕ) → list_bytes (count_on a) ≤ length a → list_bytes (count_on a) ≤ length b
    → take (list_bytes (count_on a)) a ≡ take (list_bytes (count_on a)) b
    → (read_outcome a room ≡ read_outcome b room) × (records_on a ≡ records_on b)
nothing_behind a b room long_a long_b front = (outcome, records)
  where
    same : (count_on b ≡ count_on a)
        × (read_table a (count_width ∷ []) record_widths (count_on a) ≡ read_table b (count_width ∷ []) record_widths (count_on a))
        × (wire_tests a ≡ wire_tests b)
    same = front_same _ _ _ _ _ _ (omega arith) a b long_a long_b front

    records : records_on a ≡ records_on b
    records = (unfold records_on in (rw same.0 (ap (drop 1) (sym (table_list a (count_on a)) ∙ same.1 ∙ table_list b (count_on a)))))

    outcome : read_outcome a room ≡ read_outcome b room
    outcome = (unfold read_outcome room_test in (rw (same.2, records, same.0)))
