-- The two round trips of a plan: written and read back, the same entries and cost; read and written again, the same bytes. Then that what stands behind a
-- plan has no influence. All stand on the table laws of the bits layer. Assumes nothing.
use Prim.Native.Nat.{ℕ, zero, suc, ◌+◌, ◌*◌, ◌<◌, ◌≤◌, ◌^◌}
use mathlib.Core.Path.{◌≡◌, refl, sym, ap, ◌∙◌}
use mathlib.Core.List.{List, [], ◌∷◌, ◌++◌}
use native.Mathlib.Omega.{arith}
use lib.ListN.{length, get_or, take, drop, length-append, length-drop}
use lib.Seq.{take_at, drop_at, get_or-drop, length-take-le}
use borrow.Author.Tests.{le-ltb}
use Rattle.bits.specs.Field.{Bytes}
use Rattle.bits.specs.Table.{rows, fields_at, field_widths, table_bytes, read_table, write_table, Fit}
use Rattle.bits.proofs.Fields.{field_lt}
use Rattle.bits.proofs.Tables.{write_read, read_write}
use Rattle.packets.specs.Outcome.{gives, ◌when◌else◌}
use Rattle.packets.proofs.Outcomes.{passed_then, given_leaves}
use Rattle.packets.proofs.Wire.{whole_wire, written_whole, front_same, fit_rows}
use Rattle.plan.specs.Entries.{entry_numbers, entry_widths, field_of}
use Rattle.plan.specs.Frame.{head_bytes, count_width, cost_width, head_widths, frame_bytes, count_on, cost_on, entries_on, wire_tests, room_test, read_outcome, entries_after, write_outcome, framed, frame_after}
use Rattle.plan.proofs.Judging.{SoundAt, entries_sound, tests_past, tests_first}
use Rattle.plan.proofs.Framing.{WholePlan, Readable, read_readable, length_entries, Fitting, fitting_memory, write_gives}

-- ---- written and read back

-- the numbers of a sound entry fit their widths
entry_fits : (entries : List ℕ) (i j : ℕ) → SoundAt entries i → j < entry_numbers → field_of entries i j < 2 ^ get_or entry_widths j 0
entry_fits entries i zero s h = s.packet_fits
entry_fits entries i (suc zero) s h = omega (arith, s.start_fits)
entry_fits entries i (suc (suc zero)) s h = s.r_fits
entry_fits entries i (suc (suc (suc zero))) s h = omega (arith, s.d_fits)
entry_fits entries i (suc (suc (suc (suc zero)))) s h = omega (arith, s.rising, s.to_fits)
entry_fits entries i (suc (suc (suc (suc (suc zero))))) s h = s.to_fits
entry_fits entries i (suc (suc (suc (suc (suc (suc j)))))) s h = absurd (omega arith)

-- a table of a count, a cost and entries, read
table_plan : (plan : List ℕ) (count : ℕ)
    → read_table plan head_widths entry_widths count ≡ count_on plan ∷ cost_on plan ∷ fields_at plan (count_width + cost_width) (rows count entry_widths)
unfolding read_table field_widths fields_at count_on cost_on
table_plan plan count = refl

-- Entries and a cost that pass their tests, written into any frame that has room.
module _ (count : ℕ) (entries : List ℕ) (cost : ℕ) (frame : List ℕ) (fitting : Fitting count entries cost) (long : frame_bytes count ≤ length frame) where
  written : List ℕ
  written = write_table (drop head_bytes frame) head_widths entry_widths count (count ∷ cost ∷ take (entry_numbers * count) entries)

  room : table_bytes head_widths entry_widths count ≤ length (drop head_bytes frame)
  unfolding frame_bytes
  room = omega (arith, long, length-drop head_bytes frame)

  fits : Fit (field_widths head_widths entry_widths count) (count ∷ cost ∷ take (entry_numbers * count) entries)
  unfolding field_widths
  fits = (
    omega (arith, fitting.few),
    (fitting.small, fit_rows entry_widths count entries fitting.held (λ i j within h. entry_fits entries i j (entries_sound count 0 entries [] fitting.sound i (omega arith) (omega arith)) h)),
  )

  -- the written bytes are a whole plan, and hold the count, the cost and the entries
  whole_back : (count_on written ≡ count) × WholePlan written
  unfolding written
  whole_back = written_whole _ _ _ _ 9 9 count (cost ∷ take (entry_numbers * count) entries) (drop head_bytes frame) fits room fitting.some fitting.few

  count_back : count_on written ≡ count
  count_back = whole_back.0

  all_back : count_on written ∷ cost_on written ∷ fields_at written (count_width + cost_width) (rows count entry_widths) ≡ count ∷ cost ∷ take (entry_numbers * count) entries
  unfolding written
  all_back = sym (table_plan written count) ∙ (write_read head_widths entry_widths count (drop head_bytes frame) _ room fits).0

  cost_back : cost_on written ≡ cost
  cost_back = cc all_back

  entries_back : entries_on written ≡ take (entry_numbers * count) entries
  unfolding entries_on
  entries_back = rw count_back (ap (drop 2) all_back)

  read_back : (lent : ℕ) → entry_numbers * count ≤ lent → read_outcome written lent ≡ gives (count ∷ cost ∷ [])
  unfolding read_outcome room_test ◌when◌else◌
  read_back lent held =
      passed_then _ (sym (whole_wire _ _ _ _ _ _ (omega arith) written whole_back.1))
      ∙ passed_then _ (sym (rw (count_back, entries_back) (tests_first count entries fitting.held ∙ fitting.sound)))
      ∙ rw (count_back, cost_back) (simp (le-ltb _ _ held))

  -- the plan stands in the frame from byte 8 on, behind the head as it was
  frame_plan : (take head_bytes (frame_after count entries cost frame) ≡ take head_bytes frame) × (drop head_bytes (frame_after count entries cost frame) ≡ written)
  unfolding frame_after framed written
  frame_plan =
      let wrote : frame_after count entries cost frame ≡ take head_bytes frame ++ written =
      given_leaves _ _ (write_gives count entries cost (length frame) (sym (fitting_memory count entries cost fitting)) long) in
      let eight : length (take head_bytes frame) ≡ head_bytes = length-take-le head_bytes frame (unfold frame_bytes in (omega (arith, long))) in
      (ap (take head_bytes) wrote ∙ take_at (take head_bytes frame) written head_bytes eight, ap (drop head_bytes) wrote ∙ drop_at (take head_bytes frame) written head_bytes eight)

  -- in the words of the calls: what is written, read into lent room, is the same entries and cost
  pub write_read_plan : (lent : List ℕ) → entry_numbers * count ≤ length lent
      → (read_outcome (drop head_bytes (frame_after count entries cost frame)) (length lent) ≡ gives (count ∷ cost ∷ []))
      × (entries_after (drop head_bytes (frame_after count entries cost frame)) lent ≡ take (entry_numbers * count) entries ++ drop (entry_numbers * count) lent)
      × (take head_bytes (frame_after count entries cost frame) ≡ take head_bytes frame)
  unfolding entries_after
  write_read_plan lent held =
      let gave = read_back (length lent) held in
      let n = length-take-le (entry_numbers * count) entries fitting.held in
      (rw frame_plan.1 gave, rw frame_plan.1 (given_leaves _ _ (sym gave) ∙ rw (entries_back, n)), frame_plan.0)

-- ---- read and written again

-- A plan that is read into lent room, and what the room then holds, with the cost, written into any frame that has room.
module _ (plan lent frame : List ℕ) (small : Bytes plan) (small_frame : Bytes frame) (values : List ℕ)
    (gave : read_outcome plan (length lent) ≡ gives values) (long : frame_bytes (count_on plan) ≤ length frame) where
  read : Readable plan (length lent) values
  read = read_readable plan (length lent) values gave

  held : entries_after plan lent ≡ entries_on plan ++ drop (length (entries_on plan)) lent
  unfolding entries_after
  held = given_leaves _ _ (sym gave)

  length_on : length (entries_on plan) ≡ entry_numbers * count_on plan
  unfolding entries_on
  length_on = length_entries plan (count_on plan)

  -- the entries and the cost pass again
  pub still_fitting : Fitting (count_on plan) (entries_after plan lent) (cost_on plan)
  unfolding cost_on
  still_fitting =
      record {
        some = read.whole.some;
        few = read.whole.few;
        held = rw held (omega (arith, length_on, length-append (entries_on plan) (drop (length (entries_on plan)) lent)));
        small = field_lt plan count_width cost_width;
        sound = rw held (tests_past (count_on plan) (entries_on plan) _ (omega (arith, length_on)) ∙ read.sound);
      }

  same_values : count_on plan ∷ cost_on plan ∷ take (entry_numbers * count_on plan) (entries_after plan lent) ≡ read_table plan head_widths entry_widths (count_on plan)
  unfolding entries_on
  same_values =
      ap (λ (l : List ℕ). count_on plan ∷ cost_on plan ∷ l)
      (ap (take (entry_numbers * count_on plan)) held ∙ take_at (entries_on plan) _ (entry_numbers * count_on plan) length_on)
      ∙ sym (table_plan plan (count_on plan))

  -- the same bytes, from byte 8 on, between the head and what stands behind the plan
  pub read_write_plan : (write_outcome (count_on plan) (entries_after plan lent) (cost_on plan) (length frame) ≡ gives (frame_bytes (count_on plan) ∷ []))
      × (frame_after (count_on plan) (entries_after plan lent) (cost_on plan) frame
      ≡ take head_bytes frame
      ++ (take (table_bytes head_widths entry_widths (count_on plan)) plan ++ drop (table_bytes head_widths entry_widths (count_on plan)) (drop head_bytes frame)))
  unfolding frame_after framed
  read_write_plan = (sym wrote, given_leaves _ _ wrote ∙ ap (λ (l : List ℕ). take head_bytes frame ++ l) (rw same_values again))
    where
      wrote : gives (frame_bytes (count_on plan) ∷ []) ≡ write_outcome (count_on plan) (entries_after plan lent) (cost_on plan) (length frame)
      wrote = write_gives (count_on plan) (entries_after plan lent) (cost_on plan) (length frame) (sym (fitting_memory _ _ _ still_fitting)) long

      small_part : Bytes (drop head_bytes frame)
      small_part i = rw (get_or-drop head_bytes frame i 0) (small_frame (head_bytes + i))

      again : write_table (drop head_bytes frame) head_widths entry_widths (count_on plan) (read_table plan head_widths entry_widths (count_on plan))
          ≡ take (table_bytes head_widths entry_widths (count_on plan)) plan ++ drop (table_bytes head_widths entry_widths (count_on plan)) (drop head_bytes frame)
      again =
          (unfold frame_bytes in
          (read_write head_widths entry_widths (count_on plan) plan (drop head_bytes frame) small small_part read.whole.held
          (omega (arith, long, length-drop head_bytes frame)) read.whole.clear))

-- ---- what stands behind a plan

-- bytes that agree as far as a whole plan goes are read alike, and leave the same in the lent entries: nothing behind the plan has any influence
pub nothing_behind : (a b lent : List ℕ) → table_bytes head_widths entry_widths (count_on a) ≤ length a → table_bytes head_widths entry_widths (count_on a) ≤ length b
    → take (table_bytes head_widths entry_widths (count_on a)) a ≡ take (table_bytes head_widths entry_widths (count_on a)) b
    → (read_outcome a (length lent) ≡ read_outcome b (length lent)) × (entries_after a lent ≡ entries_after b lent)
nothing_behind a b lent long_a long_b front = (outcome, after)
  where
    same : (count_on b ≡ count_on a)
        × (read_table a head_widths entry_widths (count_on a) ≡ read_table b head_widths entry_widths (count_on a))
        × (wire_tests a ≡ wire_tests b)
    same = front_same _ _ _ _ _ _ (omega arith) a b long_a long_b front

    both : count_on a ∷ cost_on a ∷ fields_at a (count_width + cost_width) (rows (count_on a) entry_widths)
        ≡ count_on b ∷ cost_on b ∷ fields_at b (count_width + cost_width) (rows (count_on a) entry_widths)
    both = sym (table_plan a (count_on a)) ∙ same.1 ∙ table_plan b (count_on a)

    cost : cost_on a ≡ cost_on b
    cost = cc both

    entries : entries_on a ≡ entries_on b
    entries = (unfold entries_on in (rw same.0 (ap (drop 2) both)))

    outcome : read_outcome a (length lent) ≡ read_outcome b (length lent)
    outcome = (unfold read_outcome room_test in (rw (same.2, entries, same.0, cost)))

    after : entries_after a lent ≡ entries_after b lent
    after = (unfold entries_after in (rw (outcome, entries)))
