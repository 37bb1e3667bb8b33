-- Laws of the plan in a frame: the bits that it takes, what an answer that gives values tells, and what every buffer then holds. Assumes nothing.
use Prim.Native.Nat.{ℕ, zero, suc, ◌+◌, ◌-◌, ◌*◌, ◌/◌, ◌<◌, ◌≤◌, ◌^◌}
use mathlib.Core.Path.{◌≡◌, refl, sym, ap, ◌∙◌}
use mathlib.Core.List.{List, [], ◌∷◌, ◌++◌, append-nil}
use native.Mathlib.Omega.{arith}
use lib.ListN.{length, take, drop, length-drop, drop_of_length-le}
use lib.Seq.{sets, take_all}
use lib.Dec.{eqb, ltb, leb}
use borrow.Author.Tests.{eqb-false, ltb-false, leb-false, eq-eqb, ne_eqb, le-ltb, lt-leb}
use Rattle.bits.specs.Table.{total, rows, fields_at, field_widths, table_bytes, write_table, AtMost}
use Rattle.bits.proofs.Tables.{total_rows, length_rows, length_fields}
use Rattle.packets.specs.Outcome.{gives, ◌when◌else◌, refusal_of}
use Rattle.packets.specs.Wire.{table_tests, table_outcome}
use Rattle.plan.specs.Forms.{plan_form}
use Rattle.packets.specs.declared.refusal.Refusal.TheVariants.{Short}
use Rattle.packets.proofs.Outcomes.{when_gives, refused_then, given_leaves, has_room}
use Rattle.packets.proofs.Wire.{table_readable, Whole, stored_given}
use Rattle.plan.specs.Entries.{most_entries, entry_numbers, entry_widths, entry_tests}
use Rattle.plan.specs.Frame.{head_bytes, count_width, cost_width, head_widths, frame_bytes, count_on, cost_on, entries_on, room_test, read_outcome, entries_after, memory_tests, write_outcome, framed, frame_after}
use Rattle.plan.proofs.Judging.{tests_pass}

-- ---- the bits of a plan

entry_total : total entry_widths ≡ 140
unfolding total
entry_total = refl

pub entries_total : (count : ℕ) → total (rows count entry_widths) ≡ 140 * count
entries_total count = total_rows count entry_widths ∙ rw entry_total (omega arith)

pub plan_total : (count : ℕ) → total (field_widths head_widths entry_widths count) ≡ 52 + 140 * count
unfolding field_widths total
plan_total count = omega (arith, entries_total count)

pub plan_bytes_is : (count : ℕ) → table_bytes head_widths entry_widths count ≡ (52 + 140 * count + 7) / 8
unfolding table_bytes
plan_bytes_is count = rw plan_total

-- no field of a plan is wider than 64 bits
pub head_narrow : AtMost 64 head_widths
head_narrow zero = omega arith
head_narrow (suc zero) = omega arith
head_narrow (suc (suc i)) = omega arith

-- six numbers for each entry
pub length_entries : (plan : List ℕ) (count : ℕ) → length (fields_at plan (count_width + cost_width) (rows count entry_widths)) ≡ entry_numbers * count
length_entries plan count = length_fields plan (count_width + cost_width) (rows count entry_widths) ∙ length_rows count entry_widths ∙ omega arith

-- ---- reading, test by test

-- bytes that hold a whole plan, with zero in its unused bits
abbrev pub WholePlan : List ℕ → Type 0
WholePlan plan = Whole head_widths entry_widths most_entries plan

-- the entries as the reader takes them
entries_read : (plan : List ℕ) (count : ℕ) → count ≡ count_on plan → fields_at plan 52 (rows count entry_widths) ≡ entries_on plan
unfolding entries_on
entries_read plan count e = rw e

-- reading a plan is reading a table of its form
pub plan_outcome : (plan : List ℕ) (room : ℕ) → read_outcome plan room ≡ table_outcome plan_form plan room (count_on plan ∷ cost_on plan ∷ [])
unfolding read_outcome room_test entry_tests entries_on table_outcome total
plan_outcome plan room = refl

-- a plan that is read: whole, its entries sound, and room for them
pub record Readable (plan : List ℕ) (room : ℕ) (values : List ℕ) : Type 0 where
  pub whole : WholePlan plan
  pub sound : entry_tests (count_on plan) 0 (entries_on plan) ≡ gives []
  pub held : entry_numbers * count_on plan ≤ room
  pub told : values ≡ count_on plan ∷ cost_on plan ∷ []

pub read_readable : (plan : List ℕ) (room : ℕ) (values : List ℕ) → read_outcome plan room ≡ gives values → Readable plan room values
unfolding entry_tests entries_on total
read_readable plan room values h =
    let r = table_readable plan_form plan room _ values (sym (plan_outcome plan room) ∙ h) in
    record { whole = r.1.whole; sound = r.1.sound; held = r.1.held; told = r.0 }

-- the numbers of such an answer, and the bounds that they meet
pub record Told (plan : List ℕ) (room count : ℕ) : Type 0 where
  pub entries : count ≡ count_on plan
  pub few : count ≤ most_entries
  pub bits : 52 + total (rows count entry_widths) ≤ 8 * length plan
  pub held : entry_numbers * count ≤ room

pub read_told : (plan : List ℕ) (room count cost : ℕ) → gives (count ∷ cost ∷ []) ≡ read_outcome plan room → Told plan room count
read_told plan room count cost e =
    let r = read_readable plan room (count ∷ cost ∷ []) (sym e) in
    let t = r.told in
    let n : count ≡ count_on plan = cc in
    let w = r.whole in
    let held = r.held in
    let long = plan_bytes_is (count_on plan) in
    let bits = entries_total count in
    record { entries = n; few = omega arith; bits = omega arith; held = omega arith }

-- what the lent entries hold when the plan has been read
pub read_done : (plan lent filled : List ℕ) (count cost : ℕ) → gives (count ∷ cost ∷ []) ≡ read_outcome plan (length lent)
    → filled ≡ sets lent 0 (fields_at plan 52 (rows count entry_widths)) → filled ≡ entries_after plan lent
unfolding entries_after
read_done plan lent filled count cost e stored =
    let t = read_told plan (length lent) count cost e in
    let held = t.held in
    let entries = entries_read plan count t.entries in
    stored ∙ rw entries (stored_given (entries_on plan) lent e (rw (← entries) (omega (arith, length_entries plan count))))

-- ---- writing

pub write_gives : (count : ℕ) (entries : List ℕ) (cost room : ℕ) → gives [] ≡ memory_tests count entries cost → frame_bytes count ≤ room
    → gives (frame_bytes count ∷ []) ≡ write_outcome count entries cost room
unfolding write_outcome
write_gives count entries cost room e held = has_room _ _ _ e held

-- entries in memory that pass: how many there are, and that they are lent
pub record Fitting (count : ℕ) (entries : List ℕ) (cost : ℕ) : Type 0 where
  pub some : 0 < count
  pub few : count ≤ most_entries
  pub held : entry_numbers * count ≤ length entries
  pub small : cost < 2 ^ cost_width
  pub sound : entry_tests count 0 entries ≡ gives []

pub memory_fitting : (count : ℕ) (entries : List ℕ) (cost : ℕ) (values : List ℕ) → memory_tests count entries cost ≡ gives values → Fitting count entries cost
unfolding memory_tests
memory_fitting count entries cost values h =
    let a = when_gives 9 0 (eqb count 0) refl h in
    let b = when_gives 9 0 (ltb most_entries count) refl a.1 in
    let d = when_gives 1 0 (ltb (length entries) (entry_numbers * count)) refl b.1 in
    let f = when_gives 11 0 (leb (2 ^ cost_width) cost) refl d.1 in
    let z : count ≡ 0 → ⊥ = eqb-false _ _ a.0 in
    record {
      some = omega arith;
      few = ltb-false _ _ b.0;
      held = ltb-false _ _ d.0;
      small = leb-false _ _ f.0;
      sound = tests_pass count 0 entries values f.1;
    }

pub fitting_memory : (count : ℕ) (entries : List ℕ) (cost : ℕ) → Fitting count entries cost → memory_tests count entries cost ≡ gives []
unfolding memory_tests ◌when◌else◌
fitting_memory count entries cost f =
    let z : count ≡ 0 → ⊥ = λ (e : count ≡ 0). omega (arith, f.some) in
    simp (ne_eqb _ _ z, le-ltb _ _ f.few, le-ltb _ _ f.held, lt-leb _ _ f.small) f.sound

-- ---- the frame's part from byte 8 on

-- a part that goes to the end is the rest of the frame
pub whole_part : (frame : List ℕ) → take (length frame - head_bytes) (drop head_bytes frame) ≡ drop head_bytes frame
whole_part frame = take_all (length frame - head_bytes) (drop head_bytes frame) (omega (arith, length-drop head_bytes frame))

-- a frame shorter than its head has no count byte
pub headless : (frame : List ℕ) (room : ℕ) → length frame < head_bytes → refusal_of Short ≡ read_outcome (drop head_bytes frame) room
unfolding read_outcome table_tests ◌when◌else◌
headless frame room short =
    let none : length (drop head_bytes frame) ≡ 0 = omega (arith, length-drop head_bytes frame) in
    sym (refused_then Short _ (simp (eq-eqb _ _ none)))

-- a part that goes to the end leaves nothing behind it, and the eight head bytes before it are as they were
pub write_done : (count : ℕ) (entries : List ℕ) (cost : ℕ) (frame part : List ℕ) → gives (frame_bytes count ∷ []) ≡ write_outcome count entries cost (length frame)
    → part ≡ write_table (take (length frame - head_bytes) (drop head_bytes frame)) head_widths entry_widths count ((count ∷ cost ∷ []) ++ take (count * 6) entries)
    → take head_bytes frame ++ (part ++ drop (length frame - head_bytes) (drop head_bytes frame)) ≡ frame_after count entries cost frame
unfolding frame_after framed
write_done count entries cost frame part e w =
    let c : count * 6 ≡ entry_numbers * count = omega arith in
    let nothing : drop (length frame - head_bytes) (drop head_bytes frame) ≡ [] = drop_of_length-le (drop head_bytes frame) {i = length frame - head_bytes} (omega (arith, length-drop head_bytes frame)) in
    let done : part ++ drop (length frame - head_bytes) (drop head_bytes frame)
    ≡ write_table (drop head_bytes frame) head_widths entry_widths count (count ∷ cost ∷ take (entry_numbers * count) entries) =
    rw nothing (append-nil part ∙ rw (c, whole_part) at w) in
    ap (λ (l : List ℕ). take head_bytes frame ++ l) done ∙ sym (given_leaves _ _ e)
