-- The plan in a lent frame (document 01, "Bits on the wire" and "Refusal numbers and their order"): what writing and reading one come to, and what every
-- lent buffer then holds. A plan is a table that starts at byte 8: entry count and cost, then a row for each entry. Widths are in bits. Assumes nothing.
use Rattle.std.specs.Prelude.{ℕ, ◌+◌, ◌*◌, ◌^◌, ◌≡◌, List, [], ◌∷◌, ◌++◌, length, take, drop, eqb, ltb, leb, Result}
use Rattle.bits.specs.Field.{field_at}
use Rattle.bits.specs.Table.{rows, fields_at, table_bytes, write_table}
use Rattle.packets.specs.Outcome.{Outcome, gives, refuses, ◌when◌else◌, ◌then◌, ◌given◌else◌, answer_of}
use Rattle.packets.specs.declared.refusal.Refusal.{Refusal}
use Rattle.plan.specs.declared.frame.PlanHead.{PlanHead}
use Rattle.packets.specs.Wire.{count_at, table_tests}
use Rattle.plan.specs.Entries.{most_entries, entry_numbers, entry_widths, entry_tests}

-- the bytes at a frame's front that belong to the radio driver (bytes)
abbrev pub head_bytes : ℕ
head_bytes = 8

-- the widths of the entry count and the cost (bits)
abbrev pub count_width : ℕ
count_width = 8

abbrev pub cost_width : ℕ
cost_width = 44

abbrev pub head_widths : List ℕ
head_widths = count_width ∷ cost_width ∷ []

-- the bytes of a frame that holds a plan of so many entries, its head included (bytes)
unfoldable pub frame_bytes : ℕ → ℕ
frame_bytes count = head_bytes + table_bytes head_widths entry_widths count

-- ---- answers

-- a plan that is read gives its entries and its cost (bytes per second, squared, times seconds)
abbrev pub read_answer_of : Result PlanHead Refusal → Outcome
read_answer_of answer = answer_of (λ (head : PlanHead). head.entries ∷ head.cost ∷ []) answer

-- a plan that is written gives the bytes of the frame that it takes, the head included (bytes)
abbrev pub frame_answer_of : Result ℕ Refusal → Outcome
frame_answer_of answer = answer_of (λ (bytes : ℕ). bytes ∷ []) answer

-- ---- reading

-- the part of a frame where the plan stands
abbrev pub plan_on : List ℕ → List ℕ
plan_on frame = drop head_bytes frame

-- the entry count and the cost at the front of a plan
abbrev pub count_on : List ℕ → ℕ
count_on plan = count_at plan head_widths

unfoldable pub cost_on : List ℕ → ℕ
cost_on plan = field_at plan count_width cost_width

-- the entries behind them, as numbers
unfoldable pub entries_on : List ℕ → List ℕ
entries_on plan = fields_at plan (count_width + cost_width) (rows (count_on plan) entry_widths)

-- the tests of the bytes alone, those of any table (Wire of packets): no count byte (1), 9, 1, 7
abbrev pub wire_tests : List ℕ → Outcome
wire_tests plan = table_tests head_widths entry_widths most_entries 9 9 plan

-- the test of the room for the entries (numbers), and what a plan that is read gives
unfoldable pub room_test : List ℕ → ℕ → Outcome
room_test plan room =
    refuses 8 0 when ltb room (entry_numbers * count_on plan) else
    gives (count_on plan ∷ cost_on plan ∷ [])

-- reading a plan into lent room for so many numbers: the bytes, then the entries in order, then the room
unfoldable pub read_outcome : List ℕ → ℕ → Outcome
read_outcome plan room = wire_tests plan then entry_tests (count_on plan) 0 (entries_on plan) then room_test plan room

-- what the lent entries hold after it: the plan's entries, and behind them what stood there; after a refusal all as it was
unfoldable pub entries_after : List ℕ → List ℕ → List ℕ
entries_after plan lent = entries_on plan ++ drop (length (entries_on plan)) lent given read_outcome plan (length lent) else lent

-- ---- writing

-- the tests of entries in memory and their cost: 9, 1, 11, the entries in order
unfoldable pub memory_tests : ℕ → List ℕ → ℕ → Outcome
memory_tests count entries cost =
    refuses 9 0 when eqb count 0 else
    refuses 9 0 when ltb most_entries count else
    refuses 1 0 when ltb (length entries) (entry_numbers * count) else
    refuses 11 0 when leb (2 ^ cost_width) cost else
    entry_tests count 0 entries

-- writing them into a lent frame of so many bytes: 9, 1, 11, the entries, then 8; what is written gives the bytes of the frame that it takes
unfoldable pub write_outcome : ℕ → List ℕ → ℕ → ℕ → Outcome
write_outcome count entries cost room =
    memory_tests count entries cost then
    refuses 8 0 when ltb room (frame_bytes count) else
    gives (frame_bytes count ∷ [])

-- a frame with a plan in it: the head as it was, the plan from byte 8 on, and behind it what stood there
unfoldable pub framed : ℕ → List ℕ → ℕ → List ℕ → List ℕ
framed count entries cost frame =
    take head_bytes frame ++ write_table (drop head_bytes frame) head_widths entry_widths count (count ∷ cost ∷ take (entry_numbers * count) entries)

-- what the lent frame holds after it; after a refusal all as it was
unfoldable pub frame_after : ℕ → List ℕ → ℕ → List ℕ → List ℕ
frame_after count entries cost frame = framed count entries cost frame given write_outcome count entries cost (length frame) else frame

-- ---- the promises

-- what reading a plan promises: the answer, and the lent entries at exit
abbrev pub PlanRead : List ℕ → List ℕ → Result PlanHead Refusal → List ℕ → Type 0
PlanRead frame lent answer after =
    (read_answer_of answer ≡ read_outcome (plan_on frame) (length lent)) × (after ≡ entries_after (plan_on frame) lent)

-- what writing a plan promises: the answer, and the lent frame at exit
abbrev pub PlanWritten : ℕ → List ℕ → ℕ → List ℕ → Result ℕ Refusal → List ℕ → Type 0
PlanWritten count entries cost frame answer after =
    (frame_answer_of answer ≡ write_outcome count entries cost (length frame)) × (after ≡ frame_after count entries cost frame)
