-- The whole call, from a list's bytes to a plan in a lent frame: its answer and the frame, byte for byte, as the rates, the entries and the costs of the
-- list's packets give them. Bytes, seconds, bytes per second; a cost is in bytes per second, squared, times seconds. Assumes nothing.
use Rattle.std.specs.Prelude.{ℕ, ◌≡◌, List, [], ◌∷◌, length, ltb, Result}
use Rattle.packets.specs.Outcome.{Outcome, gives, refuses, ◌when◌else◌, ◌then◌, ◌given◌else◌, answer_of}
use Rattle.packets.specs.declared.refusal.Refusal.{Refusal}
use Rattle.timetable.specs.declared.Timetable.{Timetable}
use Rattle.packets.specs.Records.{record_tests}
use Rattle.packets.specs.List.{count_on, records_on, wire_tests}
use Rattle.policy.specs.Rounds.{outcome_of}
use Rattle.timetable.specs.Entries.{Entry, entries_of}
use Rattle.timetable.specs.Costs.{cost_of}
use Rattle.plan.specs.Frame.{frame_bytes, framed}

-- the numbers of entries in a plan: packet, epoch start, R, D, from and to of each
unfoldable pub plan_numbers : List Entry → List ℕ
plan_numbers [] = []
plan_numbers (e ∷ entries) = e.packet ∷ e.start ∷ e.R ∷ e.D ∷ e.from ∷ e.to ∷ plan_numbers entries

-- the values of an answer: the rounds, the entries and the radio cost, or the refusal
abbrev pub plan_answer_of : Result Timetable Refusal → Outcome
plan_answer_of answer = answer_of (λ (t : Timetable). t.rounds ∷ t.entries ∷ t.cost ∷ []) answer

-- accepted packets into a frame of so many bytes: 8 for the frame, its head included; else the number of rounds, the number of entries and the radio cost
unfoldable pub packets_outcome : ℕ → List ℕ → ℕ → Outcome
packets_outcome count records room =
    refuses 8 0 when ltb room (frame_bytes (length (entries_of count records))) else
    gives ((outcome_of count records).rounds ∷ length (entries_of count records) ∷ cost_of count records ∷ [])

-- the frame with their plan: the head as it was, the plan from byte 8 on, and behind it what stood there
unfoldable pub packets_framed : ℕ → List ℕ → List ℕ → List ℕ
packets_framed count records frame = framed (length (entries_of count records)) (plan_numbers (entries_of count records)) (cost_of count records) frame

-- planning the list at the front of these bytes: the tests of the bytes, the records in order, then the frame
unfoldable pub plan_outcome : List ℕ → ℕ → Outcome
plan_outcome list room =
    wire_tests list then
    record_tests (count_on list) 0 (records_on list) then
    packets_outcome (count_on list) (records_on list) room

-- what the lent frame holds after it; after a refusal all as it was
unfoldable pub frame_after : List ℕ → List ℕ → List ℕ
frame_after list frame = packets_framed (count_on list) (records_on list) frame given plan_outcome list (length frame) else frame

-- what the whole call promises: the answer, and every byte of the lent frame at exit
abbrev pub Whole : List ℕ → List ℕ → Result Timetable Refusal → List ℕ → Type 0
Whole list frame answer after = (plan_answer_of answer ≡ plan_outcome list (length frame)) × (after ≡ frame_after list frame)

-- the same of accepted packets
abbrev pub Packed : ℕ → List ℕ → List ℕ → Result Timetable Refusal → List ℕ → Type 0
Packed count records frame answer after =
    (plan_answer_of answer ≡ packets_outcome count records (length frame))
    × (after ≡ (packets_framed count records frame given packets_outcome count records (length frame) else frame))
