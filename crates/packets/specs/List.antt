-- The list on the wire (document 01, "Bits on the wire" and "Refusal numbers and their order"): what reading and writing one come to, and what
-- every lent buffer then holds. A list is a table: a count, then a record for each packet. Widths are in bits. Assumes nothing.
use Rattle.std.specs.Prelude.{ℕ, ◌*◌, ◌≡◌, List, [], ◌∷◌, ◌++◌, length, take, drop, ltb, Result}
use Rattle.bits.specs.Table.{rows, fields_at, table_bytes, write_table}
use Rattle.packets.specs.Limits.{most_packets}
use Rattle.packets.specs.Outcome.{Outcome, gives, refuses, ◌when◌else◌, ◌then◌, ◌given◌else◌, list_answer_of, written_answer_of}
use Rattle.packets.specs.Wire.{count_at, table_tests}
use Rattle.packets.specs.declared.list.ListSize.{ListSize}
use Rattle.packets.specs.declared.refusal.Refusal.{Refusal}
use Rattle.packets.specs.Records.{record_numbers, record_tests, memory_tests}

-- the width of the count (bits)
abbrev pub count_width : ℕ
count_width = 7

-- the widths of a record's size, arrival and deadline (bits)
abbrev pub record_widths : List ℕ
record_widths = 16 ∷ 17 ∷ 17 ∷ []

-- the bytes that a list of so many packets takes (bytes)
abbrev pub list_bytes : ℕ → ℕ
list_bytes count = table_bytes (count_width ∷ []) record_widths count

-- ---- reading

-- the count at the front of the bytes (packets)
abbrev pub count_on : List ℕ → ℕ
count_on bytes = count_at bytes (count_width ∷ [])

-- the records behind it, as numbers
unfoldable pub records_on : List ℕ → List ℕ
records_on bytes = fields_at bytes count_width (rows (count_on bytes) record_widths)

-- the tests of the bytes alone, those of any table (Wire): no bytes (1), 2, 3, 1, 7
abbrev pub wire_tests : List ℕ → Outcome
wire_tests bytes = table_tests (count_width ∷ []) record_widths most_packets 2 3 bytes

-- the test of the room for the records (numbers), and what a list that is read gives: its packets, and the bytes that it takes
unfoldable pub room_test : List ℕ → ℕ → Outcome
room_test bytes room =
    refuses 8 0 when ltb room (record_numbers * count_on bytes) else
    gives (count_on bytes ∷ list_bytes (count_on bytes) ∷ [])

-- reading a list into lent room for so many numbers: the bytes, then the records in order, then the room
unfoldable pub read_outcome : List ℕ → ℕ → Outcome
read_outcome bytes room = wire_tests bytes then record_tests (count_on bytes) 0 (records_on bytes) then room_test bytes room

-- what the lent records hold after it: the list's records, and behind them what stood there; after a refusal all as it was
unfoldable pub records_after : List ℕ → List ℕ → List ℕ
records_after bytes lent = records_on bytes ++ drop (length (records_on bytes)) lent given read_outcome bytes (length lent) else lent

-- what is handed back: the bytes behind the list; after a refusal the whole input
unfoldable pub rest_after : List ℕ → ℕ → List ℕ
rest_after bytes room = drop (list_bytes (count_on bytes)) bytes given read_outcome bytes room else bytes

-- ---- writing

-- writing packets in memory as a list into so many lent bytes: 2, 3, 1, the records, then 8; what is written gives the bytes that it takes
unfoldable pub write_outcome : ℕ → List ℕ → ℕ → Outcome
write_outcome count records room =
    memory_tests count records then
    refuses 8 0 when ltb room (list_bytes count) else
    gives (list_bytes count ∷ [])

-- what the lent bytes hold after it: the list at their front, and behind it what stood there; after a refusal all as it was
unfoldable pub bytes_after : ℕ → List ℕ → List ℕ → List ℕ
bytes_after count records lent =
    write_table lent (count_width ∷ []) record_widths count (count ∷ take (record_numbers * count) records)
    given write_outcome count records (length lent) else lent

-- ---- the promises

-- what judging a list promises: the answer
abbrev pub ListJudged : List ℕ → ℕ → Result ListSize Refusal → Type 0
ListJudged bytes room answer = list_answer_of answer ≡ read_outcome bytes room

-- what reading one promises: the part handed back, and the lent records at exit
abbrev pub ListRead : List ℕ → List ℕ → List ℕ → List ℕ → Type 0
ListRead bytes lent rest after = (rest ≡ rest_after bytes (length lent)) × (after ≡ records_after bytes lent)

-- what writing one promises: the answer, and the lent bytes at exit
abbrev pub ListWritten : ℕ → List ℕ → List ℕ → Result ℕ Refusal → List ℕ → Type 0
ListWritten count records lent answer after =
    (written_answer_of answer ≡ write_outcome count records (length lent)) × (after ≡ bytes_after count records lent)
