-- Packets in memory, and the tests of their records (document 01, "Figures and their units" and "Refusal numbers and their order").
-- Packets are numbered from 0. A packet's record is three numbers of the lent list: its size (bytes), its arrival (seconds) and its
-- deadline (seconds). Assumes nothing.
use Rattle.std.specs.Prelude.{ℕ, ◌+◌, ◌*◌, ◌<◌, ◌≤◌, List, [], length, get_or, eqb, ltb, leb}
use Rattle.packets.specs.Limits.{most_packets, largest_size, last_second}
use Rattle.packets.specs.Outcome.{Outcome, gives, refuses, ◌when◌else◌, in_order}

-- the numbers of a record
abbrev pub record_numbers : ℕ
record_numbers = 3

-- the listed size of packet i (bytes)
unfoldable pub size_of : List ℕ → ℕ → ℕ
size_of records i = get_or records (record_numbers * i) 0

-- the arrival of packet i (seconds)
unfoldable pub arrival_of : List ℕ → ℕ → ℕ
arrival_of records i = get_or records (record_numbers * i + 1) 0

-- the deadline of packet i (seconds)
unfoldable pub deadline_of : List ℕ → ℕ → ℕ
deadline_of records i = get_or records (record_numbers * i + 2) 0

-- 4, 5, 6 of one record, at place i
unfoldable pub record_test : ℕ → ℕ → ℕ → ℕ → Outcome
record_test i size arrival deadline =
    refuses 4 i when eqb size 0 else
    refuses 4 i when ltb largest_size size else
    refuses 5 i when ltb last_second deadline else
    refuses 6 i when leb deadline arrival else
    gives []

-- the tests of record i
unfoldable pub record_at : List ℕ → ℕ → Outcome
record_at records i = record_test i (size_of records i) (arrival_of records i) (deadline_of records i)

-- the tests of the n records from record i on, in order
unfoldable pub record_tests : ℕ → ℕ → List ℕ → Outcome
record_tests n i records = in_order (record_at records) n i

-- the tests of packets in memory, of which `count` are called for: 2, 3, 1, then the records
unfoldable pub memory_tests : ℕ → List ℕ → Outcome
memory_tests count records =
    refuses 2 0 when eqb count 0 else
    refuses 3 0 when ltb most_packets count else
    refuses 1 0 when ltb (length records) (record_numbers * count) else
    record_tests count 0 records

-- a record that 4, 5 and 6 pass
pub record Sound (size arrival deadline : ℕ) : Type 0 where
  pub some : 0 < size
  pub small : size ≤ largest_size
  pub early : arrival < deadline
  pub today : deadline ≤ last_second

-- packets that every test passes
pub record Accepted (count : ℕ) (records : List ℕ) : Type 0 where
  pub some : 0 < count
  pub few : count ≤ most_packets
  pub held : record_numbers * count ≤ length records
  pub sound : (i : ℕ) → i < count → Sound (size_of records i) (arrival_of records i) (deadline_of records i)
