-- Entries in memory, and their tests (document 01, "Bits on the wire" and refusal 10). An entry is six numbers of the lent list: the packet's number,
-- the epoch's start (seconds), R (bytes per second), D, and the offsets from and to (units of 1/D byte). Assumes nothing.
use Rattle.std.specs.Prelude.{ℕ, ◌+◌, ◌*◌, ◌^◌, ◌<◌, ◌≤◌, List, [], ◌∷◌, get_or, eqb, ltb, leb}
use Rattle.packets.specs.Limits.{last_second}
use Rattle.packets.specs.Outcome.{Outcome, gives, refuses, ◌when◌else◌, in_order}

-- the most entries of a plan (entries)
abbrev pub most_entries : ℕ
most_entries = 191

-- the numbers of an entry
abbrev pub entry_numbers : ℕ
entry_numbers = 6

-- the widths of an entry's packet, start, R, D, from and to (bits)
abbrev pub entry_widths : List ℕ
entry_widths = 6 ∷ 17 ∷ 22 ∷ 17 ∷ 39 ∷ 39 ∷ []

-- 10 of one entry, at place i; a field that was read is never wider than its bits
unfoldable pub entry_test : ℕ → ℕ → ℕ → ℕ → ℕ → ℕ → ℕ → Outcome
entry_test i packet start r d from to =
    refuses 10 i when leb (2 ^ 6) packet else
    refuses 10 i when leb last_second start else
    refuses 10 i when eqb r 0 else
    refuses 10 i when leb (2 ^ 22) r else
    refuses 10 i when eqb d 0 else
    refuses 10 i when ltb last_second d else
    refuses 10 i when leb to from else
    refuses 10 i when leb (2 ^ 39) to else
    gives []

-- field k of entry i
abbrev pub field_of : List ℕ → ℕ → ℕ → ℕ
field_of entries i k = get_or entries (entry_numbers * i + k) 0

-- the tests of entry i
unfoldable pub entry_at : List ℕ → ℕ → Outcome
entry_at entries i =
    entry_test i
    (field_of entries i 0) (field_of entries i 1) (field_of entries i 2)
    (field_of entries i 3) (field_of entries i 4) (field_of entries i 5)

-- the tests of the n entries from entry i on, in order
unfoldable pub entry_tests : ℕ → ℕ → List ℕ → Outcome
entry_tests n i entries = in_order (entry_at entries) n i

-- an entry that 10 passes
pub record Sound (packet start r d from to : ℕ) : Type 0 where
  pub packet_fits : packet < 2 ^ 6
  pub start_fits : start < last_second
  pub r_some : 0 < r
  pub r_fits : r < 2 ^ 22
  pub d_some : 0 < d
  pub d_fits : d ≤ last_second
  pub rising : from < to
  pub to_fits : to < 2 ^ 39
