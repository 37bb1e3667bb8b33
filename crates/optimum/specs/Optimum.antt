-- What is proved of every accepted list (document 01, "The two timetables"): the exact timetable is the cheapest rival, and the radio timetable costs less than
-- any rival and one unit for each byte. Costs are bytes per second, squared, times seconds. Assumes nothing.
use Rattle.std.specs.Prelude.{ℕ, suc, ◌+◌, ◌-◌, ◌*◌, ◌<◌, ◌≤◌, min, max, List, [], ◌∷◌, eqb}
use Rattle.packets.specs.Limits.{air_bytes, last_second}
use Rattle.packets.specs.Records.{arrival_of, deadline_of, size_of}
use Rattle.policy.specs.Windows.{choose, sum}
use Rattle.policy.specs.Points.{packets_of}
use Rattle.policy.specs.Rounds.{day_of, outcome_of}
use Rattle.timetable.specs.Entries.{Entry, entries_of, radio_moment}
use Rattle.timetable.specs.Costs.{cost_of, exact_cost_n, exact_cost_d}
use Rattle.timetable.specs.Right.{Each}
use Rattle.optimum.specs.Rival.{Fraction, whole, plus, Equal, NotAbove, Below, Rival, rival_cost}

-- ## Rivals of a list

-- a rival of a list sends its packets, with their bytes on the air, in the seconds of the day. Every window ends by the last of them, so a slot after it would
-- get nothing
abbrev pub RivalOf : ℕ → List ℕ → ℕ → (ℕ → ℕ → Fraction) → Type 0
RivalOf count records slots bytes = Rival last_second (packets_of count records) slots bytes

-- its cost
abbrev pub rival_cost_of : ℕ → List ℕ → ℕ → (ℕ → ℕ → Fraction) → Fraction
rival_cost_of count records slots bytes = rival_cost last_second (packets_of count records) slots bytes

-- ## What the timetables cost

-- the cost of the exact timetable
abbrev pub exact_cost : ℕ → List ℕ → Fraction
exact_cost count records =
    record {
      over = exact_cost_n (day_of count records) (outcome_of count records);
      under = exact_cost_d (day_of count records) (outcome_of count records);
    }

-- the bytes in the list, as they go on the air (bytes)
unfoldable pub bytes_of : ℕ → List ℕ → ℕ
bytes_of count records = sum count (packets_of count records).weight

-- the price of the rounding for each byte, in units of cost: a setting is less than so many bytes per second above the rate
abbrev pub rounding_price : ℕ
rounding_price = 1

-- ## What the timetables send

-- the bytes of packet i that entries send, where `units e` of entry e are sent: a unit is 1/D byte
unfoldable pub bytes_in : (Entry → ℕ) → List Entry → ℕ → Fraction
bytes_in units [] i = whole 0
bytes_in units (e ∷ entries) i =
    plus (choose (eqb e.packet i) (record { over = units e; under = e.D }) (whole 0)) (bytes_in units entries i)

-- all units of an entry
abbrev pub all_units : Entry → ℕ
all_units e = e.to - e.from

-- the units of an entry that the exact timetable sends in second j: N offsets go by in a second, so in this second the offsets go
-- from N times the seconds before it to N times the seconds up to its end (a difference below zero is 0)
unfoldable pub units_at : ℕ → Entry → ℕ
units_at j e = min e.to ((suc j - e.start) * e.N) - max e.from ((j - e.start) * e.N)

-- the exact timetable as a rival with one slot a second: the bytes of packet i in second j
abbrev pub exact_bytes : ℕ → List ℕ → ℕ → ℕ → Fraction
exact_bytes count records j i = bytes_in (units_at j) (entries_of count records) i

-- the radio timetable sends an entry inside its packet's window: not before the arrival, and up to the deadline
pub record InWindow (count : ℕ) (records : List ℕ) (e : Entry) : Type 0 where
  pub packet_is : e.packet < count
  pub arrived : arrival_of records e.packet ≤ e.start
  pub in_time : e.start * (radio_moment e e.to).under + (radio_moment e e.to).over ≤ deadline_of records e.packet * (radio_moment e e.to).under

-- ## The statements

pub record Optimum (count : ℕ) (records : List ℕ) : Type 0 where
  -- no rival costs less than the exact timetable
  pub cheapest : (slots : ℕ) (bytes : ℕ → ℕ → Fraction) → RivalOf count records slots bytes
      → NotAbove (exact_cost count records) (rival_cost_of count records slots bytes)
  -- the exact timetable is among the rivals: one slot a second ..
  pub rival : RivalOf count records 1 (exact_bytes count records)
  -- .. and costs as a rival what it costs: it is the cheapest
  pub attained : Equal (rival_cost_of count records 1 (exact_bytes count records)) (exact_cost count records)
  -- the radio timetable costs less than any rival and the price of the rounding for each byte in the list. Less, and not only not more: R times D is below N and
  -- the price times D for every packet, and a list has a byte
  pub rounded : (slots : ℕ) (bytes : ℕ → ℕ → Fraction) → RivalOf count records slots bytes
      → Below (whole (cost_of count records)) (plus (rival_cost_of count records slots bytes) (whole (rounding_price * bytes_of count records)))
  -- it sends every packet whole, inside its window
  pub sent : (i : ℕ) → i < count → Equal (bytes_in all_units (entries_of count records) i) (whole (air_bytes (size_of records i)))
  pub windows : Each (InWindow count records) (entries_of count records)
  -- every fraction that is compared has a denominator above zero
  pub exact_under : 0 < (exact_cost count records).under
  pub rival_under : (slots : ℕ) (bytes : ℕ → ℕ → Fraction) → RivalOf count records slots bytes → 0 < (rival_cost_of count records slots bytes).under
  pub sent_under : (i : ℕ) → i < count → 0 < (bytes_in all_units (entries_of count records) i).under
