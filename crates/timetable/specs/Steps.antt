-- What the functions under the public operation give, as definitions that follow the code. The promise of the public operation does not rest on them.
-- Seconds, bytes and units of 1/D byte. Assumes nothing.
use Rattle.std.specs.Prelude.{◌++◌, ℕ, ◌*◌, ◌<◌, ◌≤◌, ◌≡◌, Bool, ◌&&◌, List, [], ◌∷◌, map, Option, Some, None, length, get_or, take, ltb, leb}
use Rattle.fractions.specs.declared.Rate.{Rate}
use Rattle.packets.specs.Limits.{last_second}
use Rattle.packets.specs.Records.{arrival_of, deadline_of}
use Rattle.policy.specs.Windows.{rate, choose}
use Rattle.policy.specs.Rounds.{day_of, outcome_of}
use Rattle.policy.specs.Carried.{carries, price_of}
use Rattle.policy.specs.Answer.{given_at}
use Rattle.timetable.specs.declared.Timetable.{Timetable}
use Rattle.timetable.specs.declared.entry.Entry as Made
use Rattle.timetable.specs.declared.epoch.Epoch.{Epoch}
use Rattle.timetable.specs.declared.epoch.Sheet as Arrays
use Rattle.timetable.specs.Setting.{most_rate, setting}
use Rattle.timetable.specs.Entries.{Choice, nobody, packet, Entry, Sheet, earliest, entries_of, sheet_at, units_of}
use Rattle.timetable.specs.Costs.{cost_of}
use Rattle.timetable.specs.Right.{most_entries}

-- ## The choice

-- packet i with so many units unsent may be sent in the epoch, by its record and its rate
unfoldable pub sendable_at : List ℕ → List (Option Rate) → Epoch → ℕ → ℕ → Bool
sendable_at records rates epoch unsent i =
    (carries (given_at rates i) epoch.rate.n epoch.rate.d && (leb (arrival_of records i) epoch.start && leb epoch.end (deadline_of records i))) && ltb 0 unsent

-- .. with the units of an array
unfoldable pub among : List ℕ → List (Option Rate) → Epoch → List ℕ → ℕ → Bool
among records rates epoch unsent i = sendable_at records rates epoch (get_or unsent i 0) i

-- a choice as a number, where it is not nobody
unfoldable pub number_of : Choice → Option ℕ
number_of nobody = None
number_of (packet i) = Some i

-- who is sent next once offset x of `full` units is reached
unfoldable pub next_of : ℕ → List ℕ → List (Option Rate) → Epoch → List ℕ → ℕ → ℕ → Option ℕ
next_of count records rates epoch unsent x full =
    number_of (choose (ltb x full) (earliest (among records rates epoch unsent) (deadline_of records) count) nobody)

-- ## Packets

-- the rates of the packets stand in this array
abbrev pub PacketRates : ℕ → List ℕ → List (Option Rate) → Type 0
PacketRates count records rates = (i : ℕ) → i < count → given_at rates i ≡ (outcome_of count records).packet i

-- the rate of packet i, and its bounds
pub record RateIs (count : ℕ) (records : List ℕ) (i : ℕ) (r : Rate) : Type 0 where
  pub is : (outcome_of count records).packet i ≡ rate r.n r.d
  pub n_most : r.n ≤ most_rate
  pub d_some : 0 < r.d
  pub d_most : r.d ≤ last_second

-- the units of packet i at first
unfoldable pub units_at : ℕ → List ℕ → ℕ → ℕ
units_at count records i = units_of (day_of count records) (outcome_of count records) i

-- the units of each packet at first
pub record UnitsAtFirst (count : ℕ) (records unsent : List ℕ) : Type 0 where
  pub long : length unsent ≡ 128
  pub is : (i : ℕ) → i < count → get_or unsent i 0 ≡ units_at count records i

-- what packet i adds to the radio cost
unfoldable pub cost_at : ℕ → List ℕ → ℕ → ℕ
cost_at count records i = (day_of count records).packets.weight i * price_of setting ((outcome_of count records).packet i)

-- ## Epochs

-- an epoch of the list: its start and its end (seconds), and the rate that it carries
pub record Carrying (count : ℕ) (records : List ℕ) (epoch : Epoch) : Type 0 where
  pub k_is : epoch.number < (day_of count records).epochs.count
  pub start_is : epoch.start ≡ (day_of count records).epochs.from epoch.number
  pub end_is : epoch.end ≡ (day_of count records).epochs.till epoch.number
  pub given_is : (outcome_of count records).epoch epoch.number ≡ rate epoch.rate.n epoch.rate.d

-- ## The sheet in arrays

-- an entry of the code is one of the definitions
unfoldable pub entry_of : Made.Entry → Entry
entry_of e = record { packet = e.packet; start = e.start; R = e.r; D = e.d; from = e.from; to = e.to; N = e.n }

-- the seven numbers of an entry
abbrev pub row_of : Made.Entry → List ℕ
row_of e = e.packet ∷ e.start ∷ e.r ∷ e.d ∷ e.from ∷ e.to ∷ e.n ∷ []

-- the first n numbers of each entry, entry after entry
unfoldable pub first_numbers : ℕ → List Entry → List ℕ
first_numbers n [] = []
first_numbers n (e ∷ entries) = take n (e.packet ∷ e.start ∷ e.R ∷ e.D ∷ e.from ∷ e.to ∷ e.N ∷ []) ++ first_numbers n entries

-- a sheet stands in the arrays: the units unsent, and its n entries at the front
pub record Sheeted (count : ℕ) (sheet : Sheet) (unsent : List ℕ) (n : ℕ) (entries : List Made.Entry) : Type 0 where
  pub unsent_long : length unsent ≡ 128
  pub unsent_is : (i : ℕ) → i < count → get_or unsent i 0 ≡ sheet.unsent i
  pub entries_long : length entries ≡ most_entries
  pub n_is : n ≡ length sheet.entries
  pub entries_are : map entry_of (take n entries) ≡ sheet.entries

-- the sheet before epoch k stands in the arrays
abbrev pub Underway : ℕ → List ℕ → ℕ → Arrays.Sheet → List Made.Entry → Type 0
Underway count records k arrays entries = Sheeted count (sheet_at (day_of count records) (outcome_of count records) k) arrays.unsent arrays.count entries

-- ## The whole

-- the timetables of a list: its entries at the front of the array, how many, the rounds and the radio cost
pub record Planned (count : ℕ) (records : List ℕ) (entries : List Made.Entry) (made : Timetable) : Type 0 where
  pub entries_long : length entries ≡ most_entries
  pub entries_are : map entry_of (take made.entries entries) ≡ entries_of count records
  pub count_is : made.entries ≡ length (entries_of count records)
  pub rounds_are : made.rounds ≡ (outcome_of count records).rounds
  pub cost_is : made.cost ≡ cost_of count records
