-- The two timetables, entry by entry (document 01, "The two timetables"): earliest deadline first inside each epoch, at the epoch's rate N/D.
-- The unit of data is 1/D byte, and an offset is so many units from the epoch's start. Times are seconds, rates bytes per second. Assumes nothing.
use Rattle.std.specs.Prelude.{ℕ, zero, suc, ◌+◌, ◌-◌, ◌*◌, min, Bool, ◌&&◌, List, [], ◌∷◌, ◌++◌, eqb, ltb}
use Rattle.policy.specs.Windows.{Given, none, rate, inside, choose}
use Rattle.policy.specs.Rounds.{Day, Progress, day_of, outcome_of}
use Rattle.policy.specs.Carried.{carries}
use Rattle.policy.specs.Answer.{shown_d, epoch_count}
use Rattle.timetable.specs.Setting.{setting}

-- ## Entries

-- what one packet sends in one go in one epoch
pub record Entry : Type 0 where
  -- the packet's number
  pub packet : ℕ
  -- the epoch's start (seconds)
  pub start : ℕ
  -- the radio's setting (bytes per second)
  pub R : ℕ
  -- the denominator of the exact rate N/D (bytes per second)
  pub D : ℕ
  -- the offsets where the stretch begins and ends (units of 1/D byte from the epoch's start)
  pub from : ℕ
  pub to : ℕ
  -- the numerator of the exact rate N/D (bytes per second)
  pub N : ℕ

-- the numbers of an entry in lent room: the six that a plan stores, and N
abbrev pub entry_numbers : ℕ
entry_numbers = 7

-- those numbers, entry after entry
unfoldable pub numbers_of : List Entry → List ℕ
numbers_of [] = []
numbers_of (e ∷ entries) =
    e.packet ∷ e.start ∷ e.R ∷ e.D ∷ e.from ∷ e.to ∷ e.N ∷ numbers_of entries

-- a moment as a fraction of whole numbers (seconds after the epoch's start)
pub record Moment : Type 0 where
  pub over : ℕ
  pub under : ℕ

-- when the exact timetable reaches offset x: after x/N seconds
unfoldable pub exact_moment : Entry → ℕ → Moment
exact_moment e x = record { over = x; under = e.N }

-- when the radio timetable reaches offset x: after x/(D times R) seconds
unfoldable pub radio_moment : Entry → ℕ → Moment
radio_moment e x = record { over = x; under = e.D * e.R }

-- ## Candidates

-- packet i was assigned N/D, and its window contains epoch k
unfoldable pub eligible : Day → Progress → ℕ → ℕ → ℕ → ℕ → Bool
eligible day rates k n d i = carries (rates.packet i) n d && inside day.epochs (day.packets.from i) (day.packets.till i) k

-- packet i is a candidate for epoch k: eligible, with units still unsent
unfoldable pub candidate : Day → Progress → ℕ → ℕ → ℕ → (ℕ → ℕ) → ℕ → Bool
candidate day rates k n d unsent i = eligible day rates k n d i && ltb 0 (unsent i)

-- who is sent next
pub data Choice : Type 0 where
  nobody : Choice
  packet : ℕ → Choice

-- the choice so far, or number i where that counts and its deadline is strictly earlier, so that of equal deadlines the lower number stays
unfoldable pub sooner : (ℕ → Bool) → (ℕ → ℕ) → ℕ → Choice → Choice
sooner among deadline i nobody = choose (among i) (packet i) nobody
sooner among deadline i (packet j) = choose (among i && ltb (deadline i) (deadline j)) (packet i) (packet j)

-- of the first n numbers that count, the one with the earliest deadline
unfoldable pub earliest : (ℕ → Bool) → (ℕ → ℕ) → ℕ → Choice
earliest among deadline zero = nobody
earliest among deadline (suc i) = sooner among deadline i (earliest among deadline i)

-- ## Epochs

-- how far the timetable has come: the entries so far, the units that each packet has still to send, and the offset reached in the epoch
pub record Sheet : Type 0 where
  pub entries : List Entry
  pub unsent : ℕ → ℕ
  pub offset : ℕ

-- the units that epoch k holds at N/D: its length times N
unfoldable pub units_in : Day → ℕ → ℕ → ℕ
units_in day k n = day.epochs.weight k * n

-- number i has y fewer
unfoldable pub less : (ℕ → ℕ) → ℕ → ℕ → ℕ → ℕ
less unsent i y j = choose (eqb j i) (unsent j - y) (unsent j)

-- y units of packet i are sent in epoch k
unfoldable pub sent : Day → ℕ → ℕ → ℕ → Sheet → ℕ → ℕ → Sheet
sent day k n d sheet i y =
    record {
      entries = sheet.entries ++
          (record { packet = i; start = day.epochs.from k; R = setting n d; D = d; from = sheet.offset; to = sheet.offset + y; N = n } ∷ []);
      unsent = less sheet.unsent i y;
      offset = sheet.offset + y;
    }

-- who is sent next in epoch k: the candidate with the earliest deadline, or nobody once the epoch is full
unfoldable pub next_in : Day → Progress → ℕ → ℕ → ℕ → Sheet → Choice
next_in day rates k n d sheet =
    choose (ltb sheet.offset (units_in day k n))
    (earliest (candidate day rates k n d sheet.unsent) day.packets.till day.packets.count) nobody

-- that packet is sent to its own end or to the epoch's, whichever comes first
unfoldable pub turn_of : Day → ℕ → ℕ → ℕ → Sheet → Choice → Sheet
turn_of day k n d sheet nobody = sheet
turn_of day k n d sheet (packet i) = sent day k n d sheet i (min (sheet.unsent i) (units_in day k n - sheet.offset))

-- what t stretches more in epoch k come to
unfoldable pub turns : Day → Progress → ℕ → ℕ → ℕ → ℕ → Sheet → Sheet
turns day rates k n d zero sheet = sheet
turns day rates k n d (suc t) sheet =
    let before = turns day rates k n d t sheet in
    turn_of day k n d before (next_in day rates k n d before)

-- an epoch begins at offset 0
unfoldable pub begun : Sheet → Sheet
begun sheet = record { entries = sheet.entries; unsent = sheet.unsent; offset = 0 }

-- epoch k: nothing is sent in a silent one; in one with a rate each stretch ends a packet or the epoch, so as many stretches as packets are enough
unfoldable pub filled : Day → Progress → ℕ → Given → Sheet → Sheet
filled day rates k none sheet = begun sheet
filled day rates k (rate n d) sheet = turns day rates k n d day.packets.count (begun sheet)

-- the units of packet i at first: its bytes on the air times D
unfoldable pub units_of : Day → Progress → ℕ → ℕ
units_of day rates i = day.packets.weight i * shown_d (rates.packet i)

-- what the first k epochs come to
unfoldable pub sheet_at : Day → Progress → ℕ → Sheet
sheet_at day rates zero = record { entries = []; unsent = units_of day rates; offset = 0 }
sheet_at day rates (suc k) = filled day rates k (rates.epoch k) (sheet_at day rates k)

-- the entries of a list, in time order
unfoldable pub entries_of : ℕ → List ℕ → List Entry
entries_of count records = (sheet_at (day_of count records) (outcome_of count records) (epoch_count count records)).entries
