-- What the entries of a list are held to (document 01, "The two timetables"): each stands where it may, they follow one another in time, each packet is sent
-- whole and each epoch that carries a rate is full. That they are so is proved for every accepted list. Assumes nothing.
use Rattle.std.specs.Prelude.{ℕ, ◌+◌, ◌-◌, ◌*◌, ◌^◌, ◌<◌, ◌≤◌, ◌≡◌, ◌⊎◌, Bool, List, [], ◌∷◌, length, eqb}
use Rattle.packets.specs.Limits.{last_second}
use Rattle.policy.specs.Windows.{none, rate, only_if}
use Rattle.policy.specs.Rounds.{Day, Progress}
use Rattle.timetable.specs.Setting.{most_rate, setting}
use Rattle.timetable.specs.Entries.{Entry, exact_moment, radio_moment, units_in, units_of}

-- the most entries of a timetable, as many as packets and epochs: 64 and 127 (entries)
abbrev pub most_entries : ℕ
most_entries = 191

-- a fact of each entry
abbrev pub Each : (Entry → Type 0) → List Entry → Type 0
Each P [] = Unit {0}
Each P (e ∷ entries) = P e × Each P entries

-- an entry stands where it may
pub record Right (day : Day) (rates : Progress) (e : Entry) : Type 0 where
  pub packet_is : e.packet < day.packets.count
  -- its epoch starts where it says, and is not silent: it carries N/D
  pub epoch : ℕ
  pub epoch_is : epoch < day.epochs.count
  pub starts : e.start ≡ day.epochs.from epoch
  pub carries : rates.epoch epoch ≡ rate e.N e.D
  -- the packet was assigned this same fraction, and its window contains the epoch
  pub assigned : rates.packet e.packet ≡ rate e.N e.D
  pub arrived : day.packets.from e.packet ≤ day.epochs.from epoch
  pub in_time : day.epochs.till epoch ≤ day.packets.till e.packet
  -- R is N/D rounded up
  pub set : e.R ≡ setting e.N e.D
  -- something is sent, and the stretch ends inside the epoch
  pub some : e.from < e.to
  pub fits : e.to ≤ units_in day epoch e.N

-- an entry ends by offset x of the epoch that starts at t, or stands in an earlier epoch
abbrev pub EndsBy : Entry → ℕ → ℕ → Type 0
EndsBy e t x = (e.start < t) ⊎ ((e.start ≡ t) × (e.to ≤ x))

-- entries in time order, none overlapping another
abbrev pub Ordered : List Entry → Type 0
Ordered [] = Unit {0}
Ordered (e ∷ entries) = Each (λ f. EndsBy e f.start f.from) entries × Ordered entries

-- the units of the entries that a test takes
unfoldable pub units_where : (Entry → Bool) → List Entry → ℕ
units_where test [] = 0
units_where test (e ∷ entries) = only_if (test e) (e.to - e.from) + units_where test entries

-- an entry of packet i
abbrev pub of_packet : ℕ → Entry → Bool
of_packet i e = eqb e.packet i

-- an entry in the epoch that starts at t
abbrev pub in_epoch : ℕ → Entry → Bool
in_epoch t e = eqb e.start t

-- the figures of an entry: past the tests of refusal 10, which keep each within its bits on the wire, and within document 01's table
pub record Figured (e : Entry) : Type 0 where
  pub packet_fits : e.packet < 2 ^ 6
  pub r_fits : e.R < 2 ^ 22
  pub to_fits : e.to < 2 ^ 39
  pub r_some : 0 < e.R
  pub d_some : 0 < e.D
  pub d_most : e.D ≤ last_second
  pub start_most : e.start < last_second
  pub some : e.from < e.to
  pub r_most : e.R ≤ most_rate
  pub n_most : e.N ≤ most_rate

-- both timetables reach the stretch's end inside its epoch, the radio timetable no later than the exact one
pub record InsideEpoch (day : Day) (e : Entry) (epoch : ℕ) : Type 0 where
  pub exact : (exact_moment e e.to).over ≤ day.epochs.weight epoch * (exact_moment e e.to).under
  pub radio : (radio_moment e e.to).over ≤ day.epochs.weight epoch * (radio_moment e e.to).under
  pub not_later : (x : ℕ) → (radio_moment e x).over * (exact_moment e x).under ≤ (exact_moment e x).over * (radio_moment e x).under

-- the entries of a day's two timetables are right
pub record Timetable (day : Day) (rates : Progress) (entries : List Entry) : Type 0 where
  pub right : Each (Right day rates) entries
  pub ordered : Ordered entries
  -- every packet is sent whole: its stretches add up to its bytes on the air times D
  pub whole : (i : ℕ) → i < day.packets.count → units_where (of_packet i) entries ≡ units_of day rates i
  -- every epoch that carries a rate is filled exactly
  pub full : (k n d : ℕ) → k < day.epochs.count → rates.epoch k ≡ rate n d → units_where (in_epoch (day.epochs.from k)) entries ≡ units_in day k n
  -- nothing is sent in a silent epoch
  pub silent : (k : ℕ) → k < day.epochs.count → rates.epoch k ≡ none → units_where (in_epoch (day.epochs.from k)) entries ≡ 0
  -- there is an entry, and there are not too many
  pub some : 0 < length entries
  pub few : length entries ≤ most_entries
