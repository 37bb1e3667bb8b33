-- Rivals (document 01, "The two timetables"): any other way of sending the packets, and what it costs. Every second is cut into the same whole number of equal
-- slots; slot t is the time from t to t + 1 slots after the day's beginning. Times are seconds, sizes bytes, rates bytes per second; a cost is bytes per second,
-- squared, times seconds. Assumes nothing.
use Rattle.std.specs.Prelude.{ℕ, zero, suc, ◌+◌, ◌*◌, ◌<◌, ◌≤◌, ◌≡◌, ◌⊎◌}
use Rattle.policy.specs.Windows.{Windows}

-- ## Fractions

-- a fraction: one whole number over another
pub record Fraction : Type 0 where
  pub over : ℕ
  pub under : ℕ

-- a whole number as a fraction
abbrev pub whole : ℕ → Fraction
whole n = record { over = n; under = 1 }

-- the sum of two
abbrev pub plus : Fraction → Fraction → Fraction
plus x y = record { over = x.over * y.under + y.over * x.under; under = x.under * y.under }

-- f 0 + f 1 + .. + f (n - 1)
unfoldable pub total : ℕ → (ℕ → Fraction) → Fraction
total zero f = whole 0
total (suc n) f = plus (total n f) (f n)

-- comparisons are exact, by cross multiplication: the two are equal ..
abbrev pub Equal : Fraction → Fraction → Type 0
Equal x y = x.over * y.under ≡ y.over * x.under

-- .. the first is at most the second
abbrev pub NotAbove : Fraction → Fraction → Type 0
NotAbove x y = x.over * y.under ≤ y.over * x.under

-- .. the first is below the second
abbrev pub Below : Fraction → Fraction → Type 0
Below x y = x.over * y.under < y.over * x.under

-- ## Rivals

-- slot t lies outside the window of packet i: it ends by the arrival or begins from the deadline on, since both are whole seconds
abbrev pub Outside : Windows → ℕ → ℕ → ℕ → Type 0
Outside packets slots t i = (t < slots * packets.from i) ⊎ (slots * packets.till i ≤ t)

-- a rival in a day of so many seconds: so many slots in each second, and `bytes t i` from packet i in slot t
pub record Rival (seconds : ℕ) (packets : Windows) (slots : ℕ) (bytes : ℕ → ℕ → Fraction) : Type 0 where
  -- one slot or more in each second
  pub some : 0 < slots
  -- each slot gets from each packet a fraction of 0 or more, with a denominator of its own
  pub fractions : (t i : ℕ) → t < slots * seconds → i < packets.count → 0 < (bytes t i).under
  -- nothing outside that packet's window
  pub windows : (t i : ℕ) → t < slots * seconds → i < packets.count → Outside packets slots t i → (bytes t i).over ≡ 0
  -- the fractions of each packet add up to its size
  pub sizes : (i : ℕ) → i < packets.count → Equal (total (slots * seconds) (λ t. bytes t i)) (whole (packets.weight i))

-- the bytes of slot t
unfoldable pub slot_bytes : Windows → (ℕ → ℕ → Fraction) → ℕ → Fraction
slot_bytes packets bytes t = total packets.count (bytes t)

-- its rate: its bytes over its length, which is one second over the slots in a second
unfoldable pub slot_rate : Windows → ℕ → (ℕ → ℕ → Fraction) → ℕ → Fraction
slot_rate packets slots bytes t =
    record { over = (slot_bytes packets bytes t).over * slots; under = (slot_bytes packets bytes t).under }

-- its cost: its rate squared times its length
unfoldable pub slot_cost : Windows → ℕ → (ℕ → ℕ → Fraction) → ℕ → Fraction
slot_cost packets slots bytes t =
    record {
      over = (slot_rate packets slots bytes t).over * (slot_rate packets slots bytes t).over;
      under = (slot_rate packets slots bytes t).under * (slot_rate packets slots bytes t).under * slots;
    }

-- the cost of a rival: that of all its slots
unfoldable pub rival_cost : ℕ → Windows → ℕ → (ℕ → ℕ → Fraction) → Fraction
rival_cost seconds packets slots bytes = total (slots * seconds) (slot_cost packets slots bytes)
