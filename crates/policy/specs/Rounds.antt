-- The rounds of Densest Interval First (document 01, "Epochs and rates"). Loads are bytes, lengths seconds, rates bytes per second.
-- Assumes nothing.
use Rattle.std.specs.Prelude.{ℕ, zero, suc, ◌*◌, Bool, true, ◌&&◌, ◌||◌, List, eqb, ltb}
use Rattle.fractions.specs.Fraction.{lowest_n, lowest_d}
use Rattle.policy.specs.Windows.{Windows, Given, none, left, assign, choose}
use Rattle.policy.specs.Points.{points_of, packets_of, epochs_of}

-- what the rounds work on: the packets and the epochs
pub record Day : Type 0 where
  pub packets : Windows
  pub epochs : Windows

-- how far the rounds have come: what each packet and each epoch was given, and the number of rounds
pub record Progress : Type 0 where
  pub packet : ℕ → Given
  pub epoch : ℕ → Given
  pub rounds : ℕ

-- at first no packet and no epoch is assigned
unfoldable pub at_first : Progress
at_first = record { packet = λ i. none; epoch = λ k. none; rounds = 0 }

-- the load of [s, e): the bytes of the unassigned packets whose window lies inside it
unfoldable pub load : Day → Progress → ℕ → ℕ → ℕ
load day done s e = left day.packets done.packet s e

-- the length of [s, e): the seconds of its unassigned epochs
unfoldable pub len : Day → Progress → ℕ → ℕ → ℕ
len day done s e = left day.epochs done.epoch s e

-- load over length from start to end comes before load' over length' from start' to end': the denser first, compared exactly; between equals the
-- earlier start, then the later end
abbrev pub ahead : ℕ → ℕ → ℕ → ℕ → ℕ → ℕ → ℕ → ℕ → Bool
ahead load length start end load' length' start' end' =
    ltb (load' * length) (load * length') ||
    (eqb (load' * length) (load * length') && (ltb start start' || (eqb start start' && ltb end' end)))

-- [s, e) comes before [s', e')
unfoldable pub beats : Day → Progress → ℕ → ℕ → ℕ → ℕ → Bool
beats day done s e s' e' =
    ahead (load day done s e) (len day done s e) s e (load day done s' e') (len day done s' e') s' e'

-- an interval, or none
pub data Interval : Type 0 where
  nowhere : Interval
  between : ℕ → ℕ → Interval

-- whether [s, e) is to be taken rather than the best so far
unfoldable pub leads : Day → Progress → ℕ → ℕ → Interval → Bool
leads day done s e nowhere = true
leads day done s e (between s' e') = beats day done s e s' e'

-- the better of the best so far and [s, e), which counts only where it holds an unassigned packet, and so a byte of load
unfoldable pub better : Day → Progress → Interval → ℕ → ℕ → Interval
better day done best s e = choose (ltb 0 (load day done s e) && leads day done s e best) (between s e) best

-- the best of what is given and the intervals from s to the deadlines of the first n packets
unfoldable pub best_from : Day → Progress → Interval → ℕ → ℕ → Interval
best_from day done best s zero = best
best_from day done best s (suc n) = better day done (best_from day done best s n) s (day.packets.till n)

-- the best of the intervals from the arrivals of the first n packets to any deadline
unfoldable pub best_of : Day → Progress → ℕ → Interval
best_of day done zero = nowhere
best_of day done (suc n) = best_from day done (best_of day done n) (day.packets.from n) day.packets.count

-- the interval that a round takes
unfoldable pub pick : Day → Progress → Interval
pick day done = best_of day done day.packets.count

-- one round more: [s, e)'s unassigned packets and epochs are given N/D
unfoldable pub give_rate : Day → Progress → ℕ → ℕ → ℕ → ℕ → Progress
give_rate day done s e n d =
    record {
      packet = assign day.packets s e n d done.packet;
      epoch = assign day.epochs s e n d done.epoch;
      rounds = suc done.rounds;
    }

-- [s, e) is taken: what it holds is given its load over its length in lowest terms
unfoldable pub taken : Day → Progress → ℕ → ℕ → Progress
taken day done s e =
    give_rate day done s e
    (lowest_n (load day done s e) (len day done s e))
    (lowest_d (load day done s e) (len day done s e))

-- the round that takes an interval; with none to take, nothing changes
unfoldable pub round_of : Day → Progress → Interval → Progress
round_of day done nowhere = done
round_of day done (between s e) = taken day done s e

-- a round
unfoldable pub round : Day → Progress → Progress
round day done = round_of day done (pick day done)

-- what k rounds come to; when no packet is unassigned no round is left
unfoldable pub after : Day → ℕ → Progress
after day zero = at_first
after day (suc k) = round day (after day k)

-- the day of a list
unfoldable pub day_of : ℕ → List ℕ → Day
day_of count records = record { packets = packets_of count records; epochs = epochs_of (points_of count records) }

-- the rates and the number of rounds of a list: each round assigns a packet, so as many rounds as packets are enough
unfoldable pub outcome_of : ℕ → List ℕ → Progress
outcome_of count records = after (day_of count records) count
