-- Every accepted list: its epochs lie between neighbouring points, so each slot of a packet's window lies in one of them. Assumes nothing.
use Prim.Native.Nat.{ℕ, zero, suc, pred, ◌+◌, ◌-◌, ◌*◌, ◌<◌, ◌≤◌}
use mathlib.Core.Path.{◌≡◌, ap}
use mathlib.Core.List.{List}
use native.Mathlib.Omega.{arith}
use native.Mathlib.Decide.{dec_lt}
use native.Mathlib.Nat.{mul-le-mul_right, mul-pos}
use lib.ListN.{length, get_or}
use Rattle.packets.specs.Limits.{last_second}
use Rattle.packets.specs.Records.{Accepted, arrival_of, deadline_of}
use Rattle.policy.specs.Points.{points_of, packets_of, epochs_of}
use Rattle.policy.specs.Rounds.{day_of, outcome_of}
use Rattle.policy.proofs.EventPoints.{points_arrival, points_deadline}
use Rattle.policy.proofs.Accepting.{earlier, points_today}
use Rattle.timetable.specs.Entries.{Entry, entries_of, radio_moment}
use Rattle.timetable.specs.Right.{Right, Timetable}
use Rattle.timetable.specs.Costs.{cost_of, exact_cost_d}
use Rattle.timetable.proofs.NeverLate.{Rated}
use Rattle.timetable.proofs.Entered.{each_map}
use Rattle.timetable.proofs.Lists.{inside_epoch, rated, timetable}
use Rattle.optimum.specs.Rival.{Fraction, whole, plus, Below, NotAbove}
use Rattle.optimum.specs.Optimum.{InWindow, Optimum, RivalOf, all_units, bytes_of, exact_cost, rival_cost_of, rounding_price}
use Rattle.optimum.proofs.Rates.{Cut, l_some, no_rival_below}
use Rattle.optimum.proofs.Rounding.{radio_below}
use Rattle.optimum.proofs.CommonUnits.{cost_under}
use Rattle.optimum.proofs.ExactRival.{bytes_sent, bytes_under, costs_exactly, denominators, is_rival}

-- between a place that is not after x and one that is, some neighbours have x between them
between : (g : ℕ → ℕ) (x a m : ℕ) → g a ≤ x → x < g (a + m) → (k : ℕ) × (k < a + m) × (g k ≤ x) × (x < g (suc k))
between g x a zero p q = absurd (omega (arith, q, ap g same))
  where
    same : a + 0 ≡ a
    same = omega arith
between g x a (suc m) p q = go (dec_lt x (g (a + m))) (between g x a m p)
  where
    last : a + suc m ≡ suc (a + m)
    last = omega arith

    go : Dec (x < g (a + m)) → (x < g (a + m) → (k : ℕ) × (k < a + m) × (g k ≤ x) × (x < g (suc k)))
        → (k : ℕ) × (k < a + suc m) × (g k ≤ x) × (x < g (suc k))
    go (yes l) rest = let s = rest l in (s.0, omega (arith, s.1), s.2, s.3)
    go (no l) rest = (a + m, omega arith, omega (arith, l), omega (arith, q, ap g last))

module _ (count : ℕ) (records : List ℕ) (accepted : Accepted count records) where
  abbrev points : List ℕ
  points = points_of count records

  pub cut : Cut last_second (day_of count records)
  unfolding day_of packets_of epochs_of
  cut =
      record {
        today = today;
        covered = covered;
      }
    where
      today : (k : ℕ) → k < pred (length points) → get_or points (suc k) 0 ≤ last_second
      today k h = points_today count records accepted (suc k) (omega arith)

      covered : (q t i : ℕ) → i < count → q * arrival_of records i ≤ t → t < q * deadline_of records i
          → (k : ℕ) × (k < pred (length points)) × (q * get_or points k 0 ≤ t) × (t < q * get_or points (suc k) 0)
      covered q t i h a b = go (between (λ k. q * get_or points k 0) t from.0 (till.0 - from.0) starts ends)
        where
          from : (k : ℕ) × (k < length points) × (get_or points k 0 ≡ arrival_of records i)
          from = points_arrival count records i h

          till : (k : ℕ) × (k < length points) × (get_or points k 0 ≡ deadline_of records i)
          till = points_deadline count records i h

          reaches : from.0 + (till.0 - from.0) ≡ till.0
          reaches = omega (arith, earlier count records accepted i h)

          starts : q * get_or points from.0 0 ≤ t
          starts = omega (arith, a, ap (λ (x : ℕ). q * x) from.2)

          ends : t < q * get_or points (from.0 + (till.0 - from.0)) 0
          ends = omega (arith, b, ap (λ (x : ℕ). q * x) till.2, ap (λ (x : ℕ). q * get_or points x 0) reaches)

          go : (k : ℕ) × (k < from.0 + (till.0 - from.0)) × (q * get_or points k 0 ≤ t) × (t < q * get_or points (suc k) 0)
              → (k : ℕ) × (k < pred (length points)) × (q * get_or points k 0 ≤ t) × (t < q * get_or points (suc k) 0)
          go (k, g, x, y) = (k, omega (arith, g, reaches, till.1), x, y)

  is_rated : Rated (day_of count records) (outcome_of count records)
  is_rated = rated count records accepted

  entries : Timetable (day_of count records) (outcome_of count records) (entries_of count records)
  entries = timetable count records accepted

  -- no rival costs less than the exact timetable
  pub cheapest : (slots : ℕ) (bytes : ℕ → ℕ → Fraction) → RivalOf count records slots bytes
      → NotAbove (exact_cost count records) (rival_cost_of count records slots bytes)
  unfolding day_of
  cheapest = no_rival_below (day_of count records) (outcome_of count records) is_rated last_second cut

  -- the radio timetable costs less than any rival and the price of the rounding for each byte
  pub rounded : (slots : ℕ) (bytes : ℕ → ℕ → Fraction) → RivalOf count records slots bytes
      → Below (whole (cost_of count records)) (plus (rival_cost_of count records slots bytes) (whole (rounding_price * bytes_of count records)))
  unfolding cost_of bytes_of day_of packets_of
  rounded slots bytes rival =
      radio_below (day_of count records) (outcome_of count records) is_rated accepted.some
      (rival_cost_of count records slots bytes)
      (cost_under last_second (packets_of count records) slots bytes rival.some rival.fractions)
      (cheapest slots bytes rival)

  -- the radio timetable sends each entry by its epoch's end, which is not after the packet's deadline
  in_window : (e : Entry) → Right (day_of count records) (outcome_of count records) e → InWindow count records e
  in_window e g =
      record {
        packet_is = packet_is;
        arrived = arrived;
        in_time =
            omega (
              arith,
              (inside_epoch count records accepted e g).radio,
              mul-le-mul_right (radio_moment e e.to).under ends,
            );
      }
    where
      packet_is : e.packet < count
      packet_is = unfold day_of packets_of in g.packet_is

      arrived : arrival_of records e.packet ≤ e.start
      arrived = omega (arith, arrives, g.starts)
        where
          arrives : arrival_of records e.packet ≤ (day_of count records).epochs.from g.epoch
          arrives = unfold day_of packets_of in g.arrived

      ends : e.start + (day_of count records).epochs.weight g.epoch ≤ deadline_of records e.packet
      ends = omega (arith, due, g.starts, is_rated.seconds g.epoch g.epoch_is, is_rated.proper.epoch g.epoch g.epoch_is)
        where
          due : (day_of count records).epochs.till g.epoch ≤ deadline_of records e.packet
          due = unfold day_of packets_of in g.in_time

  pub optimum : Optimum count records
  unfolding day_of packets_of exact_cost_d
  optimum =
      record {
        cheapest = cheapest;
        rival = is_rival (day_of count records) (outcome_of count records) is_rated (entries_of count records) entries last_second cut;
        attained = costs_exactly (day_of count records) (outcome_of count records) is_rated (entries_of count records) entries last_second cut;
        rounded = rounded;
        sent = bytes_sent (day_of count records) (outcome_of count records) is_rated (entries_of count records) entries;
        windows = each_map in_window (entries_of count records) entries.right;
        exact_under = mul-pos (l_some (day_of count records) (outcome_of count records) is_rated) (l_some (day_of count records) (outcome_of count records) is_rated);
        rival_under = λ slots bytes rival. cost_under last_second (packets_of count records) slots bytes rival.some rival.fractions;
        sent_under = λ i h. bytes_under all_units (entries_of count records) i (denominators (day_of count records) (outcome_of count records) is_rated (entries_of count records) entries);
      }
