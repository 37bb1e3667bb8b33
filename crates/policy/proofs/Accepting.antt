-- Every accepted list has a proper day. Its epochs lie between neighbouring points, so no arrival and no deadline divides one, and their seconds add up
-- to the last point less the first. Assumes nothing.
use Prim.Native.Nat.{ℕ, zero, suc, pred, ◌+◌, ◌-◌, ◌<◌, ◌≤◌}
use mathlib.Core.Path.{◌≡◌, refl}
use mathlib.Core.List.{List}
use mathlib.Core.Logic.{◌⊎◌, inl, inr}
use native.Mathlib.Omega.{arith}
use native.Mathlib.Decide.{dec_le}
use lib.ListN.{length, get_or}
use Rattle.packets.specs.Limits.{air_bytes, largest_size, last_second}
use Rattle.packets.specs.Records.{size_of, arrival_of, deadline_of, Accepted}
use Rattle.policy.specs.Figures.{largest_air}
use Rattle.policy.specs.Windows.{sum}
use Rattle.policy.specs.Points.{points_of, packets_of, epochs_of}
use Rattle.policy.specs.Rounds.{day_of}
use Rattle.policy.proofs.Sums.{sum_most}
use Rattle.policy.proofs.Proper.{Proper}
use Rattle.policy.proofs.EventPoints.{Rising, Has, Event, points_rising, points_arrival, points_deadline, points_only, rising_at, rising_le}

-- ## Bytes

pub air_some : (listed : ℕ) → 0 < listed → 0 < air_bytes listed
unfolding air_bytes
air_some listed h = h

pub air_most : (listed : ℕ) → listed ≤ largest_size → air_bytes listed ≤ largest_air
unfolding air_bytes
air_most listed h = h

-- ## Seconds

-- the epochs from the first point to point n add up to what lies between
between_points : (points : List ℕ) → Rising points → (n : ℕ) → n < length points
    → sum n (λ k. get_or points (suc k) 0 - get_or points k 0) + get_or points 0 0 ≡ get_or points n 0
unfolding sum
between_points points r zero h = omega arith
between_points points r (suc n) h =
    omega (arith, between_points points r n (omega arith), rising_at points r n (suc n) (omega arith) h)

module _ (points : List ℕ) (rising : Rising points) (t : ℕ) (has : Has t points) where
  -- a point does not divide an epoch
  pub undivided : (k : ℕ) → k < pred (length points) → (t ≤ get_or points k 0) ⊎ (get_or points (suc k) 0 ≤ t)
  undivided k h = go (dec_le has.0 k)
    where
      go : Dec (has.0 ≤ k) → (t ≤ get_or points k 0) ⊎ (get_or points (suc k) 0 ≤ t)
      go (yes p) = inl (omega (arith, rising_le points rising has.0 k p (omega arith), has.2))
      go (no p) = inr (omega (arith, rising_le points rising (suc k) has.0 (omega (arith, p)) has.1, has.2))

module _ (count : ℕ) (records : List ℕ) (accepted : Accepted count records) where
  abbrev points : List ℕ
  points = points_of count records

  abbrev rising : Rising points
  rising = points_rising count records

  -- no point after the last second
  pub points_today : (k : ℕ) → k < length points → get_or points k 0 ≤ last_second
  points_today k h = go (points_only count records (get_or points k 0) (k, h, refl))
    where
      go : Event count records (get_or points k 0) → get_or points k 0 ≤ last_second
      go (i, p, inl e) = omega (arith, e, (accepted.sound i p).early, (accepted.sound i p).today)
      go (i, p, inr e) = omega (arith, e, (accepted.sound i p).today)

  -- the place of a packet's arrival is before that of its deadline
  pub earlier : (i : ℕ) (h : i < count) → (points_arrival count records i h).0 < (points_deadline count records i h).0
  earlier i h = go (dec_le (points_deadline count records i h).0 (points_arrival count records i h).0)
    where
      go : Dec ((points_deadline count records i h).0 ≤ (points_arrival count records i h).0)
          → (points_arrival count records i h).0 < (points_deadline count records i h).0
      go (yes p) =
          absurd (omega (
            arith,
            rising_le points rising (points_deadline count records i h).0 (points_arrival count records i h).0 p (points_arrival count records i h).1,
            (points_arrival count records i h).2,
            (points_deadline count records i h).2,
            (accepted.sound i h).early,
          ))
      go (no p) = omega (arith, p)

  -- an epoch has a point at its end
  next_point : (k : ℕ) → k < pred (length points) → suc k < length points
  next_point k h = omega arith

  own_epoch : (i : ℕ) (h : i < count) → (points_arrival count records i h).0 < pred (length points)
  own_epoch i h = omega (arith, earlier i h, (points_deadline count records i h).1)

  pub proper : Proper (day_of count records)
  unfolding day_of packets_of epochs_of
  proper =
      record {
        some_bytes = λ i h. air_some (size_of records i) (accepted.sound i h).some;
        epoch = λ k h. rising_at points rising k (suc k) (omega arith) (next_point k h);
        arrivals = λ i k h g. undivided points rising (arrival_of records i) (points_arrival count records i h) k g;
        deadlines = λ i k h g. undivided points rising (deadline_of records i) (points_deadline count records i h) k g;
        own = λ i h. (points_arrival count records i h).0;
        own_is = own_epoch;
        own_from = λ i h. omega (arith, (points_arrival count records i h).2);
        own_till = λ i h.
            omega (
              arith,
              (points_deadline count records i h).2,
              rising_le points rising (suc (points_arrival count records i h).0) (points_deadline count records i h).0 (earlier i h) (points_deadline count records i h).1,
            );
        own_some = λ i h.
            omega (
              arith,
              rising_at points rising (points_arrival count records i h).0 (suc (points_arrival count records i h).0) (omega arith)
                  (omega (arith, earlier i h, (points_deadline count records i h).1)),
            );
        bytes =
            omega (
              arith,
              accepted.few,
              sum_most count largest_air (λ i. air_bytes (size_of records i)) (λ i h. air_most (size_of records i) (accepted.sound i h).small),
            );
        seconds =
            omega (
              arith,
              (points_arrival count records 0 accepted.some).1,
              between_points points rising (pred (length points)) (omega (arith, (points_arrival count records 0 accepted.some).1)),
              points_today (pred (length points)) (omega (arith, (points_arrival count records 0 accepted.some).1)),
            );
      }
