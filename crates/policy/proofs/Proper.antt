-- What the rounds ask of a day: weights above zero, epochs that no arrival and no deadline divides, an epoch in every packet's
-- window, and totals within the figures. Every accepted list has such a day. Assumes nothing.
use Prim.Native.Nat.{ℕ, ◌<◌, ◌≤◌}
use mathlib.Core.Logic.{◌⊎◌}
use Rattle.packets.specs.Limits.{last_second}
use Rattle.fractions.specs.Fraction.{Lowest}
use Rattle.policy.specs.Figures.{most_bytes}
use Rattle.policy.specs.Windows.{sum}
use Rattle.policy.specs.Rounds.{Day}

pub record Proper (day : Day) : Type 0 where
  pub some_bytes : (i : ℕ) → i < day.packets.count → 0 < day.packets.weight i
  pub epoch : (k : ℕ) → k < day.epochs.count → day.epochs.from k < day.epochs.till k
  -- no arrival lies inside an epoch
  pub arrivals : (i k : ℕ) → i < day.packets.count → k < day.epochs.count
      → (day.packets.from i ≤ day.epochs.from k) ⊎ (day.epochs.till k ≤ day.packets.from i)
  -- no deadline lies inside an epoch
  pub deadlines : (i k : ℕ) → i < day.packets.count → k < day.epochs.count
      → (day.packets.till i ≤ day.epochs.from k) ⊎ (day.epochs.till k ≤ day.packets.till i)
  -- an epoch of each packet's window
  pub own : (i : ℕ) → i < day.packets.count → ℕ
  pub own_is : (i : ℕ) (h : i < day.packets.count) → own i h < day.epochs.count
  pub own_from : (i : ℕ) (h : i < day.packets.count) → day.packets.from i ≤ day.epochs.from (own i h)
  pub own_till : (i : ℕ) (h : i < day.packets.count) → day.epochs.till (own i h) ≤ day.packets.till i
  pub own_some : (i : ℕ) (h : i < day.packets.count) → 0 < day.epochs.weight (own i h)
  pub bytes : sum day.packets.count day.packets.weight ≤ most_bytes
  pub seconds : sum day.epochs.count day.epochs.weight ≤ last_second

-- a rate in lowest terms and within the figures of document 01
pub record RateInRange (n d : ℕ) : Type 0 where
  pub lowest : Lowest n d
  pub n_some : 0 < n
  pub n_most : n ≤ most_bytes
  pub d_some : 0 < d
  pub d_most : d ≤ last_second
