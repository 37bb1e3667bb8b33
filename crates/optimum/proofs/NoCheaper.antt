-- Rates that no rival is cheaper than, of windows with weights: no rounds and no timetable. Packets and epochs have rates in units of 1/L byte per second. If every slot
-- of a packet's window lies in an epoch of that window whose rate is not below the packet's, and if the packets' bytes times their rates come to the epochs' rates squared
-- times their seconds, then every rival costs at least that; and a rival that costs as little has the epoch's rate in every slot. The lower bound does it: a slot has the rate of the
-- epoch it lies in, and the rival's fractions are taken over one denominator. Assumes nothing.
use Prim.Native.Nat.{ℕ, ◌-◌, ◌*◌, ◌<◌, ◌≤◌}
use mathlib.Core.Path.{◌≡◌, ap}
use mathlib.Core.Logic.{◌⊎◌, inl, inr}
use native.Mathlib.Omega.{arith}
use native.Mathlib.Decide.{dec_le, dec_lt}
use native.Mathlib.Nat.{eq_of_mul-eq-mul_right, le_of_mul-le-mul_right, le_trans, mul-le-mul_right, mul-pos}
use Rattle.policy.specs.Windows.{Windows, sum}
use Rattle.optimum.specs.Rival.{Fraction, Equal, NotAbove, Rival, slot_bytes, slot_rate, rival_cost}
use Rattle.optimum.proofs.LowerBound.{lower_bound, same_rates}
use Rattle.optimum.proofs.Slots.{rate_at, rate_at_lem, slot_squares}
use Rattle.optimum.proofs.CommonUnits.{cost_in, cost_under, denominator, denominator_some, sent, sent_outside, sent_units, sent_whole, slot_bytes_in}

-- what is asked of the rates
pub record Conditions (seconds : ℕ) (packets epochs : Windows) (L : ℕ) (rate_of_packet rate_of_epoch : ℕ → ℕ) : Type 0 where
  -- epochs stand in time order and end by the last second of the day, and their weights are their seconds
  pub rising : (j k : ℕ) → j < k → k < epochs.count → epochs.till j ≤ epochs.from k
  pub lengths : (k : ℕ) → k < epochs.count → epochs.weight k ≡ epochs.till k - epochs.from k
  pub today : (k : ℕ) → k < epochs.count → epochs.till k ≤ seconds
  -- each slot of a packet's window lies in an epoch inside the window
  pub covered : (q t i : ℕ) → i < packets.count → q * packets.from i ≤ t → t < q * packets.till i
      → (k : ℕ) × (k < epochs.count) × (packets.from i ≤ epochs.from k) × (epochs.till k ≤ packets.till i)
      × (q * epochs.from k ≤ t) × (t < q * epochs.till k)
  -- an epoch inside a packet's window has a rate that is not below the packet's
  pub not_slower : (i k : ℕ) → i < packets.count → k < epochs.count → packets.from i ≤ epochs.from k → epochs.till k ≤ packets.till i
      → rate_of_packet i ≤ rate_of_epoch k
  -- bytes times rate, over packets, is rate squared times seconds, over epochs
  pub priced_alike : sum packets.count (λ i. packets.weight i * rate_of_packet i) * L ≡ sum epochs.count (λ k. epochs.weight k * (rate_of_epoch k * rate_of_epoch k))

module _ (seconds : ℕ) (packets epochs : Windows) (L : ℕ) (rate_of_packet rate_of_epoch : ℕ → ℕ)
    (c : Conditions seconds packets epochs L rate_of_packet rate_of_epoch)
  where
    -- what the rates cost, in units of 1/L squared
    abbrev pub cost : ℕ
    cost = sum epochs.count (λ k. epochs.weight k * (rate_of_epoch k * rate_of_epoch k))

    -- the same by slots
    pub by_slots : (q : ℕ) → sum (q * seconds) (λ t. rate_at epochs q rate_of_epoch t * rate_at epochs q rate_of_epoch t) ≡ q * cost
    by_slots q = slot_squares epochs q seconds rate_of_epoch c.rising c.lengths c.today

    module _ (slots : ℕ) (bytes : ℕ → ℕ → Fraction) (rival : Rival seconds packets slots bytes) where
      abbrev M : ℕ
      M = denominator seconds packets slots bytes rival

      m_some : 0 < M
      m_some = denominator_some seconds packets slots bytes rival

      abbrev y : ℕ → ℕ → ℕ
      y = sent seconds packets slots bytes rival

      -- a rival sends a packet only in slots whose rate is not below the packet's
      allowed : (t i : ℕ) → t < slots * seconds → i < packets.count → (y t i ≡ 0) ⊎ (rate_of_packet i ≤ rate_at epochs slots rate_of_epoch t)
      allowed t i h g = go (dec_le (slots * packets.from i) t) (dec_lt t (slots * packets.till i))
        where
          go : Dec (slots * packets.from i ≤ t) → Dec (t < slots * packets.till i) → (y t i ≡ 0) ⊎ (rate_of_packet i ≤ rate_at epochs slots rate_of_epoch t)
          go (yes a) (yes b) =
              let e = c.covered slots t i g a b in
              inr (le_trans (c.not_slower i e.0 g e.1 e.2 e.3) (rate_at_lem epochs slots rate_of_epoch t e.0 e.1 e.4 e.5))
          go (yes a) (no b) = inl (sent_outside seconds packets slots bytes rival t i h g (inr (omega (arith, b))))
          go (no a) b = inl (sent_outside seconds packets slots bytes rival t i h g (inl (omega (arith, a))))

      -- the rival's cost over M squared
      cost_is : (rival_cost seconds packets slots bytes).over * (M * M)
          ≡ slots * sum (slots * seconds) (λ t. sum packets.count (y t) * sum packets.count (y t)) * (rival_cost seconds packets slots bytes).under
      cost_is = cost_in seconds packets slots bytes M y (sent_units seconds packets slots bytes rival)

      -- no rival costs less
      pub no_cheaper : NotAbove (record { over = cost; under = L * L }) (rival_cost seconds packets slots bytes)
      no_cheaper =
          le_of_mul-le-mul_right {k = M * M}
          (omega (
            arith,
            mul-le-mul_right (rival_cost seconds packets slots bytes).under
                (lower_bound (slots * seconds) slots packets.count packets.weight rate_of_packet (rate_at epochs slots rate_of_epoch) y L M cost
                rival.some (by_slots slots) c.priced_alike (sent_whole seconds packets slots bytes rival) allowed),
            ap (λ (x : ℕ). x * (L * L)) cost_is,
          ))
          (mul-pos m_some m_some)

      -- one that costs as little has the same rate in every slot
      pub same_slot_rates : Equal (rival_cost seconds packets slots bytes) (record { over = cost; under = L * L })
          → (t : ℕ) → t < slots * seconds → Equal (slot_rate packets slots bytes t) (record { over = rate_at epochs slots rate_of_epoch t; under = L })
      unfolding slot_rate
      same_slot_rates e t h =
          eq_of_mul-eq-mul_right M m_some _ _
          (omega (
            arith,
            ap (λ (x : ℕ). x * (slots * L)) (slot_bytes_in seconds packets slots bytes M y (sent_units seconds packets slots bytes rival) t h),
            ap (λ (x : ℕ). x * (slot_bytes packets bytes t).under)
                (same_rates (slots * seconds) slots packets.count packets.weight rate_of_packet (rate_at epochs slots rate_of_epoch) y L M cost
                rival.some (by_slots slots) c.priced_alike (sent_whole seconds packets slots bytes rival) allowed same t h),
          ))
        where
          same : slots * sum (slots * seconds) (λ t. sum packets.count (y t) * sum packets.count (y t)) * (L * L) ≡ cost * (M * M)
          same =
              eq_of_mul-eq-mul_right (rival_cost seconds packets slots bytes).under (cost_under seconds packets slots bytes rival.some rival.fractions) _ _
              (omega (arith, ap (λ (x : ℕ). x * (L * L)) cost_is, ap (λ (x : ℕ). x * (M * M)) e))
