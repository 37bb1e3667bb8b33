-- What a finished run of rounds leaves, over the common denominator L of the epochs' rates, meets the conditions under which no rival costs less. Every packet's rate has
-- an epoch that carries it, so L serves the packets too. Assumes nothing.
use Prim.Native.Nat.{ℕ, ◌*◌, ◌<◌, ◌≤◌, ◌∣◌}
use mathlib.Core.Path.{◌≡◌, refl, sym, ap, subst, subst₂, ◌∙◌}
use mathlib.Core.Bool.{Bool, true}
use mathlib.Core.Logic.{◌⊎◌, inl, inr}
use native.Mathlib.Omega.{arith}
use native.Mathlib.Nat.{dvd-mul_left, pos_of_dvd_of_pos, le_trans, le_of_mul-le-mul_right, mul-div_cancel', mul-le-mul_left, mul-le-mul_right, mul-pos}
use Rattle.policy.specs.Windows.{Given, none, rate, only_if, sum}
use Rattle.policy.specs.Rounds.{Day, Progress}
use Rattle.policy.specs.Carried.{carries, carried_in_all, in_units, price_of, priced}
use Rattle.policy.specs.Answer.{shown_d}
use Rattle.policy.proofs.Sums.{sum_at, sum_eq, sum_some}
use Rattle.policy.proofs.Left.{only_if_some}
use Rattle.policy.proofs.Carry.{carries_is, is_carries}
use Rattle.policy.proofs.Facts.{AtLeast, assigned}
use Rattle.timetable.specs.Costs.{common_d, exact_cost_d, exact_cost_in, exact_cost_n}
use Rattle.timetable.proofs.NeverLate.{Rated}
use Rattle.timetable.proofs.Costs.{common}
use Rattle.optimum.specs.Rival.{Fraction, Equal, NotAbove, Rival, slot_rate, rival_cost}
use Rattle.optimum.proofs.Totals.{product_some}
use Rattle.optimum.proofs.Slots.{rate_at}
use Rattle.optimum.proofs.NoCheaper.{Conditions, by_slots, no_cheaper, same_slot_rates}

-- the epochs end by the last second of the day, and each slot of a packet's window lies in one of them
pub record Cut (seconds : ℕ) (day : Day) : Type 0 where
  pub today : (k : ℕ) → k < day.epochs.count → day.epochs.till k ≤ seconds
  pub covered : (q t i : ℕ) → i < day.packets.count → q * day.packets.from i ≤ t → t < q * day.packets.till i
      → (k : ℕ) × (k < day.epochs.count) × (q * day.epochs.from k ≤ t) × (t < q * day.epochs.till k)

module _ (day : Day) (rates : Progress) (r : Rated day rates) where
  -- the common denominator of the epochs' rates
  abbrev pub L : ℕ
  L = common_d day rates

  pub l_some : 0 < L
  unfolding common_d
  l_some = product_some day.epochs.count (λ k. shown_d (rates.epoch k)) (λ k h. go k h (rates.epoch k) refl)
    where
      go : (k : ℕ) → k < day.epochs.count → (x : Given) → rates.epoch k ≡ x → 0 < shown_d x
      go k h none p = unfold shown_d in omega arith
      go k h (rate n d) p = unfold shown_d in (r.facts.epoch_rate k n d h p).d_some

  -- some epoch carries a packet's rate
  carrier : (i n d : ℕ) → i < day.packets.count → rates.packet i ≡ rate n d → (k : ℕ) × (k < day.epochs.count) × (rates.epoch k ≡ rate n d)
  carrier i n d h p = go (sum_some day.epochs.count (λ k. only_if (carries (rates.epoch k) n d) (day.epochs.weight k)) seconds)
    where
      bytes : 0 < carried_in_all day.packets rates.packet n d
      bytes =
          unfold carried_in_all in
          le_trans (term (is_carries (rates.packet i) n d p))
          (sum_at day.packets.count (λ i. only_if (carries (rates.packet i) n d) (day.packets.weight i)) i h)
        where
          term : {b : Bool} → b ≡ true → 0 < only_if b (day.packets.weight i)
          term e = rw e (unfold only_if in r.proper.some_bytes i h)

      seconds : 0 < sum day.epochs.count (λ k. only_if (carries (rates.epoch k) n d) (day.epochs.weight k))
      seconds =
          unfold carried_in_all in
          pos_of_dvd_of_pos (dvd-mul_left _ n)
          (subst (λ (x : ℕ). 0 < x) (r.facts.filled_in_all n d) (mul-pos bytes (r.facts.packet_rate i n d h p).d_some))

      go : (k : ℕ) × (k < day.epochs.count) × (0 < only_if (carries (rates.epoch k) n d) (day.epochs.weight k))
          → (k : ℕ) × (k < day.epochs.count) × (rates.epoch k ≡ rate n d)
      go (k, g, o) = (k, g, carries_is (rates.epoch k) n d (only_if_some _ _ o).0)

  -- L is a multiple of the D of each packet
  pub packet_common : (i n d : ℕ) → i < day.packets.count → rates.packet i ≡ rate n d → d ∣ L
  packet_common i n d h p = let c = carrier i n d h p in common day rates c.0 n d c.1 c.2

  -- the rates of packets and epochs, in units of 1/L byte per second
  abbrev pub rate_of_packet : ℕ → ℕ
  rate_of_packet i = price_of (in_units L) (rates.packet i)

  abbrev pub rate_of_epoch : ℕ → ℕ
  rate_of_epoch k = price_of (in_units L) (rates.epoch k)

  -- the exact cost by packets
  pub by_packets : sum day.packets.count (λ i. day.packets.weight i * rate_of_packet i) * L ≡ exact_cost_n day rates
  unfolding exact_cost_n exact_cost_in priced
  by_packets = r.facts.priced_alike L (in_units L) packet_common

  -- the exact cost by epochs
  by_epochs : sum day.epochs.count (λ k. day.epochs.weight k * (rate_of_epoch k * rate_of_epoch k)) ≡ exact_cost_n day rates
  unfolding exact_cost_n exact_cost_in priced
  by_epochs =
      sum_eq day.epochs.count (λ k. day.epochs.weight k * (rate_of_epoch k * rate_of_epoch k))
      (λ k. day.epochs.weight k * price_of (λ n d. in_units L n d * in_units L n d) (rates.epoch k))
      (λ k h. ap (λ (x : ℕ). day.epochs.weight k * x) (square (rates.epoch k)))
    where
      square : (x : Given) → price_of (in_units L) x * price_of (in_units L) x ≡ price_of (λ n d. in_units L n d * in_units L n d) x
      square none = unfold price_of in omega arith
      square (rate n d) = unfold price_of in refl

  -- not-slower over the common denominator
  not_slower : (i k : ℕ) → i < day.packets.count → k < day.epochs.count → day.packets.from i ≤ day.epochs.from k → day.epochs.till k ≤ day.packets.till i
      → rate_of_packet i ≤ rate_of_epoch k
  not_slower i k h g a b = go (assigned (rates.packet i) (r.finished i h))
    where
      go : (n : ℕ) × ((d : ℕ) × (rates.packet i ≡ rate n d)) → rate_of_packet i ≤ rate_of_epoch k
      go (n, (d, p)) = with_rate (r.facts.not_slower i k n d h g p a b)
        where
          with_rate : AtLeast (rates.epoch k) n d → rate_of_packet i ≤ rate_of_epoch k
          with_rate s =
              subst₂ (λ (x y : Given). price_of (in_units L) x ≤ price_of (in_units L) y) (sym p) (sym s.given)
              (unfold price_of in_units in
              le_of_mul-le-mul_right {k = d * s.rate_d}
              (omega (
                arith,
                ap (λ (x : ℕ). n * s.rate_d * x) (mul-div_cancel' d (packet_common i n d h p)),
                ap (λ (x : ℕ). s.rate_n * d * x) (mul-div_cancel' s.rate_d (common day rates k s.rate_n s.rate_d g s.given)),
                mul-le-mul_right L s.not_below,
              ))
              (mul-pos (r.facts.packet_rate i n d h p).d_some (r.facts.epoch_rate k s.rate_n s.rate_d g s.given).d_some))

  module _ (seconds : ℕ) (cut : Cut seconds day) where
    conditions : Conditions seconds day.packets day.epochs L rate_of_packet rate_of_epoch
    conditions =
        record {
          rising = r.rising;
          lengths = r.seconds;
          today = cut.today;
          covered = λ q t i h a b. inside q t i h (cut.covered q t i h a b) a b;
          not_slower = not_slower;
          priced_alike = by_packets ∙ sym by_epochs;
        }
      where
        -- an epoch that has a slot of the window lies inside it, since no arrival and no deadline divides it
        inside : (q t i : ℕ) → i < day.packets.count
            → (k : ℕ) × (k < day.epochs.count) × (q * day.epochs.from k ≤ t) × (t < q * day.epochs.till k)
            → q * day.packets.from i ≤ t → t < q * day.packets.till i
            → (k : ℕ) × (k < day.epochs.count) × (day.packets.from i ≤ day.epochs.from k) × (day.epochs.till k ≤ day.packets.till i)
            × (q * day.epochs.from k ≤ t) × (t < q * day.epochs.till k)
        inside q t i h (k, g, x, y) a b = (k, g, arrived (r.proper.arrivals i k h g), in_time (r.proper.deadlines i k h g), x, y)
          where
            arrived : (day.packets.from i ≤ day.epochs.from k) ⊎ (day.epochs.till k ≤ day.packets.from i) → day.packets.from i ≤ day.epochs.from k
            arrived (inl z) = z
            arrived (inr z) = absurd (omega (arith, mul-le-mul_left q z))

            in_time : (day.packets.till i ≤ day.epochs.from k) ⊎ (day.epochs.till k ≤ day.packets.till i) → day.epochs.till k ≤ day.packets.till i
            in_time (inl z) = absurd (omega (arith, mul-le-mul_left q z))
            in_time (inr z) = z

    -- the exact cost by slots
    pub exact_by_slots : (q : ℕ)
        → sum (q * seconds) (λ t. rate_at day.epochs q rate_of_epoch t * rate_at day.epochs q rate_of_epoch t) ≡ q * exact_cost_n day rates
    exact_by_slots q =
        by_slots seconds day.packets day.epochs L rate_of_packet rate_of_epoch conditions q ∙ ap (λ (x : ℕ). q * x) by_epochs

    -- no rival costs less
    pub no_rival_below : (slots : ℕ) (bytes : ℕ → ℕ → Fraction) → Rival seconds day.packets slots bytes
        → NotAbove (record { over = exact_cost_n day rates; under = exact_cost_d day rates }) (rival_cost seconds day.packets slots bytes)
    unfolding exact_cost_d
    no_rival_below slots bytes rival =
        subst (λ (x : ℕ). NotAbove (record { over = x; under = L * L }) (rival_cost seconds day.packets slots bytes)) by_epochs
        (no_cheaper seconds day.packets day.epochs L rate_of_packet rate_of_epoch conditions slots bytes rival)

    -- one that costs as little has the rate of the epoch in every slot
    pub same_rival_rates : (slots : ℕ) (bytes : ℕ → ℕ → Fraction) → Rival seconds day.packets slots bytes
        → Equal (rival_cost seconds day.packets slots bytes) (record { over = exact_cost_n day rates; under = exact_cost_d day rates })
        → (t : ℕ) → t < slots * seconds
        → Equal (slot_rate day.packets slots bytes t) (record { over = rate_at day.epochs slots rate_of_epoch t; under = L })
    unfolding exact_cost_d
    same_rival_rates slots bytes rival e =
        same_slot_rates seconds day.packets day.epochs L rate_of_packet rate_of_epoch conditions slots bytes rival
        (subst (λ (x : ℕ). Equal (rival_cost seconds day.packets slots bytes) (record { over = x; under = L * L })) (sym by_epochs) e)
