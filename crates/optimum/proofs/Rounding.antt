-- The price of rounding rates up. A packet's R times D is less than N and the price of the rounding times D; so over all packets, bytes times R come to less than bytes times
-- rate, which is the exact cost, and the price for each byte. No rival is below the exact cost. The bound is strict because each packet's is, and every list has a byte.
-- Assumes nothing.
use Prim.Native.Nat.{ℕ, ◌+◌, ◌*◌, ◌/◌, ◌<◌, ◌≤◌, ◌∣◌}
use mathlib.Core.Path.{◌≡◌, sym, ap, subst}
use native.Mathlib.Omega.{arith}
use native.Mathlib.Nat.{dvd-mul_left, pos_of_dvd_of_pos, le_trans, lt_of_mul-lt-mul_right, mul-div_cancel', mul-le-mul_left, mul-le-mul_right, mul-pos}
use Rattle.policy.specs.Windows.{Given, rate, sum}
use Rattle.policy.specs.Rounds.{Day, Progress}
use Rattle.policy.specs.Carried.{in_units, price_of, priced}
use Rattle.policy.proofs.Sums.{sum_add, sum_at, sum_le, sum_scale}
use Rattle.policy.proofs.Facts.{assigned}
use Rattle.timetable.specs.Setting.{setting}
use Rattle.timetable.specs.Costs.{exact_cost_d, exact_cost_n, radio_cost}
use Rattle.timetable.proofs.NeverLate.{Rated}
use Rattle.timetable.proofs.Settings.{setting_close}
use Rattle.optimum.specs.Rival.{Fraction, whole, plus, NotAbove, Below}
use Rattle.optimum.specs.Optimum.{rounding_price}
use Rattle.optimum.proofs.Rates.{L, l_some, by_packets, packet_common, rate_of_packet}

-- a setting is less than the price above the rate
setting_priced : (n d : ℕ) → 0 < d → setting n d * d < n + rounding_price * d
setting_priced n d h = omega (arith, setting_close n d h)

-- .. and so over a common denominator
priced_in : (L n d : ℕ) → 0 < d → 0 < L → d ∣ L → setting n d * L < in_units L n d + rounding_price * L
unfolding in_units
priced_in L n d h some m =
    omega (
      arith,
      pos_of_dvd_of_pos (dvd-mul_left (L / d) d) (subst (λ (x : ℕ). 0 < x) (sym (mul-div_cancel' d m)) some),
      mul-le-mul_right (L / d) (setting_priced n d h),
      ap (λ (x : ℕ). setting n d * x) (mul-div_cancel' d m),
      mul-div_cancel' d m,
    )

-- x less than e/l and more, e/l not above y: x is less than y and more
less_than_more : (x e l p : ℕ) (y : Fraction) → 0 < y.under → x * l < e + p * l → NotAbove (record { over = e; under = l }) y → Below (whole x) (plus y (whole p))
less_than_more x e l p y some h k =
    lt_of_mul-lt-mul_right l
    (omega (arith, mul-le-mul_right y.under h, k, some))

module _ (day : Day) (rates : Progress) (r : Rated day rates) (some : 0 < day.packets.count) where
  abbrev bytes : ℕ
  bytes = sum day.packets.count day.packets.weight

  bytes_some : 0 < bytes
  bytes_some = le_trans (r.proper.some_bytes 0 some) (sum_at day.packets.count day.packets.weight 0 some)

  one : (i : ℕ) → i < day.packets.count
      → day.packets.weight i * price_of setting (rates.packet i) * L day rates r + day.packets.weight i
      ≤ day.packets.weight i * rate_of_packet day rates r i + day.packets.weight i * (rounding_price * L day rates r)
  one i h = go (assigned (rates.packet i) (r.finished i h))
    where
      go : (n : ℕ) × ((d : ℕ) × (rates.packet i ≡ rate n d))
          → day.packets.weight i * price_of setting (rates.packet i) * L day rates r + day.packets.weight i
          ≤ day.packets.weight i * rate_of_packet day rates r i + day.packets.weight i * (rounding_price * L day rates r)
      go (n, (d, p)) =
          subst
          (λ (x : Given). day.packets.weight i * price_of setting x * L day rates r + day.packets.weight i
          ≤ day.packets.weight i * price_of (in_units (L day rates r)) x + day.packets.weight i * (rounding_price * L day rates r))
          (sym p)
          (unfold price_of in
          omega (
            arith,
            mul-le-mul_left (day.packets.weight i)
                (priced_in (L day rates r) n d (r.facts.packet_rate i n d h p).d_some (l_some day rates r) (packet_common day rates r i n d h p)),
          ))

  -- the radio cost is less than the exact cost and the price for each byte
  pub radio_close : radio_cost day rates * exact_cost_d day rates < exact_cost_n day rates + rounding_price * bytes * exact_cost_d day rates
  unfolding radio_cost priced exact_cost_d
  radio_close =
      omega (
        arith,
        mul-pos bytes_some (l_some day rates r),
        by_packets day rates r,
        mul-le-mul_right (L day rates r) all,
      )
    where
      all : sum day.packets.count (λ i. day.packets.weight i * price_of setting (rates.packet i)) * L day rates r + bytes
          ≤ sum day.packets.count (λ i. day.packets.weight i * rate_of_packet day rates r i) + bytes * (rounding_price * L day rates r)
      all =
          omega (
            arith,
            sum_le day.packets.count
                (λ i. day.packets.weight i * price_of setting (rates.packet i) * L day rates r + day.packets.weight i)
                (λ i. day.packets.weight i * rate_of_packet day rates r i + day.packets.weight i * (rounding_price * L day rates r)) one,
            sum_add day.packets.count (λ i. day.packets.weight i * price_of setting (rates.packet i) * L day rates r) day.packets.weight,
            sum_add day.packets.count (λ i. day.packets.weight i * rate_of_packet day rates r i) (λ i. day.packets.weight i * (rounding_price * L day rates r)),
            sum_scale day.packets.count (λ i. day.packets.weight i * price_of setting (rates.packet i)) (L day rates r),
            sum_scale day.packets.count day.packets.weight (rounding_price * L day rates r),
          )

  -- .. and so less than what is not below the exact cost, and the price for each byte
  pub radio_below : (y : Fraction) → 0 < y.under → NotAbove (record { over = exact_cost_n day rates; under = exact_cost_d day rates }) y
      → Below (whole (radio_cost day rates)) (plus y (whole (rounding_price * bytes)))
  radio_below y under h = less_than_more (radio_cost day rates) (exact_cost_n day rates) (exact_cost_d day rates) (rounding_price * bytes) y under radio_close h
