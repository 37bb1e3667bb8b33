-- A rival over a common denominator M: `y t i` of packet i in slot t, in units of 1/M byte. Each packet's units add up to its size times M, and the rival's
-- cost is the slots in a second times the sum of the squares of what each slot sends, over M squared. The product of all denominators is such an M. Assumes nothing.
use Prim.Native.Nat.{ℕ, ◌*◌, ◌/◌, ◌<◌, ◌∣◌}
use mathlib.Core.Path.{◌≡◌, ap, ◌∙◌}
use native.Mathlib.Omega.{arith}
use native.Mathlib.Nat.{dvd_trans, eq_of_mul-eq-mul_right, mul-div_cancel', mul-pos}
use Rattle.policy.specs.Windows.{Windows, sum}
use Rattle.policy.proofs.Sums.{sum_scale}
use Rattle.timetable.specs.Costs.{product}
use Rattle.timetable.proofs.Costs.{product_of}
use Rattle.optimum.specs.Rival.{Fraction, total, Outside, Rival, slot_bytes, slot_rate, slot_cost, rival_cost}
use Rattle.optimum.proofs.Totals.{total_in, total_under, product_some}

module _ (seconds : ℕ) (packets : Windows) (slots : ℕ) (bytes : ℕ → ℕ → Fraction) (M : ℕ) (y : ℕ → ℕ → ℕ)
    (units : (t i : ℕ) → t < slots * seconds → i < packets.count → (bytes t i).over * M ≡ y t i * (bytes t i).under)
  where
    -- the bytes of a slot
    pub slot_bytes_in : (t : ℕ) → t < slots * seconds
        → (slot_bytes packets bytes t).over * M ≡ sum packets.count (y t) * (slot_bytes packets bytes t).under
    unfolding slot_bytes
    slot_bytes_in t h = total_in M packets.count (bytes t) (y t) (λ i g. units t i h g)

    slot_in : (t : ℕ) → t < slots * seconds
        → (slot_cost packets slots bytes t).over * (M * M) ≡ sum packets.count (y t) * sum packets.count (y t) * slots * (slot_cost packets slots bytes t).under
    unfolding slot_cost slot_rate
    slot_in t h = square (slot_bytes packets bytes t).over (slot_bytes packets bytes t).under (sum packets.count (y t)) (slot_bytes_in t h)
      where
        square : (a b s : ℕ) → a * M ≡ s * b → a * slots * (a * slots) * (M * M) ≡ s * s * slots * (b * b * slots)
        square a b s e = omega (arith, ap (λ (x : ℕ). slots * slots * (a * M) * x) e, ap (λ (x : ℕ). slots * slots * x * (s * b)) e)

    -- the cost
    pub cost_in : (rival_cost seconds packets slots bytes).over * (M * M)
        ≡ slots * sum (slots * seconds) (λ t. sum packets.count (y t) * sum packets.count (y t)) * (rival_cost seconds packets slots bytes).under
    unfolding rival_cost
    cost_in =
        total_in (M * M) (slots * seconds) (slot_cost packets slots bytes) (λ t. sum packets.count (y t) * sum packets.count (y t) * slots) slot_in ∙
        ap (λ (x : ℕ). x * (total (slots * seconds) (slot_cost packets slots bytes)).under)
        (sum_scale (slots * seconds) (λ t. sum packets.count (y t) * sum packets.count (y t)) slots ∙ (omega arith))

-- the cost has a denominator above zero
pub cost_under : (seconds : ℕ) (packets : Windows) (slots : ℕ) (bytes : ℕ → ℕ → Fraction) → 0 < slots
    → ((t i : ℕ) → t < slots * seconds → i < packets.count → 0 < (bytes t i).under) → 0 < (rival_cost seconds packets slots bytes).under
unfolding rival_cost slot_cost slot_rate slot_bytes
cost_under seconds packets slots bytes some h =
    total_under (slots * seconds) (slot_cost packets slots bytes)
    (λ t g.
    let b = total_under packets.count (bytes t) (λ i k. h t i g k) in
    mul-pos (mul-pos b b) some)

module _ (seconds : ℕ) (packets : Windows) (slots : ℕ) (bytes : ℕ → ℕ → Fraction) (rival : Rival seconds packets slots bytes) where
  -- the product of all denominators
  pub denominator : ℕ
  denominator = product (slots * seconds) (λ t. product packets.count (λ i. (bytes t i).under))

  pub denominator_some : 0 < denominator
  unfolding denominator
  denominator_some =
      product_some (slots * seconds) (λ t. product packets.count (λ i. (bytes t i).under))
      (λ t h. product_some packets.count (λ i. (bytes t i).under) (λ i g. rival.fractions t i h g))

  divides : (t i : ℕ) → t < slots * seconds → i < packets.count → (bytes t i).under ∣ denominator
  unfolding denominator
  divides t i h g =
      dvd_trans (bytes t i).under (product_of packets.count (λ i. (bytes t i).under) i g)
      (product_of (slots * seconds) (λ t. product packets.count (λ i. (bytes t i).under)) t h)

  -- what slot t sends of packet i, in units of 1/denominator byte
  pub sent : ℕ → ℕ → ℕ
  sent t i = (bytes t i).over * (denominator / (bytes t i).under)

  pub sent_units : (t i : ℕ) → t < slots * seconds → i < packets.count → (bytes t i).over * denominator ≡ sent t i * (bytes t i).under
  unfolding sent
  sent_units t i h g = omega (arith, ap (λ (x : ℕ). (bytes t i).over * x) (mul-div_cancel' (bytes t i).under (divides t i h g)))

  -- nothing outside the window
  pub sent_outside : (t i : ℕ) → t < slots * seconds → i < packets.count → Outside packets slots t i → sent t i ≡ 0
  unfolding sent
  sent_outside t i h g o = omega (arith, ap (λ (x : ℕ). x * (denominator / (bytes t i).under)) (rival.windows t i h g o))

  -- all of each packet
  pub sent_whole : (i : ℕ) → i < packets.count → sum (slots * seconds) (λ t. sent t i) ≡ packets.weight i * denominator
  sent_whole i g =
      eq_of_mul-eq-mul_right (total (slots * seconds) (λ t. bytes t i)).under
      (total_under (slots * seconds) (λ t. bytes t i) (λ t h. rival.fractions t i h g)) _ _
      (omega (
        arith,
        total_in denominator (slots * seconds) (λ t. bytes t i) (λ t. sent t i) (λ t h. sent_units t i h g),
        ap (λ (x : ℕ). x * denominator) (rival.sizes i g),
      ))
