-- The lower bound, of numbers alone: it knows of no round, no timetable and no epoch.
-- There are S slots, q of them in a second. Slot t has the rate `rate t`, packet i the weight `w i` and the rate `p i`, in units of 1/L byte per second. They cost
-- the same either way: the sum of the slots' rates squared times 1/q second, and the sum of the packets' weights times their rates, are both E, in units of 1/L
-- squared. Another way of sending has `y t i` of packet i in slot t, in units of 1/M byte: all of each packet, and only in slots whose rate is at least
-- the packet's. Then it costs at least E. For each slot twice the product of a = q L Y, with Y all that it sends, and b = M rate is at most the two squares. Added up over
-- slots, the products are at least 2 q M² E, since every byte is sent at a rate that is not below its packet's, and the second squares are q M² E. So the first squares, the
-- other way's cost times q L² M², are not below q M² E. As much only if a = b in every slot.
-- That is a bound and not yet a least cost: some way of sending must attain it.
-- What document 02 needs beyond it: (vi) for a walk that is proved by not-slower and priced-alike of its own rates, `same_rates` with a rival that attains both bounds; (vii) that every
-- rival sends the load of a round's interval inside it, so that some slot there is not below the round's rate, and that the exact timetable stays within its highest rate;
-- (xi) a tangent of the table in place of the square, and priced-alike with the table's rise as the price; (xiii) `same_rates`, with the exact timetable as the rival that
-- attains the bound.
-- Assumes nothing.
use Prim.Native.Nat.{ℕ, ◌+◌, ◌*◌, ◌<◌, ◌≤◌}
use mathlib.Core.Path.{◌≡◌, ap, ◌∙◌}
use mathlib.Core.Logic.{◌⊎◌, inl, inr}
use native.Mathlib.Omega.{arith}
use native.Mathlib.Nat.{le_of_mul-le-mul_left, mul-le-mul_left, mul-le-mul_right}
use Rattle.policy.specs.Windows.{sum}
use Rattle.policy.proofs.Sums.{sum_eq, sum_le, sum_add, sum_scale}
use Rattle.timetable.proofs.NeverLate.{sum_tight}
use Rattle.optimum.proofs.Sums.{sum_exchange}
use Rattle.optimum.proofs.Squares.{twice_product, same_squares}

module _ (S q n : ℕ) (w p rate : ℕ → ℕ) (y : ℕ → ℕ → ℕ) (L M E : ℕ)
    (q_some : 0 < q)
    (by_slots : sum S (λ t. rate t * rate t) ≡ q * E)
    (by_packets : sum n (λ i. w i * p i) * L ≡ E)
    (whole : (i : ℕ) → i < n → sum S (λ t. y t i) ≡ w i * M)
    (allowed : (t i : ℕ) → t < S → i < n → (y t i ≡ 0) ⊎ (p i ≤ rate t))
  where
    -- all that slot t sends
    abbrev sends : ℕ → ℕ
    sends t = sum n (y t)

    -- a slot sends at a rate that is not below the packet's
    slower : (t i : ℕ) → (y t i ≡ 0) ⊎ (p i ≤ rate t) → y t i * p i ≤ y t i * rate t
    slower t i (inl z) = omega (arith, ap (λ (x : ℕ). x * p i) z)
    slower t i (inr h) = mul-le-mul_left (y t i) h

    -- every byte at its packet's rate comes to no more than every byte at its slot's
    at_rates : sum n (λ i. w i * p i) * M ≤ sum S (λ t. sends t * rate t)
    at_rates =
        omega (
          arith,
          sum_scale n (λ i. w i * p i) M,
          sum_eq n (λ i. w i * p i * M) (λ i. sum S (λ t. y t i * p i))
              (λ i h. omega (arith, sum_scale S (λ t. y t i) (p i), ap (λ (x : ℕ). x * p i) (whole i h))),
          sum_exchange S n (λ t i. y t i * p i),
          sum_le S (λ t. sum n (λ i. y t i * p i)) (λ t. sends t * rate t)
              (λ t h.
              omega (
                arith,
                sum_le n (λ i. y t i * p i) (λ i. y t i * rate t) (λ i g. slower t i (allowed t i h g)),
                sum_scale n (y t) (rate t),
              )),
        )

    abbrev a : ℕ → ℕ
    a t = q * L * sends t

    abbrev b : ℕ → ℕ
    b t = M * rate t

    products : sum S (λ t. 2 * (a t * b t)) ≡ sum S (λ t. sends t * rate t) * (2 * q * L * M)
    products =
        sum_eq S (λ t. 2 * (a t * b t)) (λ t. sends t * rate t * (2 * q * L * M)) (λ t h. omega arith) ∙
        sum_scale S (λ t. sends t * rate t) (2 * q * L * M)

    squares : sum S (λ t. a t * a t + b t * b t) ≡ sum S (λ t. sends t * sends t) * (q * L * (q * L)) + q * E * (M * M)
    squares =
        omega (
          arith,
          sum_add S (λ t. a t * a t) (λ t. b t * b t),
          sum_eq S (λ t. a t * a t) (λ t. sends t * sends t * (q * L * (q * L))) (λ t h. omega arith),
          sum_scale S (λ t. sends t * sends t) (q * L * (q * L)),
          sum_eq S (λ t. b t * b t) (λ t. rate t * rate t * (M * M)) (λ t h. omega arith),
          sum_scale S (λ t. rate t * rate t) (M * M),
          ap (λ (x : ℕ). x * (M * M)) by_slots,
        )

    -- the products come to twice the cost E, or more
    products_some : 2 * q * (M * M) * E ≤ sum S (λ t. 2 * (a t * b t))
    products_some =
        omega (
          arith,
          products,
          mul-le-mul_right (2 * q * L * M) at_rates,
          ap (λ (x : ℕ). 2 * q * (M * M) * x) by_packets,
        )

    -- no other way of sending costs less
    pub lower_bound : E * (M * M) ≤ q * sum S (λ t. sends t * sends t) * (L * L)
    lower_bound =
        le_of_mul-le-mul_left {k = q}
        (omega (arith, products_some, squares, sum_le S (λ t. 2 * (a t * b t)) (λ t. a t * a t + b t * b t) (λ t h. twice_product (a t) (b t))))
        q_some

    -- one that costs as little has the same rate in every slot
    pub same_rates : q * sum S (λ t. sends t * sends t) * (L * L) ≡ E * (M * M) → (t : ℕ) → t < S → q * L * sends t ≡ M * rate t
    same_rates e t h =
        same_squares (a t) (b t)
        (sum_tight S (λ t. 2 * (a t * b t)) (λ t. a t * a t + b t * b t) (λ t g. twice_product (a t) (b t))
        (omega (arith, products_some, squares, ap (λ (x : ℕ). q * x) e)) t h)
