-- Wrong statements, each refuted on a list of one packet, in a day that is just long enough. Costs are bytes per second, squared, times seconds. Assumes nothing.
use Prim.Native.Nat.{ℕ, zero, suc, ◌+◌, ◌*◌, ◌<◌}
use mathlib.Core.Path.{◌≡◌, refl, ap}
use mathlib.Core.List.{List, [], ◌∷◌}
use mathlib.Core.Logic.{inl, inr}
use native.Mathlib.Omega.{arith}
use native.Mathlib.Nat.{mul-le-mul_right}
use borrow.Author.Tests.{ltb-true}
use Rattle.packets.specs.Limits.{air_bytes}
use Rattle.packets.specs.Records.{Accepted, Sound, size_of, arrival_of, deadline_of}
use Rattle.fractions.specs.Fraction.{euclid, gcd, lowest_n, lowest_d}
use Rattle.policy.specs.Windows.{Windows, assign, choose, inside, left, only_if, sum, unassigned}
use Rattle.policy.specs.Points.{epochs_of, packets_of, points_of, with_point}
use Rattle.policy.specs.Rounds.{after, at_first, beats, best_from, best_of, better, day_of, give_rate, leads, len, load, outcome_of, pick, round, round_of, taken}
use Rattle.policy.specs.Carried.{in_units, price_of, priced}
use Rattle.policy.specs.Answer.{shown_d}
use Rattle.timetable.specs.Setting.{setting}
use Rattle.timetable.specs.Costs.{common_d, cost_of, exact_cost_d, exact_cost_in, exact_cost_n, product, radio_cost}
use Rattle.optimum.specs.Rival.{Fraction, whole, plus, total, Below, Equal, Outside, Rival, slot_bytes, slot_rate, slot_cost, rival_cost}
use Rattle.optimum.specs.Optimum.{Optimum, RivalOf, bytes_of, exact_bytes, exact_cost, rival_cost_of, rounding_price}
use Rattle.optimum.proofs.Lists.{optimum}

-- ## A rival that may send one slot after its window

-- one packet of 1 byte, from 0 to 1 seconds, sent by halves in seconds 0 and 1: a rival if only the deadline were one second later ..
abbrev late : ℕ → ℕ → Fraction
late t i = record { over = 1; under = 2 }

late_is_rival : Rival 2 (packets_of 1 (1 ∷ 0 ∷ 2 ∷ [])) 1 late
unfolding packets_of air_bytes size_of arrival_of deadline_of total
late_is_rival =
    record {
      some = omega arith;
      fractions = λ t i h g. omega arith;
      windows = windows;
      sizes = sizes;
    }
  where
    windows : (t i : ℕ) → t < 2 → i < 1 → Outside (packets_of 1 (1 ∷ 0 ∷ 2 ∷ [])) 1 t i → (late t i).over ≡ 0
    windows t zero h g (inl o) = absurd (omega arith)
    windows t zero h g (inr o) = absurd (omega arith)
    windows t (suc i) h g o = absurd (omega arith)

    sizes : (i : ℕ) → i < 1 → 4 ≡ air_bytes (size_of (1 ∷ 0 ∷ 2 ∷ []) i) * 4
    sizes zero g = refl
    sizes (suc i) g = absurd (omega arith)

-- .. and it costs 1/2, less than the 1 of the exact timetable
late_costs_less : Below (rival_cost 2 (packets_of 1 (1 ∷ 0 ∷ 1 ∷ [])) 1 late) (exact_cost 1 (1 ∷ 0 ∷ 1 ∷ []))
unfolding air_bytes size_of arrival_of deadline_of euclid gcd lowest_n lowest_d assign choose inside left only_if sum unassigned epochs_of packets_of points_of with_point after at_first beats best_from best_of better day_of give_rate leads len load outcome_of pick round round_of taken in_units price_of priced shown_d common_d exact_cost_d exact_cost_in exact_cost_n product total slot_bytes slot_rate slot_cost rival_cost
late_costs_less = ltb-true _ _ refl

-- ## A cost without the square

-- a slot's rate, not squared, times its length
abbrev flat_cost : ℕ → Windows → ℕ → (ℕ → ℕ → Fraction) → Fraction
flat_cost seconds packets slots bytes =
    total (slots * seconds)
    (λ t. record { over = (slot_rate packets slots bytes t).over; under = (slot_rate packets slots bytes t).under * slots })

-- one packet of 2 bytes, from 0 to 1 seconds, all in second 0: the flat cost is 2, less than the 4 of the exact timetable
flat_costs_less : Below (flat_cost 1 (packets_of 1 (2 ∷ 0 ∷ 1 ∷ [])) 1 (λ t i. whole 2)) (exact_cost 1 (2 ∷ 0 ∷ 1 ∷ []))
unfolding air_bytes size_of arrival_of deadline_of euclid gcd lowest_n lowest_d assign choose inside left only_if sum unassigned epochs_of packets_of points_of with_point after at_first beats best_from best_of better day_of give_rate leads len load outcome_of pick round round_of taken in_units price_of priced shown_d common_d exact_cost_d exact_cost_in exact_cost_n product total slot_bytes slot_rate
flat_costs_less = ltb-true _ _ refl

-- ## Half a unit for each byte

-- one packet of 4 bytes, from 0 to 3 seconds, at 4/3 bytes per second
abbrev four : List ℕ
four = 4 ∷ 0 ∷ 3 ∷ []

-- half a unit for each byte
abbrev half : Fraction
half = record { over = rounding_price * bytes_of 1 four; under = 2 }

-- R is 2 bytes per second and the radio cost 8: above 16/3, the exact cost, and 2
half_is_too_little : Below (plus (exact_cost 1 four) half) (whole (cost_of 1 four))
unfolding air_bytes size_of arrival_of deadline_of euclid gcd lowest_n lowest_d assign choose inside left only_if sum unassigned epochs_of packets_of points_of with_point after at_first beats best_from best_of better day_of give_rate leads len load outcome_of pick round round_of taken in_units price_of priced shown_d common_d exact_cost_d exact_cost_in exact_cost_n product setting cost_of radio_cost bytes_of
half_is_too_little = ltb-true _ _ refl

four_accepted : Accepted 1 four
four_accepted = record { some = omega arith; few = omega arith; held = omega arith; sound = sound }
  where
    sound : (i : ℕ) → i < 1 → Sound (size_of four i) (arrival_of four i) (deadline_of four i)
    sound zero h =
        unfold size_of arrival_of deadline_of in
        record { some = omega arith; small = omega arith; early = omega arith; today = omega arith }
    sound (suc i) h = absurd (omega arith)

-- so not every rival is above the radio cost less half a unit for each byte: the exact timetable is one, and is not
not_half : ((slots : ℕ) (bytes : ℕ → ℕ → Fraction) → RivalOf 1 four slots bytes → Below (whole (cost_of 1 four)) (plus (rival_cost_of 1 four slots bytes) half)) → ⊥
not_half claim =
    apart (cost_of 1 four) (exact_cost 1 four) (rival_cost_of 1 four 1 (exact_bytes 1 four)) half o.exact_under half_is_too_little o.attained (claim 1 (exact_bytes 1 four) o.rival)
  where
    o : Optimum 1 four
    o = optimum 1 four four_accepted

    apart : (c : ℕ) (x y h : Fraction) → 0 < x.under → Below (plus x h) (whole c) → Equal y x → Below (whole c) (plus y h) → ⊥
    apart c x y h some a e b =
        let above : x.over * h.under + h.over * x.under < c * (x.under * h.under) = omega (arith, a) in
        let below : c * (y.under * h.under) < y.over * h.under + h.over * y.under = omega (arith, b) in
        omega (arith, mul-le-mul_right y.under above, mul-le-mul_right x.under below, ap (λ (z : ℕ). z * h.under) e, some)
