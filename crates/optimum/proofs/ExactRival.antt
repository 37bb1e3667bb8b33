-- The exact timetable is a rival with one slot a second, and costs as a rival what it costs. Over the common denominator L its bytes are whole numbers. An entry sends
-- nothing outside its epoch, so nothing outside its packet's window, and all of itself in the seconds of the day, so all of its packet. In no second do the entries
-- send more than the epoch's rate, so as a rival it does not cost more than the exact cost; and no rival costs less. Assumes nothing.
use Prim.Native.Nat.{ℕ, zero, suc, ◌+◌, ◌-◌, ◌*◌, ◌/◌, ◌<◌, ◌≤◌, ◌∣◌}
use mathlib.Core.Path.{◌≡◌, refl, sym, ap, subst, ◌∙◌}
use mathlib.Core.Bool.{Bool, true, false}
use mathlib.Core.List.{List, [], ◌∷◌}
use mathlib.Core.Logic.{inl, inr}
use native.Mathlib.Omega.{arith}
use native.Mathlib.Decide.{ℕ_discrete}
use native.Mathlib.Nat.{eq_of_mul-eq-mul_right, le_antisymm, le_trans, mul-div_cancel', mul-le-mul, mul-le-mul_right, mul-pos}
use lib.Dec.{eqb}
use borrow.Author.Tests.{eq-eqb, eqb-true, ne_eqb}
use Rattle.policy.specs.Windows.{Given, rate, only_if, choose, sum}
use Rattle.policy.specs.Rounds.{Day, Progress}
use Rattle.policy.specs.Carried.{in_units, price_of}
use Rattle.policy.specs.Answer.{shown_d}
use Rattle.policy.proofs.Sums.{sum_le, sum_none, sum_scale}
use Rattle.policy.proofs.Facts.{assigned}
use Rattle.timetable.specs.Entries.{Entry, units_of}
use Rattle.timetable.specs.Right.{Each, Right, Timetable, of_packet, units_where}
use Rattle.timetable.specs.Costs.{exact_cost_d, exact_cost_n}
use Rattle.timetable.proofs.NeverLate.{Rated}
use Rattle.timetable.proofs.Entered.{each_map}
use Rattle.timetable.proofs.Costs.{common}
use Rattle.optimum.specs.Rival.{Fraction, whole, plus, total, Equal, Outside, Rival, rival_cost}
use Rattle.optimum.specs.Optimum.{all_units, bytes_in, units_at}
use Rattle.optimum.proofs.Totals.{total_in}
use Rattle.optimum.proofs.Slots.{rate_at, rate_at_lem}
use Rattle.optimum.proofs.CommonUnits.{cost_in}
use Rattle.optimum.proofs.Rates.{Cut, L, l_some, rate_of_epoch, exact_by_slots, no_rival_below, packet_common}
use Rattle.optimum.proofs.Stretches.{after_none, all_seconds, before_none, over, over_eq, over_le, over_sum, second_bound}

-- ## Bytes of entries over a common denominator

-- the part of packet i in an entry, in units of 1/L byte, where `units e` of it are sent
abbrev part : ℕ → (Entry → ℕ) → ℕ → Entry → ℕ
part L units i e = only_if (eqb e.packet i) (units e * (L / e.D))

-- the bytes of packet i
bytes_in_lem : (L : ℕ) (units : Entry → ℕ) (entries : List Entry) (i : ℕ) → Each (λ e. e.D ∣ L) entries
    → (bytes_in units entries i).over * L ≡ over (part L units i) entries * (bytes_in units entries i).under
unfolding bytes_in over
bytes_in_lem L units [] i h = omega arith
bytes_in_lem L units (e ∷ entries) i h = go (eqb e.packet i) (bytes_in_lem L units entries i h.1)
  where
    old : Fraction
    old = bytes_in units entries i

    go : (b : Bool) → old.over * L ≡ over (part L units i) entries * old.under
        → (plus (choose b (record { over = units e; under = e.D }) (whole 0)) old).over * L
        ≡ (only_if b (units e * (L / e.D)) + over (part L units i) entries) * (plus (choose b (record { over = units e; under = e.D }) (whole 0)) old).under
    go true k =
        unfold choose only_if in
        omega (
          arith,
          ap (λ (x : ℕ). x * e.D) k,
          ap (λ (x : ℕ). units e * old.under * x) (mul-div_cancel' e.D h.0),
        )
    go false k = unfold choose only_if in omega (arith, k)

-- .. have a denominator above zero
pub bytes_under : (units : Entry → ℕ) (entries : List Entry) (i : ℕ) → Each (λ e. 0 < e.D) entries → 0 < (bytes_in units entries i).under
unfolding bytes_in
bytes_under units [] i h = omega arith
bytes_under units (e ∷ entries) i h = mul-pos (go (eqb e.packet i)) (bytes_under units entries i h.1)
  where
    go : (b : Bool) → 0 < (choose b (record { over = units e; under = e.D }) (whole 0)).under
    go true = unfold choose in h.0
    go false = unfold choose in omega arith

-- .. and are none where no entry of the packet sends anything
bytes_none : (units : Entry → ℕ) (entries : List Entry) (i : ℕ) → Each (λ e. eqb e.packet i ≡ true → units e ≡ 0) entries → (bytes_in units entries i).over ≡ 0
unfolding bytes_in
bytes_none units [] i h = refl
bytes_none units (e ∷ entries) i h =
    omega (
      arith,
      ap (λ (x : ℕ). x * (bytes_in units entries i).under) (go (eqb e.packet i) h.0),
      ap (λ (x : ℕ). x * (choose (eqb e.packet i) (record { over = units e; under = e.D }) (whole 0)).under) (bytes_none units entries i h.1),
    )
  where
    go : (b : Bool) → (b ≡ true → units e ≡ 0) → (choose b (record { over = units e; under = e.D }) (whole 0)).over ≡ 0
    go true k = unfold choose in k refl
    go false k = unfold choose in refl

-- an entry is of one packet only
one_packet : (n p x : ℕ) → sum n (λ i. only_if (eqb p i) x) ≤ x
unfolding sum
one_packet zero p x = omega arith
one_packet (suc n) p x = go (ℕ_discrete p n) (one_packet n p x)
  where
    go : Dec (p ≡ n) → sum n (λ i. only_if (eqb p i) x) ≤ x → sum n (λ i. only_if (eqb p i) x) + only_if (eqb p n) x ≤ x
    go (yes e) old =
        rw (eq-eqb p n e)
        (unfold only_if in
        omega (
          arith,
          sum_none n (λ i. only_if (eqb p i) x) (λ i h. other i h),
        ))
      where
        other : (i : ℕ) → i < n → only_if (eqb p i) x ≡ 0
        other i h = rw (ne_eqb p i (λ (q : p ≡ i). omega arith)) (unfold only_if in refl)
    go (no e) old = rw (ne_eqb p n e) (unfold only_if in omega arith)

-- ## The timetable

module _ (day : Day) (rates : Progress) (r : Rated day rates) (entries : List Entry) (timetable : Timetable day rates entries) where
  abbrev l : ℕ
  l = L day rates r

  multiples : Each (λ e. e.D ∣ l) entries
  multiples = each_map (λ e g. common day rates g.epoch e.N e.D g.epoch_is g.carries) entries timetable.right

  pub denominators : Each (λ e. 0 < e.D) entries
  denominators = each_map (λ e g. (r.facts.epoch_rate g.epoch e.N e.D g.epoch_is g.carries).d_some) entries timetable.right

  -- the entries of a packet send all of it
  all_sent : (i : ℕ) → i < day.packets.count → over (part l all_units i) entries ≡ day.packets.weight i * l
  unfolding over units_where
  all_sent i h = go (assigned (rates.packet i) (r.finished i h))
    where
      go : (n : ℕ) × ((d : ℕ) × (rates.packet i ≡ rate n d)) → over (part l all_units i) entries ≡ day.packets.weight i * l
      go (n, (d, p)) =
          omega (
            arith,
            in_units_lem entries timetable.right,
            ap (λ (x : ℕ). x * (l / d)) (timetable.whole i h ∙ units_are),
            ap (λ (x : ℕ). day.packets.weight i * x) (mul-div_cancel' d (packet_common day rates r i n d h p)),
          )
        where
          units_are : units_of day rates i ≡ day.packets.weight i * d
          units_are = unfold units_of in ap (λ (x : Given). day.packets.weight i * shown_d x) p ∙ (unfold shown_d in refl)

          one : (e : Entry) → Right day rates e → (b : Bool) → eqb e.packet i ≡ b
              → only_if b ((e.to - e.from) * (l / e.D)) ≡ only_if b (e.to - e.from) * (l / d)
          one e g true t =
              unfold only_if in
              ap (λ (x : ℕ). (e.to - e.from) * (l / x)) same_d
            where
              same : rate e.N e.D ≡ rate n d
              same = sym g.assigned ∙ ap rates.packet (eqb-true e.packet i t) ∙ p

              same_d : e.D ≡ d
              same_d = cc same
          one e g false t = unfold only_if in omega arith

          in_units_lem : (es : List Entry) → Each (Right day rates) es → over (part l all_units i) es ≡ units_where (of_packet i) es * (l / d)
          in_units_lem [] g = omega arith
          in_units_lem (e ∷ es) g = omega (arith, in_units_lem es g.1, one e g.0 (eqb e.packet i) refl)

  -- the bytes of its entries are the bytes of the packet
  pub bytes_sent : (i : ℕ) → i < day.packets.count → Equal (bytes_in all_units entries i) (whole (day.packets.weight i))
  bytes_sent i h =
      eq_of_mul-eq-mul_right l (l_some day rates r) _ _
      (omega (
        arith,
        bytes_in_lem l all_units entries i multiples,
        ap (λ (x : ℕ). x * (bytes_in all_units entries i).under) (all_sent i h),
      ))

  module _ (seconds : ℕ) (cut : Cut seconds day) where
    abbrev bytes : ℕ → ℕ → Fraction
    bytes j i = bytes_in (units_at j) entries i

    nothing_outside : (j i : ℕ) → Outside day.packets 1 j i → (bytes j i).over ≡ 0
    nothing_outside j i o = bytes_none (units_at j) entries i (each_map (λ e g t. one e g t o) entries timetable.right)
      where
        one : (e : Entry) → Right day rates e → eqb e.packet i ≡ true → Outside day.packets 1 j i → units_at j e ≡ 0
        one e g t (inl x) =
            before_none j e (omega (arith, x, g.arrived, g.starts, ap day.packets.from (eqb-true e.packet i t)))
        one e g t (inr x) = after_none day rates r e g j (omega (arith, x, g.in_time, ap day.packets.till (eqb-true e.packet i t)))

    -- in all seconds, all of the packet
    whole_day : (i : ℕ) → i < day.packets.count → sum (1 * seconds) (λ t. over (part l (units_at t) i) entries) ≡ day.packets.weight i * l
    whole_day i h =
        over_sum (1 * seconds) (λ t. part l (units_at t) i) entries ∙
        over_eq (λ e. sum (1 * seconds) (λ t. part l (units_at t) i e)) (part l all_units i) entries
        (each_map (λ e g. one e g (eqb e.packet i)) entries timetable.right) ∙
        all_sent i h
      where
        one : (e : Entry) → Right day rates e → (b : Bool)
            → sum (1 * seconds) (λ t. only_if b (units_at t e * (l / e.D))) ≡ only_if b ((e.to - e.from) * (l / e.D))
        one e g true =
            unfold only_if in
            sum_scale (1 * seconds) (λ t. units_at t e) (l / e.D) ∙
            ap (λ (x : ℕ). x * (l / e.D)) (all_seconds day rates r e g (1 * seconds) (omega (arith, cut.today g.epoch g.epoch_is)))
        one e g false = unfold only_if in sum_none (1 * seconds) (λ t. 0) (λ t k. refl)

    -- it is a rival
    pub is_rival : Rival seconds day.packets 1 bytes
    is_rival =
        record {
          some = omega arith;
          fractions = λ t i h g. bytes_under (units_at t) entries i denominators;
          windows = λ t i h g o. nothing_outside t i o;
          sizes = sizes;
        }
      where
        sizes : (i : ℕ) → i < day.packets.count → Equal (total (1 * seconds) (λ t. bytes t i)) (whole (day.packets.weight i))
        sizes i h =
            eq_of_mul-eq-mul_right l (l_some day rates r) _ _
            (omega (
              arith,
              total_in l (1 * seconds) (λ t. bytes t i) (λ t. over (part l (units_at t) i) entries) (λ t g. bytes_in_lem l (units_at t) entries i multiples),
              ap (λ (x : ℕ). x * (total (1 * seconds) (λ t. bytes t i)).under) (whole_day i h),
            ))

    -- in a second it sends no more than the rate of the epoch
    second_most : (t : ℕ) → sum day.packets.count (λ i. over (part l (units_at t) i) entries) ≤ rate_at day.epochs 1 (rate_of_epoch day rates r) t
    second_most t =
        le_trans
        (subst (λ (x : ℕ). x ≤ over (λ e. units_at t e * (l / e.D)) entries) (sym (over_sum day.packets.count (λ i. part l (units_at t) i) entries))
        (over_le (λ e. sum day.packets.count (λ i. part l (units_at t) i e)) (λ e. units_at t e * (l / e.D)) entries
        (each_map (λ e g. one_packet day.packets.count e.packet (units_at t e * (l / e.D))) entries timetable.right)))
        (second_bound day rates r l t (rate_at day.epochs 1 (rate_of_epoch day rates r) t) entries timetable.right timetable.ordered most)
      where
        most : (k n d : ℕ) → k < day.epochs.count → rates.epoch k ≡ rate n d → day.epochs.from k ≤ t → t < day.epochs.till k
            → n * (l / d) ≤ rate_at day.epochs 1 (rate_of_epoch day rates r) t
        most k n d h p a b =
            subst (λ (x : ℕ). x ≤ rate_at day.epochs 1 (rate_of_epoch day rates r) t) rate_is
            (rate_at_lem day.epochs 1 (rate_of_epoch day rates r) t k h (omega arith) (omega arith))
          where
            rate_is : rate_of_epoch day rates r k ≡ n * (l / d)
            rate_is = ap (price_of (in_units l)) p ∙ (unfold price_of in_units in refl)

    -- as a rival it costs the exact cost
    pub costs_exactly : Equal (rival_cost seconds day.packets 1 bytes) (record { over = exact_cost_n day rates; under = exact_cost_d day rates })
    unfolding exact_cost_d
    costs_exactly =
        le_antisymm
        (omega (
          arith,
          cost_in seconds day.packets 1 bytes l (λ t i. over (part l (units_at t) i) entries) (λ t i h g. bytes_in_lem l (units_at t) entries i multiples),
          mul-le-mul_right (rival_cost seconds day.packets 1 bytes).under squares,
          ap (λ (x : ℕ). x * (rival_cost seconds day.packets 1 bytes).under) (exact_by_slots day rates r seconds cut 1),
        ))
        (no_rival_below day rates r seconds cut 1 bytes is_rival)
      where
        sends : ℕ → ℕ
        sends t = sum day.packets.count (λ i. over (part l (units_at t) i) entries)

        squares : sum (1 * seconds) (λ t. sends t * sends t)
            ≤ sum (1 * seconds) (λ t. rate_at day.epochs 1 (rate_of_epoch day rates r) t * rate_at day.epochs 1 (rate_of_epoch day rates r) t)
        squares = sum_le (1 * seconds) _ _ (λ t h. mul-le-mul (second_most t) (second_most t))
