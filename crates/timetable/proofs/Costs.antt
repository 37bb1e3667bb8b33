-- The costs. A unit of a packet costs the same in each of its stretches, and every unit is sent: so the stretches cost the sum over packets of bytes times R.
-- The exact cost is the same fraction over every common multiple of the denominators. Assumes nothing.
use Prim.Native.Nat.{ℕ, zero, suc, ◌+◌, ◌-◌, ◌*◌, ◌/◌, ◌^◌, ◌<◌, ◌≤◌, ◌∣◌}
use mathlib.Core.Path.{◌≡◌, refl, sym, ap, subst, ◌∙◌}
use mathlib.Core.Bool.{Bool, true, false}
use mathlib.Core.List.{List, [], ◌∷◌, ◌++◌}
use native.Mathlib.Omega.{arith}
use native.Mathlib.Decide.{ℕ_discrete}
use native.Mathlib.Nat.{dvd-mul_left, dvd-mul_right_of_dvd, mul-div_cancel', mul-le-mul_left}
use lib.Dec.{eqb}
use borrow.Author.Tests.{eqb-true}
use Rattle.packets.specs.Records.{Accepted}
use Rattle.policy.specs.Windows.{Given, none, rate, inside, only_if, sum}
use Rattle.policy.specs.Points.{packets_of}
use Rattle.policy.specs.Rounds.{Day, Progress, day_of, outcome_of}
use Rattle.policy.specs.Carried.{carries, in_units, price_of, priced}
use Rattle.policy.specs.Answer.{shown_d}
use Rattle.policy.proofs.Sums.{sum_eq, sum_le, sum_none, sum_scale}
use Rattle.policy.proofs.Left.{both}
use Rattle.policy.proofs.Carry.{carries_is}
use Rattle.policy.proofs.Facts.{assigned}
use Rattle.timetable.specs.Setting.{most_rate, setting}
use Rattle.timetable.specs.Entries.{Entry, Sheet, begun, eligible, entries_of, filled, less, sent, sheet_at, units_of}
use Rattle.timetable.specs.Costs.{common_d, cost_of, exact_cost_d, exact_cost_in, exact_cost_n, product, radio_cost, stretches_cost, Multiple}
use Rattle.timetable.specs.Right.{Each, Right, of_packet, units_where}
use Rattle.timetable.proofs.Turning.{differ, less_other, less_same, Stretch, turns_keep}
use Rattle.timetable.proofs.NeverLate.{Rated, all_sent}
use Rattle.timetable.proofs.Entered.{new_entry}
use Rattle.timetable.proofs.Settings.{setting_most}
use Rattle.timetable.proofs.Lists.{entries_are, rated, timetable, units_some}

-- ## The radio timetable

-- what a unit costs at N/D, in units of 1/M
abbrev unit_price : ℕ → ℕ → ℕ → ℕ
unit_price M n d = setting n d * setting n d * (M / (d * setting n d))

stretches_more : (M : ℕ) (entries : List Entry) (e : Entry)
    → stretches_cost M (entries ++ (e ∷ [])) ≡ stretches_cost M entries + e.R * e.R * ((e.to - e.from) * (M / (e.D * e.R)))
unfolding stretches_cost
stretches_more M [] e = omega arith
stretches_more M (f ∷ entries) e = omega (arith, stretches_more M entries e)

module _ (M : ℕ) (day : Day) (rates : Progress) where
  abbrev price : ℕ → ℕ
  price i = price_of (unit_price M) (rates.packet i)

  -- what is sent has been paid
  abbrev Paid : Sheet → Type 0
  Paid z = stretches_cost M z.entries + sum day.packets.count (λ i. z.unsent i * price i) ≡ sum day.packets.count (λ i. units_of day rates i * price i)

  paid_more : (k n d : ℕ) (z : Sheet) (i y : ℕ) → Stretch day rates k n d z i y → Paid z → Paid (sent day k n d z i y)
  unfolding sent
  paid_more k n d z i y q old =
      omega (
        arith,
        old,
        stretches_more M z.entries (new_entry day k n d i z.offset y),
        ap (λ (x : ℕ). setting n d * setting n d * (x * (M / (d * setting n d)))) length_is,
        differ day.packets.count (λ j. less z.unsent i y j * price j) (λ j. z.unsent j * price j) i q.below
            (λ j h. ap (λ (x : ℕ). x * price j) (less_other z.unsent i y j h)),
        ap (λ (x : ℕ). x * price i) (less_same z.unsent i y),
        ap (λ (x : ℕ). x * price i) split,
        ap (λ (x : ℕ). y * x) price_is,
      )
    where
      length_is : z.offset + y - z.offset ≡ y
      length_is = omega arith

      split : z.unsent i ≡ (z.unsent i - y) + y
      split = omega (arith, q.has)

      price_is : price i ≡ unit_price M n d
      price_is =
          ap (price_of (unit_price M)) (carries_is (rates.packet i) n d (both (carries (rates.packet i) n d) (inside day.epochs (day.packets.from i) (day.packets.till i) k) (unfold eligible in q.may)).0) ∙
          (unfold price_of in refl)

  paid : (k : ℕ) → Paid (sheet_at day rates k)
  unfolding sheet_at
  paid zero = unfold stretches_cost in omega arith
  paid (suc k) = go (rates.epoch k) (sheet_at day rates k) (paid k)
    where
      go : (x : Given) (s : Sheet) → Paid s → Paid (filled day rates k x s)
      go none s h = unfold filled begun in h
      go (rate n d) s h = unfold filled in turns_keep day rates k n d Paid (paid_more k n d) day.packets.count (begun s) (unfold begun in h)

  -- what the stretches cost is the radio cost
  pub stretches_cost_lem : Rated day rates
      → ((i n d : ℕ) → i < day.packets.count → rates.packet i ≡ rate n d → d * setting n d ∣ M)
      → stretches_cost M (sheet_at day rates day.epochs.count).entries ≡ radio_cost day rates * M
  stretches_cost_lem r multiple =
      omega (
        arith,
        paid day.epochs.count,
        sum_none day.packets.count (λ i. (sheet_at day rates day.epochs.count).unsent i * price i)
            (λ i h. omega (arith, ap (λ (x : ℕ). x * price i) (all_sent day rates r i h))),
        sum_eq day.packets.count (λ i. units_of day rates i * price i) (λ i. day.packets.weight i * price_of setting (rates.packet i) * M)
            (λ i h. let a = assigned (rates.packet i) (r.finished i h) in one i a.0 a.1.0 a.1.1 (multiple i a.0 a.1.0 h a.1.1)),
        sum_scale day.packets.count (λ i. day.packets.weight i * price_of setting (rates.packet i)) M,
        ap (λ (x : ℕ). x * M) cost_is,
      )
    where
      cost_is : sum day.packets.count (λ i. day.packets.weight i * price_of setting (rates.packet i)) ≡ radio_cost day rates
      cost_is = unfold radio_cost priced in refl

      one : (i n d : ℕ) → rates.packet i ≡ rate n d → d * setting n d ∣ M
          → units_of day rates i * price i ≡ day.packets.weight i * price_of setting (rates.packet i) * M
      one i n d p m =
          unfold units_of in
          subst (λ (x : Given). day.packets.weight i * shown_d x * price_of (unit_price M) x ≡ day.packets.weight i * price_of setting x * M) (sym p)
          (unfold shown_d price_of in
          omega (arith, ap (λ (x : ℕ). day.packets.weight i * setting n d * x) (mul-div_cancel' (d * setting n d) m)))

-- ## The exact timetable

-- a product is a multiple of each of its factors
pub product_of : (n : ℕ) (f : ℕ → ℕ) (k : ℕ) → k < n → f k ∣ product n f
unfolding product
product_of zero f k h = absurd (omega arith)
product_of (suc n) f k h = go (ℕ_discrete k n) (product_of n f k)
  where
    go : Dec (k ≡ n) → (k < n → f k ∣ product n f) → f k ∣ product n f * f n
    go (yes e) rest = subst (λ (x : ℕ). f x ∣ product n f * f n) (sym e) (dvd-mul_left (f n) (product n f))
    go (no e) rest = dvd-mul_right_of_dvd (f k) (rest (omega (arith, e))) (f n)

module _ (day : Day) (rates : Progress) where
  -- L is a multiple of the D of each epoch
  abbrev pub Common : ℕ → Type 0
  Common L = (k n d : ℕ) → k < day.epochs.count → rates.epoch k ≡ rate n d → d ∣ L

  -- over every common multiple the exact cost is the same fraction
  pub exact_same : (L M : ℕ) → Common L → Common M → exact_cost_in L day rates * (M * M) ≡ exact_cost_in M day rates * (L * L)
  unfolding exact_cost_in priced
  exact_same L M cl cm =
      omega (
        arith,
        sum_scale day.epochs.count (λ k. day.epochs.weight k * price_of (λ n d. in_units L n d * in_units L n d) (rates.epoch k)) (M * M),
        sum_scale day.epochs.count (λ k. day.epochs.weight k * price_of (λ n d. in_units M n d * in_units M n d) (rates.epoch k)) (L * L),
        sum_eq day.epochs.count (λ k. day.epochs.weight k * price_of (λ n d. in_units L n d * in_units L n d) (rates.epoch k) * (M * M))
            (λ k. day.epochs.weight k * price_of (λ n d. in_units M n d * in_units M n d) (rates.epoch k) * (L * L))
            (λ k h. one k h (rates.epoch k) refl),
      )
    where
      square : (w n a b : ℕ) → a * M ≡ b * L → w * (n * a * (n * a)) * (M * M) ≡ w * (n * b * (n * b)) * (L * L)
      square w n a b e = omega (arith, ap (λ (x : ℕ). w * n * n * (a * M) * x) e, ap (λ (x : ℕ). w * n * n * x * (b * L)) e)

      one : (k : ℕ) → k < day.epochs.count → (x : Given) → rates.epoch k ≡ x
          → day.epochs.weight k * price_of (λ n d. in_units L n d * in_units L n d) x * (M * M)
          ≡ day.epochs.weight k * price_of (λ n d. in_units M n d * in_units M n d) x * (L * L)
      one k h none p = unfold price_of in omega arith
      one k h (rate n d) p =
          unfold price_of in_units in
          square (day.epochs.weight k) n (L / d) (M / d)
          (omega (
            arith,
            ap (λ (x : ℕ). (L / d) * x) (mul-div_cancel' d (cm k n d h p)),
            ap (λ (x : ℕ). (M / d) * x) (mul-div_cancel' d (cl k n d h p)),
          ))

  -- the product of the D is such a multiple
  pub common : Common (common_d day rates)
  unfolding common_d
  common k n d h p =
      subst (λ (x : ℕ). x ∣ product day.epochs.count (λ j. shown_d (rates.epoch j))) (ap shown_d p ∙ (unfold shown_d in refl))
      (product_of day.epochs.count (λ j. shown_d (rates.epoch j)) k h)

  -- the exact cost over any common multiple
  pub exact_cost : (L : ℕ) → Common L → exact_cost_in L day rates * exact_cost_d day rates ≡ exact_cost_n day rates * (L * L)
  unfolding exact_cost_d exact_cost_n
  exact_cost L c = exact_same L (common_d day rates) c common

-- ## Accepted lists

-- a packet's D and R stand in each of its entries
named : (M : ℕ) (day : Day) (rates : Progress) (i n d : ℕ) → rates.packet i ≡ rate n d → (entries : List Entry)
    → Each (Right day rates) entries → Each (Multiple M) entries → 0 < units_where (of_packet i) entries → d * setting n d ∣ M
unfolding units_where
named M day rates i n d p [] right multiple some = absurd (omega (arith, some))
named M day rates i n d p (e ∷ entries) right multiple some = go (eqb e.packet i) refl some (named M day rates i n d p entries right.1 multiple.1)
  where
    go : (b : Bool) → eqb e.packet i ≡ b → 0 < only_if b (e.to - e.from) + units_where (of_packet i) entries
        → (0 < units_where (of_packet i) entries → d * setting n d ∣ M) → d * setting n d ∣ M
    go true q some rest =
        let own : rate e.N e.D ≡ rate n d = sym right.0.assigned ∙ ap rates.packet (eqb-true _ _ q) ∙ p in
        let n_is : e.N ≡ n = cc in
        let d_is : e.D ≡ d = cc in
        let r_is : e.R ≡ setting n d = right.0.set ∙ ap (λ (x : ℕ). setting x e.D) n_is ∙ ap (setting n) d_is in
        subst (λ (x : ℕ). x ∣ M) (ap (λ (x : ℕ). x * e.R) d_is ∙ ap (λ (x : ℕ). d * x) r_is) multiple.0
    go false q some rest = rest (unfold only_if in omega (arith, some))

module _ (count : ℕ) (records : List ℕ) (accepted : Accepted count records) where
  -- the radio cost fits its 44 bits
  pub cost_fits : cost_of count records < 2 ^ 44
  unfolding cost_of radio_cost priced
  cost_fits =
      omega (
        arith,
        sum_le day.packets.count (λ i. day.packets.weight i * price_of setting (rates.packet i)) (λ i. day.packets.weight i * most_rate)
            (λ i h. mul-le-mul_left (day.packets.weight i) (one i h (rates.packet i) refl)),
        sum_scale day.packets.count day.packets.weight most_rate,
        r.proper.bytes,
      )
    where
      day : Day
      day = day_of count records

      rates : Progress
      rates = outcome_of count records

      r : Rated (day_of count records) (outcome_of count records)
      r = rated count records accepted

      one : (i : ℕ) → i < (day_of count records).packets.count → (x : Given) → (outcome_of count records).packet i ≡ x → price_of setting x ≤ most_rate
      one i h none p = unfold price_of in omega arith
      one i h (rate n d) p = unfold price_of in setting_most n d (r.facts.packet_rate i n d h p)

  -- the stretches of a list cost its radio cost
  pub list_stretches_cost : (M : ℕ)
      → ((i n d : ℕ) → i < (day_of count records).packets.count → (outcome_of count records).packet i ≡ rate n d → d * setting n d ∣ M)
      → stretches_cost M (entries_of count records) ≡ cost_of count records * M
  list_stretches_cost M multiple =
      ap (stretches_cost M) (sym (entries_are count records accepted)) ∙
      stretches_cost_lem M (day_of count records) (outcome_of count records) (rated count records accepted) multiple ∙
      ap (λ (x : ℕ). x * M) (unfold cost_of in refl)

  -- the same in units that the entries alone name: every packet has an entry
  pub entries_cost : (M : ℕ) → Each (Multiple M) (entries_of count records) → stretches_cost M (entries_of count records) ≡ cost_of count records * M
  entries_cost M multiple =
      list_stretches_cost M
      (λ i n d h p.
      named M (day_of count records) (outcome_of count records) i n d p (entries_of count records) (timetable count records accepted).right multiple (sends i h))
    where
      sends : (i : ℕ) → i < (day_of count records).packets.count → 0 < units_where (of_packet i) (entries_of count records)
      sends i h = rw ((timetable count records accepted).whole i h) (units_some count records accepted i (unfold day_of packets_of in h))
