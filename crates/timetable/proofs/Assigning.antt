-- Every accepted packet has a rate, and the figures that the code makes of it fit: its units, its setting and its cost. Assumes nothing.
use Prim.Native.Nat.{ℕ, zero, suc, ◌+◌, ◌*◌, ◌^◌, ◌<◌, ◌≤◌}
use mathlib.Core.Path.{◌≡◌, refl, sym, ap, subst, ◌∙◌}
use mathlib.Core.List.{List, map}
use native.Mathlib.Omega.{arith}
use native.Mathlib.Numerals.{add-one}
use Rattle.std.specs.Prelude.{Option, Some, None, IsSome}
use Rattle.std.specs.List.{fold, range_with_len}
use Rattle.std.specs.List as L
use Rattle.fractions.specs.declared.Rate.{Rate}
use Rattle.packets.specs.Limits.{air_bytes}
use Rattle.packets.specs.Records.{Accepted, size_of}
use Rattle.policy.specs.Windows.{none, rate, sum}
use Rattle.policy.specs.Points.{packets_of}
use Rattle.policy.specs.Rounds.{day_of, outcome_of}
use Rattle.policy.specs.Carried.{price_of, priced}
use Rattle.policy.specs.Answer.{given_of, shown_d}
use Rattle.policy.specs.Figures.{largest_air}
use Rattle.policy.proofs.Accepting.{air_most}
use Rattle.policy.proofs.Proper.{RateInRange}
use Rattle.policy.proofs.Facts.{assigned}
use Rattle.policy.proofs.Measuring.{sum_up}
use Rattle.timetable.specs.Setting.{most_rate, setting}
use Rattle.timetable.specs.Entries.{units_of}
use Rattle.timetable.specs.Costs.{cost_of, radio_cost}
use Rattle.timetable.specs.Steps.{RateIs, cost_at, units_at}
use Rattle.timetable.proofs.Settings.{setting_most}
use Rattle.timetable.proofs.Lists.{rated}
use Rattle.timetable.proofs.Costs.{cost_fits}

module _ (count : ℕ) (records : List ℕ) (accepted : Accepted count records) where
  -- the bytes of a packet are few
  pub air_small : (i : ℕ) → i < count → air_bytes (size_of records i) ≤ largest_air
  air_small i h = air_most (size_of records i) (accepted.sound i h).small

  packet_is : (i : ℕ) → i < count → i < (day_of count records).packets.count
  packet_is i h = unfold day_of packets_of in h

  -- every packet has a rate, and that is in range
  record HasRate (i : ℕ) : Type 0 where
    pub n : ℕ
    pub d : ℕ
    pub is : (outcome_of count records).packet i ≡ rate n d
    pub in_range : RateInRange n d

  has_rate : (i : ℕ) → i < count → HasRate i
  has_rate i h =
      let a = assigned ((outcome_of count records).packet i) ((rated count records accepted).finished i (packet_is i h)) in
      record {
        n = a.0;
        d = a.1.0;
        is = a.1.1;
        in_range = (rated count records accepted).facts.packet_rate i a.0 a.1.0 (packet_is i h) a.1.1;
      }

  -- what stands in its place in the array is a rate ..
  pub rate_there : (i : ℕ) (has : Option Rate) → i < count → given_of has ≡ (outcome_of count records).packet i → IsSome has
  rate_there i None h e = let p : none ≡ rate (has_rate i h).n (has_rate i h).d = e ∙ (has_rate i h).is in cc
  rate_there i (Some r) h e = refl

  in_range : (i : ℕ) (r : Rate) → i < count → rate r.n r.d ≡ (outcome_of count records).packet i → RateInRange r.n r.d
  in_range i r h e =
      let a = has_rate i h in
      let p : rate r.n r.d ≡ rate a.n a.d = e ∙ a.is in
      let q : r.n ≡ a.n = cc in
      let s : r.d ≡ a.d = cc in
      subst (λ (x : ℕ). RateInRange x r.d) (sym q) (subst (RateInRange a.n) (sym s) a.in_range)

  -- .. and that is the packet's
  pub rate_is : (i : ℕ) (r : Rate) → i < count → rate r.n r.d ≡ (outcome_of count records).packet i → RateIs count records i r
  rate_is i r h e =
      let f = in_range i r h e in
      record { is = sym e; n_most = f.n_most; d_some = f.d_some; d_most = f.d_most }

  -- ## Units at first

  pub units_are : (i : ℕ) (r : Rate) (size y : ℕ) → RateIs count records i r → size ≡ air_bytes (size_of records i) → y ≡ size * r.d → y ≡ units_at count records i
  unfolding units_at units_of day_of packets_of
  units_are i r size y f a b = b ∙ cc (a, d)
    where
      d : shown_d ((outcome_of count records).packet i) ≡ r.d
      d = ap shown_d f.is ∙ (unfold shown_d in refl)

  -- ## The cost

  pub setting_small : (i : ℕ) (r : Rate) → i < count → RateIs count records i r → setting r.n r.d ≤ most_rate
  setting_small i r h f = setting_most r.n r.d (in_range i r h (sym f.is))

  pub cost_is : (i : ℕ) (r : Rate) (size s y : ℕ) → RateIs count records i r → size ≡ air_bytes (size_of records i) → s ≡ setting r.n r.d → y ≡ size * s
      → y ≡ cost_at count records i
  unfolding cost_at day_of packets_of
  cost_is i r size s y f a b c = c ∙ cc (a, b, p)
    where
      p : price_of setting ((outcome_of count records).packet i) ≡ setting r.n r.d
      p = ap (price_of setting) f.is ∙ (unfold price_of in refl)

-- the numbers of a range, added up
range_sum : (f : ℕ → ℕ) (n i : ℕ) → fold (λ (a x : ℕ). a + x) (sum i f) (map f (range_with_len i n)) ≡ sum (i + n) f
unfolding sum
range_sum f zero i = ap (λ (k : ℕ). sum k f) (omega arith)
range_sum f (suc n) i = ap (λ (k : ℕ). fold (λ (a x : ℕ). a + x) k (map f (range_with_len (i + 1) n))) here ∙ range_sum f n (i + 1) ∙ ap (λ (k : ℕ). sum k f) (omega arith)
  where
    here : sum i f + f i ≡ sum (i + 1) f
    here = rw add-one refl

-- the costs of the packets, added up
pub costs_are : (count : ℕ) (records : List ℕ) → L.sum (map (cost_at count records) (range_with_len 0 count)) ≡ cost_of count records
unfolding sum
costs_are count records =
    range_sum (cost_at count records) count 0 ∙ ap (λ (k : ℕ). sum k (cost_at count records)) (omega arith) ∙ all
  where
    all : sum count (cost_at count records) ≡ cost_of count records
    all = unfold cost_at cost_of radio_cost priced day_of packets_of in refl

pub costs_fit : (count : ℕ) (records : List ℕ) → Accepted count records → L.sum (map (cost_at count records) (range_with_len 0 count)) < 2 ^ 64
costs_fit count records accepted = omega (arith, costs_are count records, cost_fits count records accepted)

-- the costs of the first i packets, added up
pub cost_part : (count : ℕ) (records : List ℕ) → Accepted count records → (i : ℕ) → i ≤ count → sum i (cost_at count records) < 2 ^ 44
cost_part count records accepted i h = omega (arith, cost_fits count records accepted, sum_up (cost_at count records) i count h, all)
  where
    all : sum count (cost_at count records) ≡ cost_of count records
    all = unfold cost_at cost_of radio_cost priced day_of packets_of in refl
