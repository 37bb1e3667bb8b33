-- What rounds leave, for any run in which each round takes some densest interval: `Facts`, carried round by round.
-- The density of a round bounds the state before it and, by Hull, after it. So what was given earlier is not lower (not-slower), each round's bytes are its rate
-- times its seconds (priced-alike), and its packets inside any interval have at most the rate times the seconds of its epochs there (holds-inside). Assumes nothing.
use Prim.Native.Nat.{ℕ, ◌+◌, ◌*◌, ◌/◌, ◌<◌, ◌≤◌, ◌∣◌, min, max}
use mathlib.Core.Path.{◌≡◌, refl, sym, ap, subst₂, ◌∙◌}
use mathlib.Core.Bool.{Bool, true, false, ◌&&◌}
use native.Mathlib.Omega.{arith}
use native.Mathlib.Decide.{dec_lt}
use native.Mathlib.Nat.{le_trans, mul-pos, mul-le-mul_right, le_of_mul-le-mul_right, mul-div_cancel'}
use Rattle.fractions.specs.Fraction.{gcd, lowest_n, lowest_d}
use Rattle.fractions.proofs.Euclid.{gcd_positive}
use Rattle.fractions.proofs.LowestTerms.{load_is, length_is, value_kept, lowest_is_lowest, lowest_n_positive, lowest_d_positive, lowest_n_small, lowest_d_small}
use Rattle.policy.specs.Windows.{Windows, Given, none, rate, unassigned, inside, only_if, left, assign, sum}
use Rattle.policy.specs.Rounds.{Day, Progress, at_first, load, len, give_rate, taken}
use Rattle.policy.specs.Runs.{Densest, Run, begin, next}
use Rattle.policy.specs.Carried.{carries, carried, carried_in_all, price_of, priced, in_units}
use Rattle.policy.proofs.Sums.{none_above, sum_at, sum_le, sum_none}
use Rattle.policy.proofs.Left.{not_both_ways, inside_true, inside_is, left_some, only_if_le, only_if_most}
use Rattle.policy.proofs.Proper.{Proper, RateInRange}
use Rattle.policy.proofs.Hull.{Bounded, lowest_bounds, hull}
use Rattle.policy.proofs.Carry.{assign_new, assign_old, assign_out, none_unassigned, carries_same, carried_after, carried_in_all_after, priced_after, remaining, remaining_fewer, remaining_most}

-- it has a rate, and one that is not below N/D
pub record AtLeast (x : Given) (n d : ℕ) : Type 0 where
  pub rate_n : ℕ
  pub rate_d : ℕ
  pub given : x ≡ rate rate_n rate_d
  pub not_below : n * rate_d ≤ rate_n * d

pub record Facts (day : Day) (done : Progress) : Type 0 where
  -- an interval that holds an unassigned packet has unassigned length above zero
  pub positive : (s e : ℕ) → 0 < load day done s e → 0 < len day done s e
  -- no interval is denser than what some epoch was given: densities never rise
  pub bounded : (k n d : ℕ) → k < day.epochs.count → done.epoch k ≡ rate n d → Bounded day done n d
  -- rates are in lowest terms and within the figures
  pub packet_rate : (i n d : ℕ) → i < day.packets.count → done.packet i ≡ rate n d → RateInRange n d
  pub epoch_rate : (k n d : ℕ) → k < day.epochs.count → done.epoch k ≡ rate n d → RateInRange n d
  -- every epoch inside the window of a packet with a rate has a rate, and that is at least the packet's
  pub not_slower : (i k n d : ℕ) → i < day.packets.count → k < day.epochs.count → done.packet i ≡ rate n d
      → day.packets.from i ≤ day.epochs.from k → day.epochs.till k ≤ day.packets.till i → AtLeast (done.epoch k) n d
  -- bytes times price, over packets, is seconds times rate times price, over epochs; L is a multiple of each D, and rates are in units of 1/L.
  -- With the rate itself as the price: the sum of size times rate is the sum of rate squared times length
  pub priced_alike : (L : ℕ) (price : ℕ → ℕ → ℕ) → ((i n d : ℕ) → i < day.packets.count → done.packet i ≡ rate n d → d ∣ L)
      → priced price day.packets done.packet * L ≡ priced (λ n d. in_units L n d * price n d) day.epochs done.epoch
  -- for each fraction, the bytes inside [s, e) are at most the rate times the seconds inside [s, e)
  pub holds_inside : (n d s e : ℕ) → carried day.packets done.packet n d s e * d ≤ n * carried day.epochs done.epoch n d s e
  -- over all time: equality
  pub filled_in_all : (n d : ℕ) → carried_in_all day.packets done.packet n d * d ≡ n * carried_in_all day.epochs done.epoch n d
  -- each round has assigned a packet
  pub counted : done.rounds + remaining day.packets done.packet ≤ day.packets.count

-- ## Small laws

-- something given is a rate
pub assigned : (x : Given) → unassigned x ≡ false → (n : ℕ) × ((d : ℕ) × (x ≡ rate n d))
unfolding unassigned
assigned none h = absurd (not_both_ways refl h)
assigned (rate n d) h = (n, (d, refl))

-- what is left is at most the whole weight
left_all : (w : Windows) (g : ℕ → Given) (s e : ℕ) → left w g s e ≤ sum w.count w.weight
unfolding left
left_all w g s e = sum_le w.count _ _ λ i h. only_if_most (unassigned (g i) && inside w s e i) (w.weight i)

-- by what a round gives to one index: the new rate, or what it had
data Ways (w : Windows) (s e n d : ℕ) (g : ℕ → Given) (i : ℕ) : Type 0 where
  fresh : unassigned (g i) ≡ true → inside w s e i ≡ true → assign w s e n d g i ≡ rate n d → Ways w s e n d g i
  kept : assign w s e n d g i ≡ g i → Ways w s e n d g i

ways : (w : Windows) (s e n d : ℕ) (g : ℕ → Given) (i : ℕ) → Ways w s e n d g i
ways w s e n d g i = go (unassigned (g i)) refl (inside w s e i) refl
  where
    go : (a : Bool) → unassigned (g i) ≡ a → (b : Bool) → inside w s e i ≡ b → Ways w s e n d g i
    go false p b q = kept (assign_old w s e n d g i p)
    go true p true q = fresh p q (assign_new w s e n d g i p q)
    go true p false q = kept (assign_out w s e n d g i q)

same_n : {n d n' d' : ℕ} → rate n d ≡ rate n' d' → n ≡ n'
same_n p = cc

same_d : {n d n' d' : ℕ} → rate n d ≡ rate n' d' → d ≡ d'
same_d p = cc

-- bounded parts add up to a bounded whole
added : (t : Bool) (n d N D cp ce p q : ℕ) → (t ≡ true → (N ≡ n) × (D ≡ d)) → cp * d ≤ n * ce → p * D ≤ N * q
    → (cp + only_if t p) * d ≤ n * (ce + only_if t q)
unfolding only_if
added true n d N D cp ce p q same h k =
    let b = same refl in
    omega (arith, h, k, ap (λ (x : ℕ). p * x) b.1, ap (λ (x : ℕ). x * q) b.0)
added false n d N D cp ce p q same h k = omega arith

added_all : (t : Bool) (n d N D cp ce p q : ℕ) → (t ≡ true → (N ≡ n) × (D ≡ d)) → cp * d ≡ n * ce → p * D ≡ N * q
    → (cp + only_if t p) * d ≡ n * (ce + only_if t q)
unfolding only_if
added_all true n d N D cp ce p q same h k =
    let b = same refl in
    omega (arith, h, k, ap (λ (x : ℕ). p * x) b.1, ap (λ (x : ℕ). x * q) b.0)
added_all false n d N D cp ce p q same h k = omega arith

-- ## At first

module _ (day : Day) (proper : Proper day) where
  -- the epoch of a packet's own window is unassigned
  first_length : (s e : ℕ) → 0 < load day at_first s e → 0 < len day at_first s e
  unfolding load len left at_first unassigned only_if
  first_length s e h =
      let x = left_some day.packets (λ i. none) s e h in
      let w = inside_true day.packets s e x.0 x.3 in
      let k = proper.own x.0 x.1 in
      let i = inside_is day.epochs s e k (le_trans w.0 (proper.own_from x.0 x.1)) (le_trans (proper.own_till x.0 x.1) w.1) in
      le_trans (proper.own_some x.0 x.1)
      (le_trans (only_if_le true (inside day.epochs s e k) (day.epochs.weight k) (λ _. i))
      (sum_at day.epochs.count (λ k. only_if (inside day.epochs s e k) (day.epochs.weight k)) k (proper.own_is x.0 x.1)))

  nothing_carried : (w : Windows) (n d s e : ℕ) → carried w (λ i. none) n d s e ≡ 0
  unfolding carried carries only_if
  nothing_carried w n d s e = sum_none w.count _ λ i h. refl

  nothing_carried_at_all : (w : Windows) (n d : ℕ) → carried_in_all w (λ i. none) n d ≡ 0
  unfolding carried_in_all carries only_if
  nothing_carried_at_all w n d = sum_none w.count _ λ i h. refl

  nothing_priced : (price : ℕ → ℕ → ℕ) (w : Windows) → priced price w (λ i. none) ≡ 0
  unfolding priced price_of
  nothing_priced price w = sum_none w.count _ λ i h. omega arith

  no_rate : (n d : ℕ) → none ≡ rate n d → ⊥
  no_rate n d p = let z : ◌≡◌ {A = ℕ} 0 1 = cc in omega arith

  at_first_lem : Facts day at_first
  unfolding at_first
  at_first_lem =
      record {
        positive = first_length;
        bounded = λ k n d h p. absurd (no_rate n d p);
        packet_rate = λ i n d h p. absurd (no_rate n d p);
        epoch_rate = λ k n d h p. absurd (no_rate n d p);
        not_slower = λ i k n d hi hk p. absurd (no_rate n d p);
        priced_alike = λ L price h. rw (nothing_priced price day.packets, nothing_priced (λ n d. in_units L n d * price n d) day.epochs) (omega arith);
        holds_inside = λ n d s e. rw (nothing_carried day.packets n d s e, nothing_carried day.epochs n d s e) (omega arith);
        filled_in_all = λ n d. rw (nothing_carried_at_all day.packets n d, nothing_carried_at_all day.epochs n d) (omega arith);
        counted = remaining_most day.packets (λ i. none);
      }

-- ## One round

module _ (day : Day) (proper : Proper day) (done : Progress) (facts : Facts day done) (s e : ℕ) (best : Densest day done s e) where
  abbrev l : ℕ
  l = load day done s e

  abbrev m : ℕ
  m = len day done s e

  abbrev N : ℕ
  N = lowest_n l m

  abbrev D : ℕ
  D = lowest_d l m

  abbrev then' : Progress
  then' = give_rate day done s e N D

  long : 0 < m
  long = facts.positive s e best.holding.holds

  d_some : 0 < D
  d_some = lowest_d_positive l m long

  tight : l * D ≡ N * m
  tight = value_kept l m

  before : Bounded day done N D
  before = lowest_bounds day done s e long best

  afterwards : Bounded day then' N D
  afterwards = hull day proper done s e N D best.holding.data_interval tight before N D

  -- densities never rise: what an epoch was given earlier is not lower
  pub never_rises : (k n d : ℕ) → k < day.epochs.count → done.epoch k ≡ rate n d → N * d ≤ n * D
  never_rises k n d h p =
      le_of_mul-le-mul_right {k = gcd l m}
      (omega (arith, facts.bounded k n d h p s e, ap (λ (x : ℕ). x * d) (load_is l m), ap (λ (x : ℕ). n * x) (length_is l m)))
      (gcd_positive l m long)

  in_range : RateInRange N D
  unfolding load len
  in_range =
      record {
        lowest = lowest_is_lowest l m long;
        n_some = lowest_n_positive l m best.holding.holds;
        n_most = le_trans (lowest_n_small l m) (le_trans (left_all day.packets done.packet s e) proper.bytes);
        d_some = d_some;
        d_most = le_trans (lowest_d_small l m) (le_trans (left_all day.epochs done.epoch s e) proper.seconds);
      }

  positive' : (s' e' : ℕ) → 0 < load day then' s' e' → 0 < len day then' s' e'
  positive' s' e' h = go (dec_lt 0 (len day then' s' e'))
    where
      go : Dec (0 < len day then' s' e') → 0 < len day then' s' e'
      go (yes p) = p
      go (no p) =
          absurd (omega (arith, afterwards s' e', mul-pos h d_some, ap (λ (x : ℕ). N * x) (none_above (len day then' s' e') p)))

  -- a bound at N/D is one at every rate that is not lower
  not_lower : (n d : ℕ) → N * d ≤ n * D → Bounded day then' n d
  not_lower n d h s' e' =
      le_of_mul-le-mul_right {k = D}
      (omega (arith, mul-le-mul_right d (afterwards s' e'), mul-le-mul_right (len day then' s' e') h))
      d_some

  bounded' : (k n d : ℕ) → k < day.epochs.count → then'.epoch k ≡ rate n d → Bounded day then' n d
  unfolding give_rate
  bounded' k n d h p = go (ways day.epochs s e N D done.epoch k)
    where
      go : Ways day.epochs s e N D done.epoch k → Bounded day then' n d
      go (fresh u i q) =
          let x : N ≡ n = same_n (sym q ∙ p) in
          let y : D ≡ d = same_d (sym q ∙ p) in
          not_lower n d (omega (arith, ap (λ (z : ℕ). z * d) x, ap (λ (z : ℕ). n * z) y))
      go (kept q) = not_lower n d (never_rises k n d h (sym q ∙ p))

  rate_of : (w : Windows) (g : ℕ → Given) (i n d : ℕ) → (g i ≡ rate n d → RateInRange n d) → assign w s e N D g i ≡ rate n d → RateInRange n d
  rate_of w g i n d old p = go (ways w s e N D g i)
    where
      go : Ways w s e N D g i → RateInRange n d
      go (fresh u j q) = subst₂ (λ (x y : ℕ). RateInRange x y) (same_n (sym q ∙ p)) (same_d (sym q ∙ p)) in_range
      go (kept q) = old (sym q ∙ p)

  not_slower' : (i k n d : ℕ) → i < day.packets.count → k < day.epochs.count → then'.packet i ≡ rate n d
      → day.packets.from i ≤ day.epochs.from k → day.epochs.till k ≤ day.packets.till i → AtLeast (then'.epoch k) n d
  unfolding give_rate
  not_slower' i k n d hi hk p a b = go (ways day.packets s e N D done.packet i)
    where
      over : N ≡ n → D ≡ d → inside day.epochs s e k ≡ true → AtLeast (then'.epoch k) n d
      over x y j = there (unassigned (done.epoch k)) refl
        where
          there : (t : Bool) → unassigned (done.epoch k) ≡ t → AtLeast (then'.epoch k) n d
          there true u =
              record {
                rate_n = N;
                rate_d = D;
                given = assign_new day.epochs s e N D done.epoch k u j;
                not_below = omega (arith, ap (λ (z : ℕ). z * D) x, ap (λ (z : ℕ). N * z) y);
              }
          there false u =
              let r = assigned (done.epoch k) u in
              record {
                rate_n = r.0;
                rate_d = r.1.0;
                given = assign_old day.epochs s e N D done.epoch k u ∙ r.1.1;
                not_below = omega (arith, never_rises k r.0 r.1.0 hk r.1.1, ap (λ (z : ℕ). z * r.1.0) x, ap (λ (z : ℕ). r.0 * z) y);
              }

      go : Ways day.packets s e N D done.packet i → AtLeast (then'.epoch k) n d
      go (fresh u j q) =
          let w = inside_true day.packets s e i j in
          over (same_n (sym q ∙ p)) (same_d (sym q ∙ p)) (inside_is day.epochs s e k (le_trans w.0 a) (le_trans b w.1))
      go (kept q) =
          let r = facts.not_slower i k n d hi hk (sym q ∙ p) a b in
          record {
            rate_n = r.rate_n;
            rate_d = r.rate_d;
            given = assign_old day.epochs s e N D done.epoch k (none_unassigned (done.epoch k) r.rate_n r.rate_d r.given) ∙ r.given;
            not_below = r.not_below;
          }

  priced_alike' : (L : ℕ) (price : ℕ → ℕ → ℕ) → ((i n d : ℕ) → i < day.packets.count → then'.packet i ≡ rate n d → d ∣ L)
      → priced price day.packets then'.packet * L ≡ priced (λ n d. in_units L n d * price n d) day.epochs then'.epoch
  unfolding give_rate load len in_units
  priced_alike' L price multiple =
      let x = left_some day.packets done.packet s e best.holding.holds in
      let whole : D ∣ L = multiple x.0 N D x.1 (assign_new day.packets s e N D done.packet x.0 x.2 x.3) in
      let old = facts.priced_alike L price (λ i n d h p. multiple i n d h
      (assign_old day.packets s e N D done.packet i (none_unassigned (done.packet i) n d p) ∙ p)) in
      omega (
        arith,
        old,
        ap (λ (y : ℕ). y * L) (priced_after day.packets done.packet s e N D price),
        priced_after day.epochs done.epoch s e N D (λ n d. in_units L n d * price n d),
        ap (λ (y : ℕ). l * price N D * y) (mul-div_cancel' D whole),
        ap (λ (y : ℕ). y * (price N D * (L / D))) tight,
      )

  holds_inside' : (n d s' e' : ℕ) → carried day.packets then'.packet n d s' e' * d ≤ n * carried day.epochs then'.epoch n d s' e'
  unfolding give_rate
  holds_inside' n d s' e' =
      rw (carried_after day.packets done.packet s e N D n d s' e', carried_after day.epochs done.epoch s e N D n d s' e')
      (added (carries (rate N D) n d) n d N D _ _ _ _ (carries_same N D n d) (facts.holds_inside n d s' e') shared)
    where
      shared : left day.packets done.packet (max s s') (min e e') * D ≤ N * left day.epochs done.epoch (max s s') (min e e')
      shared = unfold load len in before (max s s') (min e e')

  filled_in_all' : (n d : ℕ) → carried_in_all day.packets then'.packet n d * d ≡ n * carried_in_all day.epochs then'.epoch n d
  unfolding give_rate
  filled_in_all' n d =
      rw (carried_in_all_after day.packets done.packet s e N D n d, carried_in_all_after day.epochs done.epoch s e N D n d)
      (added_all (carries (rate N D) n d) n d N D _ _ _ _ (carries_same N D n d) (facts.filled_in_all n d) (unfold load len in tight))

  counted' : then'.rounds + remaining day.packets then'.packet ≤ day.packets.count
  unfolding give_rate load
  counted' =
      let x = left_some day.packets done.packet s e best.holding.holds in
      omega (arith, facts.counted, remaining_fewer day.packets done.packet s e N D x.0 x.1 x.2 x.3)

  -- the facts hold again
  one_round : Facts day (taken day done s e)
  unfolding taken
  one_round =
      record {
        positive = positive';
        bounded = bounded';
        packet_rate = λ i n d h p. rate_of day.packets done.packet i n d (facts.packet_rate i n d h) (unfold give_rate in p);
        epoch_rate = λ k n d h p. rate_of day.epochs done.epoch k n d (facts.epoch_rate k n d h) (unfold give_rate in p);
        not_slower = not_slower';
        priced_alike = priced_alike';
        holds_inside = holds_inside';
        filled_in_all = filled_in_all';
        counted = counted';
      }

-- ## Any run

pub facts : (day : Day) → Proper day → (done : Progress) → Run day done → Facts day done
facts day proper _ begin = at_first_lem day proper
facts day proper _ (next {done} s e run best) = one_round day proper done (facts day proper done run) s e best
