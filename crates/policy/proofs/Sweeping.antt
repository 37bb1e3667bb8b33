-- The turns of the sweep, over plain variables. Assumes nothing.
use Prim.Native.Nat.{ℕ, zero, suc, ◌+◌, ◌-◌, ◌*◌, ◌/◌, ◌^◌, ◌<◌, ◌≤◌}
use mathlib.Core.Path.{◌≡◌, refl, sym, ap, ap₂, subst, ◌∙◌}
use mathlib.Core.Bool.{Bool, true, false, ◌&&◌}
use native.Mathlib.Omega.{arith}
use native.Mathlib.Numerals.{add-one}
use lib.Dec.{leb, ltb}
use lib.ListN.{length, take}
use lib.Seq.{get_or-take, length-take-le}
use native.Mathlib.Decide.{dec_lt}
use borrow.Author.Tests.{lt-leb, le-leb, lt-ltb, le-ltb}
use Rattle.std.specs.Prelude.{List, Option, Some, None, IfSome}
use Rattle.std.specs.List.{AllWithin, HoldsAt}
use Rattle.std.specs.Option.{MatchOption, unwrap_or}
use Rattle.policy.specs.declared.densest.Leader.{Leader}
use Rattle.policy.specs.declared.densest.Left.{Left}
use Rattle.policy.specs.declared.row.Due.{Due}
use Rattle.policy.specs.Ranges.{due_at}
use Rattle.policy.specs.Windows.{sum, choose, only_if}
use Rattle.policy.specs.Steps.{counted_from, due_to, swept, goes_ahead, considered, led, Small, leader_ahead}
use Rattle.policy.proofs.Left.{only_if_most}
use Rattle.policy.proofs.Order.{Figures}

-- a leader's figures
abbrev pub figures_of : Leader → Figures
figures_of x = record { start = x.start; end = x.end; load = x.load; len = x.len }

-- ## One contest

module _ (best : Option Leader) (last : Bool) (interval : Leader) where
  -- an interval that is not to be looked at leaves the leader, and so does one without load
  pub unmarked_loses : last ≡ false → best ≡ considered best last interval
  unfolding considered choose
  unmarked_loses p = rw p refl

  pub empty_loses : interval.load ≡ 0 → best ≡ considered best last interval
  unfolding considered choose
  empty_loses p = rw (le-ltb 0 interval.load (omega (arith, p))) (none last)
    where
      none : (b : Bool) → best ≡ choose (b && false) (Some interval) best
      none true = refl
      none false = refl

  -- the others go by the rule
  pub rule_decides : last ≡ true → (interval.load ≡ 0 → ⊥) → considered best last interval ≡ choose (goes_ahead interval best) (Some interval) best
  unfolding considered
  rule_decides p q = rw (p, lt-ltb 0 interval.load (omega (arith, q))) refl

-- where there is no leader, the interval leads
pub first_leads : (last : Bool) (interval : Leader) → last ≡ true → (interval.load ≡ 0 → ⊥) → Some interval ≡ considered None last interval
unfolding goes_ahead choose
first_leads last interval p q = sym (rule_decides None last interval p q)

pub ahead_leads : (leader : Leader) (last : Bool) (interval : Leader) → last ≡ true → (interval.load ≡ 0 → ⊥) → leader_ahead interval leader ≡ true
    → Some interval ≡ considered (Some leader) last interval
unfolding goes_ahead choose
ahead_leads leader last interval p q r = sym (rule_decides (Some leader) last interval p q ∙ rw r refl)

pub behind_loses : (leader : Leader) (last : Bool) (interval : Leader) → last ≡ true → (interval.load ≡ 0 → ⊥) → leader_ahead interval leader ≡ false
    → Some leader ≡ considered (Some leader) last interval
unfolding goes_ahead choose
behind_loses leader last interval p q r = sym (rule_decides (Some leader) last interval p q ∙ rw r refl)

-- what is considered is small
pub considered_small : (best : Option Leader) (last : Bool) (interval : Leader) → IfSome best Small → Small interval → IfSome (considered best last interval) Small
unfolding considered
considered_small best last interval b s = go (last && (ltb 0 interval.load && goes_ahead interval best))
  where
    go : (t : Bool) → IfSome (choose t (Some interval) best) Small
    go true = unfold choose in s
    go false = unfold choose in b

-- ## The sweep

-- the sweep has come to number j of the row
pub record SweptSoFar (due : ℕ → Due) (left : ℕ → Left) (s base : ℕ) (best leader : Option Leader) (load j : ℕ) : Type 0 where
  pub leads : leader ≡ swept due left s base best j
  pub small : IfSome leader Small
  pub load_is : load ≡ due_to due left s j
  pub load_most : load ≤ j * 65535

pub swept_first : (due : ℕ → Due) (left : ℕ → Left) (s base : ℕ) (best : Option Leader) → IfSome best Small → SweptSoFar due left s base best best 0 0
swept_first due left s base best h =
    record { leads = unfold swept in refl; small = h; load_is = unfold due_to sum in refl; load_most = omega arith }

-- what stands at no place
abbrev nobody : Due
nobody = record { packet = 0; arrival = 0; arrival_point = 0; deadline = 0; deadline_point = 0; last = false }

-- before the first of the front that arrives from s on, all arrive before s
pub front_early : (row : List Due) (count s : ℕ) (r : Option ℕ) → count ≤ length row
    → MatchOption r (AllWithin (λ (due : Due). due.arrival < s) (take count row) 0 (length (take count row)))
    (λ i. (i < length (take count row)) × HoldsAt (λ (due : Due). s ≤ due.arrival) (take count row) i × AllWithin (λ (due : Due). due.arrival < s) (take count row) 0 i)
    → (j : ℕ) → j < unwrap_or r count → (due_at row j).arrival < s
front_early row count s None h a j p =
    let e = get_or-take count row j nobody p in
    subst (λ (due : Due). due.arrival < s) e (a j nobody (omega arith) (omega (arith, p, length-take-le count row h)))
front_early row count s (Some i) h a j p =
    let e = get_or-take count row j nobody (omega (arith, p, a.0, length-take-le count row h)) in
    subst (λ (due : Due). due.arrival < s) e (a.2 j nobody (omega arith) p)

-- what arrives before s does not count, and adds nothing to a load of 0
early_counts_nothing : (s from weight : ℕ) → from < s → 0 ≡ counted_from s from weight
unfolding counted_from only_if
early_counts_nothing s from weight h = rw (lt-leb s from h) refl

early_adds_nothing : (due : ℕ → Due) (left : ℕ → Left) (s j : ℕ) → 0 ≡ due_to due left s j → (due j).arrival < s → 0 ≡ due_to due left s (suc j)
unfolding due_to sum
early_adds_nothing due left s j p h = ap₂ ◌+◌ p (early_counts_nothing s (due j).arrival (left j).bytes h)

early_leaves : (due : ℕ → Due) (left : ℕ → Left) (s base : ℕ) (best : Option Leader) (j : ℕ) → 0 ≡ due_to due left s (suc j)
    → swept due left s base best j ≡ swept due left s base best (suc j)
unfolding swept
early_leaves due left s base best j p = empty_loses (swept due left s base best j) (due j).last _ (sym p)

-- so a front of the row that arrives before s leaves the leader as it was
pub swept_early : (due : ℕ → Due) (left : ℕ → Left) (s base : ℕ) (best : Option Leader) (j : ℕ) → ((k : ℕ) → k < j → (due k).arrival < s) → IfSome best Small
    → SweptSoFar due left s base best best 0 j
swept_early due left s base best zero h b = swept_first due left s base best b
swept_early due left s base best (suc j) h b =
    let t = swept_early due left s base best j (λ k p. h k (omega (arith, p))) b in
    let none = early_adds_nothing due left s j t.load_is (h j (omega arith)) in
    record { leads = t.leads ∙ early_leaves due left s base best j none; small = b; load_is = none; load_most = omega arith }

-- what is counted without a branch: above 2^32 stands 1 from s on, and 0 before
pub counted_so : (s from weight : ℕ) → s < 2 ^ 32 → from < 2 ^ 32 → (from + 2 ^ 32 - s) / 2 ^ 32 * weight ≡ counted_from s from weight
unfolding counted_from
counted_so s from weight h g = go (dec_lt from s)
  where
    go : Dec (from < s) → (from + 2 ^ 32 - s) / 2 ^ 32 * weight ≡ only_if (leb s from) weight
    go (yes p) =
        let q : (from + 2 ^ 32 - s) / 2 ^ 32 ≡ 0 = omega (arith, h, g, p) in
        ap (λ (k : ℕ). k * weight) q ∙ rw (lt-leb s from p) (unfold only_if in omega arith)
    go (no p) =
        let q : (from + 2 ^ 32 - s) / 2 ^ 32 ≡ 1 = omega (arith, h, g, p) in
        ap (λ (k : ℕ). k * weight) q ∙ rw (le-leb s from (omega (arith, p))) (unfold only_if in omega arith)

-- a load with one more in it is within the bytes of so many packets
pub load_fits : (due : ℕ → Due) (left : ℕ → Left) (s base : ℕ) (best leader : Option Leader) (load j more : ℕ)
    → SweptSoFar due left s base best leader load j → more ≡ counted_from s (due j).arrival (left j).bytes
    → (left j).bytes ≤ 65535 → load + more ≤ (j + 1) * 65535
unfolding counted_from
load_fits due left s base best leader load j more t m d =
    omega (arith, t.load_most, m, d, only_if_most (leb s (due j).arrival) (left j).bytes)

-- one more in the row
pub swept_next : (due : ℕ → Due) (left : ℕ → Left) (s base : ℕ) (best leader : Option Leader) (load j more len : ℕ) (leader' : Option Leader)
    → SweptSoFar due left s base best leader load j → more ≡ counted_from s (due j).arrival (left j).bytes
    → (left j).bytes ≤ 65535 → len ≡ (left j).seconds - base → Small (record { start = s; end = (due j).deadline; load = load + more; len = len })
    → leader' ≡ considered leader (due j).last (record { start = s; end = (due j).deadline; load = load + more; len = len })
    → SweptSoFar due left s base best leader' (load + more) (j + 1)
swept_next due left s base best leader load j more len leader' t m d l h c =
    rw add-one
    (record {
      leads = c ∙ (unfold swept in (λ i. considered (t.leads i) (due j).last (record { start = s; end = (due j).deadline; load = total i; len = l i })));
      small = rw c (considered_small leader (due j).last _ t.small h);
      load_is = total;
      load_most = rw add-one at (load_fits due left s base best leader load j more t m d);
    })
  where
    total : load + more ≡ due_to due left s (suc j)
    total = unfold due_to sum in ap₂ ◌+◌ t.load_is m

-- one arrival more
pub led_next : (count : ℕ) (from base : ℕ → ℕ) (due : ℕ → Due) (left : ℕ → Left) (i : ℕ) (leader leader' : Option Leader)
    → leader ≡ led count from base due left i → leader' ≡ swept due left (from i) (base i) leader count
    → leader' ≡ led count from base due left (i + 1)
led_next count from base due left i leader leader' p q =
    rw add-one (unfold led in (q ∙ ap (λ (x : Option Leader). swept due left (from i) (base i) x count) p))
