-- What a round adds: to the weight that carries a fraction, to the weight times price, to the assigned. Each is a fact about a single index, by cases
-- on whether it was unassigned and lies inside, lifted by a law of sums. Assumes nothing.
use Prim.Native.Nat.{ℕ, zero, suc, ◌+◌, ◌*◌, ◌<◌, ◌≤◌, min, max}
use mathlib.Core.Path.{◌≡◌, refl, sym, ap, ap₂, ◌∙◌}
use mathlib.Core.Bool.{Bool, true, false, not, ◌&&◌, and-true}
use native.Mathlib.Omega.{arith}
use lib.Dec.{eqb}
use borrow.Author.Tests.{eqb-true, eq-eqb}
use Rattle.policy.specs.Windows.{Windows, Given, none, rate, unassigned, inside, only_if, left, choose, assign, sum}
use Rattle.policy.specs.Carried.{carries, carried, carried_in_all, price_of, priced}
use Rattle.policy.proofs.Sums.{sum_eq, sum_add, sum_scale, sum_at}
use Rattle.policy.proofs.Left.{both, both_true, not_both_ways, inside_true, inside_is, only_if_le, assign_left}

-- ## What is given stays

-- what was inside and unassigned has the new rate
pub assign_new : (w : Windows) (s e n d : ℕ) (g : ℕ → Given) (i : ℕ) → unassigned (g i) ≡ true → inside w s e i ≡ true
    → assign w s e n d g i ≡ rate n d
unfolding assign
assign_new w s e n d g i u h = go (unassigned (g i) && inside w s e i) (both_true u h)
  where
    go : (b : Bool) → b ≡ true → choose b (rate n d) (g i) ≡ rate n d
    go true p = unfold choose in refl
    go false p = absurd (not_both_ways p refl)

-- what has a rate keeps it
pub assign_old : (w : Windows) (s e n d : ℕ) (g : ℕ → Given) (i : ℕ) → unassigned (g i) ≡ false → assign w s e n d g i ≡ g i
unfolding assign
assign_old w s e n d g i u = go (unassigned (g i)) (inside w s e i) u
  where
    go : (a b : Bool) → a ≡ false → choose (a && b) (rate n d) (g i) ≡ g i
    go true b p = absurd (not_both_ways refl p)
    go false b p = unfold choose in refl

-- what lies outside is as it was
pub assign_out : (w : Windows) (s e n d : ℕ) (g : ℕ → Given) (i : ℕ) → inside w s e i ≡ false → assign w s e n d g i ≡ g i
unfolding assign
assign_out w s e n d g i u = go (unassigned (g i)) (inside w s e i) u
  where
    go : (a b : Bool) → b ≡ false → choose (a && b) (rate n d) (g i) ≡ g i
    go a true p = absurd (not_both_ways refl p)
    go true false p = unfold choose in refl
    go false false p = unfold choose in refl

pub none_unassigned : (x : Given) (n d : ℕ) → x ≡ rate n d → unassigned x ≡ false
unfolding unassigned
none_unassigned x n d p = ap unassigned p

-- ## The same fraction

pub carries_same : (n' d' n d : ℕ) → carries (rate n' d') n d ≡ true → (n' ≡ n) × (d' ≡ d)
unfolding carries
carries_same n' d' n d h = let b = both (eqb n' n) (eqb d' d) h in (eqb-true n' n b.0, eqb-true d' d b.1)

pub carries_is : (x : Given) (n d : ℕ) → carries x n d ≡ true → x ≡ rate n d
carries_is none n d h = absurd (not_both_ways h (unfold carries in refl))
carries_is (rate n' d') n d h = let b = carries_same n' d' n d h in rw (b.0, b.1) refl

pub is_carries : (x : Given) (n d : ℕ) → x ≡ rate n d → carries x n d ≡ true
unfolding carries
is_carries x n d h = ap (λ (y : Given). carries y n d) h ∙ both_true (eq-eqb n n refl) (eq-eqb d d refl)

-- two tests that hold together are equal
same_truth : (a b : Bool) → (a ≡ true → b ≡ true) → (b ≡ true → a ≡ true) → a ≡ b
same_truth true b p q = sym (p refl)
same_truth false true p q = q refl
same_truth false false p q = refl

-- inside two intervals is inside what they share
inside_shared : (w : Windows) (s e s' e' i : ℕ) → inside w (max s s') (min e e') i ≡ (inside w s e i && inside w s' e' i)
inside_shared w s e s' e' i =
    same_truth (inside w (max s s') (min e e') i) (inside w s e i && inside w s' e' i)
    (λ h. let b = inside_true w (max s s') (min e e') i h in
    both_true (inside_is w s e i (omega (arith, b)) (omega (arith, b))) (inside_is w s' e' i (omega (arith, b)) (omega (arith, b))))
    (λ h. let b = both (inside w s e i) (inside w s' e' i) h in
    let x = inside_true w s e i b.0 in
    let y = inside_true w s' e' i b.1 in
    inside_is w (max s s') (min e e') i (omega (arith, x, y)) (omega (arith, x, y)))

-- ## A test that is the same for all

only_if_sum : (t : Bool) (n : ℕ) (f : ℕ → ℕ) → sum n (λ i. only_if t (f i)) ≡ only_if t (sum n f)
unfolding only_if sum
only_if_sum t zero f = go t
  where
    go : (t : Bool) → 0 ≡ only_if t 0
    go true = refl
    go false = refl
only_if_sum t (suc n) f = rw (only_if_sum t n f) (go t)
  where
    go : (t : Bool) → only_if t (sum n f) + only_if t (f n) ≡ only_if t (sum n f + f n)
    go true = refl
    go false = refl

-- ## What a round adds

one_carried : (x r : Given) (a b t : Bool) (n d v : ℕ) → carries r n d ≡ t
    → only_if (carries (choose (unassigned x && a) r x) n d && b) v
    ≡ only_if (carries x n d && b) v + only_if t (only_if (unassigned x && (a && b)) v)
unfolding carries choose unassigned only_if
one_carried none r true true true n d v p = rw p (omega arith)
one_carried none r true true false n d v p = rw p (omega arith)
one_carried none r true false true n d v p = go (carries r n d)
  where
    go : (c : Bool) → only_if (c && false) v ≡ 0 + 0
    go true = refl
    go false = refl
one_carried none r true false false n d v p = go (carries r n d)
  where
    go : (c : Bool) → only_if (c && false) v ≡ 0 + 0
    go true = refl
    go false = refl
one_carried none r false b true n d v p = refl
one_carried none r false b false n d v p = refl
one_carried (rate n₀ d₀) r a b true n d v p = omega arith
one_carried (rate n₀ d₀) r a b false n d v p = omega arith

one_priced : (price : ℕ → ℕ → ℕ) (x : Given) (a : Bool) (n d v : ℕ)
    → v * price_of price (choose (unassigned x && a) (rate n d) x) ≡ v * price_of price x + only_if (unassigned x && a) v * price n d
unfolding price_of choose unassigned only_if
one_priced price none true n d v = omega arith
one_priced price none false n d v = omega arith
one_priced price (rate n' d') true n d v = omega arith
one_priced price (rate n' d') false n d v = omega arith

module _ (w : Windows) (g : ℕ → Given) (s e n' d' : ℕ) where
  -- what carries a fraction inside an interval
  pub carried_after : (n d s₁ e₁ : ℕ) → carried w (assign w s e n' d' g) n d s₁ e₁
      ≡ carried w g n d s₁ e₁ + only_if (carries (rate n' d') n d) (left w g (max s s₁) (min e e₁))
  unfolding carried left assign
  carried_after n d s₁ e₁ =
      sum_eq w.count _ _ (λ i h.
      one_carried (g i) (rate n' d') (inside w s e i) (inside w s₁ e₁ i) (carries (rate n' d') n d) n d (w.weight i) refl) ∙
      sum_add w.count (λ i. only_if (carries (g i) n d && inside w s₁ e₁ i) (w.weight i))
      (λ i. only_if (carries (rate n' d') n d) (only_if (unassigned (g i) && (inside w s e i && inside w s₁ e₁ i)) (w.weight i))) ∙
      ap (λ (x : ℕ). sum w.count (λ i. only_if (carries (g i) n d && inside w s₁ e₁ i) (w.weight i)) + x)
      (only_if_sum (carries (rate n' d') n d) w.count (λ i. only_if (unassigned (g i) && (inside w s e i && inside w s₁ e₁ i)) (w.weight i)) ∙
      ap (only_if (carries (rate n' d') n d))
      (sum_eq w.count _ _ (λ i h. ap (λ (b : Bool). only_if (unassigned (g i) && b) (w.weight i)) (sym (inside_shared w s e s₁ e₁ i)))))

  -- what carries a fraction at all
  pub carried_in_all_after : (n d : ℕ) → carried_in_all w (assign w s e n' d' g) n d
      ≡ carried_in_all w g n d + only_if (carries (rate n' d') n d) (left w g s e)
  unfolding carried_in_all left assign
  carried_in_all_after n d =
      sum_eq w.count _ _ (λ i h.
      always (carries (choose (unassigned (g i) && inside w s e i) (rate n' d') (g i)) n d) (w.weight i) ∙
      one_carried (g i) (rate n' d') (inside w s e i) true (carries (rate n' d') n d) n d (w.weight i) refl ∙
      ap₂ (λ (x y : ℕ). x + y)
      (sym (always (carries (g i) n d) (w.weight i)))
      (ap (λ (b : Bool). only_if (carries (rate n' d') n d) (only_if (unassigned (g i) && b) (w.weight i))) (and-true (inside w s e i)))) ∙
      sum_add w.count (λ i. only_if (carries (g i) n d) (w.weight i))
      (λ i. only_if (carries (rate n' d') n d) (only_if (unassigned (g i) && inside w s e i) (w.weight i))) ∙
      ap (λ (x : ℕ). sum w.count (λ i. only_if (carries (g i) n d) (w.weight i)) + x)
      (only_if_sum (carries (rate n' d') n d) w.count (λ i. only_if (unassigned (g i) && inside w s e i) (w.weight i)))
    where
      always : (b : Bool) (v : ℕ) → only_if b v ≡ only_if (b && true) v
      always b v = ap (λ (c : Bool). only_if c v) (sym (and-true b))

  -- what is priced
  pub priced_after : (price : ℕ → ℕ → ℕ) → priced price w (assign w s e n' d' g) ≡ priced price w g + left w g s e * price n' d'
  unfolding priced left assign
  priced_after price =
      sum_eq w.count _ (λ i. w.weight i * price_of price (g i) + only_if (unassigned (g i) && inside w s e i) (w.weight i) * price n' d')
      (λ i h. one_priced price (g i) (inside w s e i) n' d' (w.weight i)) ∙
      sum_add w.count _ _ ∙
      ap (λ (x : ℕ). sum w.count (λ i. w.weight i * price_of price (g i)) + x) (sum_scale w.count _ (price n' d'))

-- ## What is unassigned

-- how many have no rate yet
pub remaining : Windows → (ℕ → Given) → ℕ
remaining w g = sum w.count (λ i. only_if (unassigned (g i)) 1)

-- at most all remain
count_most : (g : ℕ → Given) (n : ℕ) → sum n (λ i. only_if (unassigned (g i)) 1) ≤ n
unfolding sum
count_most g zero = omega arith
count_most g (suc n) = omega (arith, count_most g n, one (unassigned (g n)))
  where
    one : (b : Bool) → only_if b 1 ≤ 1
    one true = unfold only_if in omega arith
    one false = unfold only_if in omega arith

pub remaining_most : (w : Windows) (g : ℕ → Given) → 0 + remaining w g ≤ w.count
unfolding remaining
remaining_most w g = omega (arith, count_most g w.count)

-- none remains: each has a rate
pub remaining_none : (w : Windows) (g : ℕ → Given) → remaining w g ≡ 0 → (i : ℕ) → i < w.count → unassigned (g i) ≡ false
unfolding remaining
remaining_none w g h i p = go (unassigned (g i)) refl
  where
    go : (b : Bool) → unassigned (g i) ≡ b → b ≡ false
    go false q = refl
    go true q =
        absurd (omega (
          arith,
          h,
          sum_at w.count (λ i. only_if (unassigned (g i)) 1) i p,
          ap (λ (b : Bool). only_if b 1) q,
          one,
        ))
      where
        one : only_if true 1 ≡ 1
        one = unfold only_if in refl

-- a round that finds one unassigned leaves fewer
pub remaining_fewer : (w : Windows) (g : ℕ → Given) (s e n d i : ℕ) → i < w.count → unassigned (g i) ≡ true → inside w s e i ≡ true
    → remaining w (assign w s e n d g) < remaining w g
unfolding remaining
remaining_fewer w g s e n d i p u h =
    omega (
      arith,
      sum_eq w.count (λ i. only_if (unassigned (g i)) 1)
          (λ i. only_if (unassigned (assign w s e n d g i)) 1 + only_if (unassigned (g i) && inside w s e i) 1) (λ j q. one j),
      sum_add w.count (λ i. only_if (unassigned (assign w s e n d g i)) 1) (λ i. only_if (unassigned (g i) && inside w s e i) 1),
      sum_at w.count (λ i. only_if (unassigned (g i) && inside w s e i) 1) i p,
      only_if_le true (unassigned (g i) && inside w s e i) 1 (λ _. both_true u h),
      it,
    )
  where
    it : only_if true 1 ≡ 1
    it = unfold only_if in refl

    cases : (a b : Bool) → only_if a 1 ≡ only_if (a && not b) 1 + only_if (a && b) 1
    cases true true = unfold only_if in refl
    cases true false = unfold only_if in refl
    cases false b = unfold only_if in refl

    one : (j : ℕ) → only_if (unassigned (g j)) 1 ≡ only_if (unassigned (assign w s e n d g j)) 1 + only_if (unassigned (g j) && inside w s e j) 1
    one j = rw (assign_left w s e n d g j) (cases (unassigned (g j)) (inside w s e j))
