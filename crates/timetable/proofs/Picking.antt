-- The chain in code that picks: of the numbers below a bound that a test takes, the first one with the least key. It is the choice of the definitions. Assumes nothing.
use Prim.Native.Nat.{ℕ, zero, suc, ◌+◌, ◌<◌, ◌≤◌}
use mathlib.Core.Path.{◌≡◌, refl, sym, ap, subst, ◌∙◌}
use mathlib.Core.Bool.{Bool, true, false, cond, ◌&&◌}
use mathlib.Core.List.{List, [], ◌∷◌, map-id}
use native.Mathlib.Omega.{arith}
use native.Mathlib.Decide.{dec_le, ℕ_discrete}
use native.Mathlib.Numerals.{add-one}
use lib.Dec.{ltb}
use borrow.Author.Tests.{lt-ltb, le-ltb}
use denote.Param.Members.{Mut}
use denote.Ref.{Bor}
use Rattle.std.proofs.Common.{Option, Some, None, Ordering, Less, Equal, Greater}
use Rattle.std.specs.Fn.{CalledAt}
use Rattle.std.specs.List.{FoldsTo, filter, fold, range_with_len}
use Rattle.std.specs.Ordering.{nat_cmp, min_by_ordering}
use Rattle.std.specs.Iterator.{KeyTurn, PicksMinByKey}
use Rattle.std.proofs.iter.Yields.{gives_Drains}
use Rattle.std.proofs.lemmas.Cmp.{ranked}
use Rattle.std.proofs.lemmas.Iterator.{YieldsList}
use Rattle.policy.specs.Windows.{choose}
use Rattle.timetable.specs.Entries.{Choice, nobody, packet, sooner, earliest}
use Rattle.timetable.specs.Steps.{number_of}

-- the better of two: the second only where its key is less
better : (ℕ → ℕ) → ℕ → ℕ → ℕ
better key p x = min_by_ordering (nat_cmp (key p) (key x)) p x

-- .. and of what is picked so far and one more
add : (ℕ → ℕ) → Option ℕ → ℕ → Option ℕ
add key None x = Some x
add key (Some p) x = Some (better key p x)

-- ## The first of two

-- the first of two numbers stays, unless the second is less
least : (x y a b : ℕ) → min_by_ordering (nat_cmp x y) a b ≡ choose (ltb y x) b a
unfolding choose
least x y a b = go (dec_le x y)
  where
    go : Dec (x ≤ y) → min_by_ordering (nat_cmp x y) a b ≡ choose (ltb y x) b a
    go (yes h) = rw (le-ltb y x h) (stays (nat_cmp x y) refl)
      where
        stays : (o : Ordering) → nat_cmp x y ≡ o → min_by_ordering o a b ≡ a
        stays Less e = refl
        stays Equal e = refl
        stays Greater e = absurd (omega (arith, ranked x y Greater (sym e)))
    go (no h) = rw (lt-ltb y x (omega (arith, h))) (moves (nat_cmp x y) refl)
      where
        moves : (o : Ordering) → nat_cmp x y ≡ o → min_by_ordering o a b ≡ b
        moves Less e = absurd (omega (arith, h, ranked x y Less (sym e)))
        moves Equal e = absurd (omega (arith, h, ranked x y Equal (sym e)))
        moves Greater e = refl

-- ## Numbers in order

-- from n on, each above the one before it
Above : ℕ → List ℕ → Type 0
Above n [] = Unit {0}
Above n (x ∷ xs) = (n ≤ x) × Above (x + 1) xs

above_less : (m n : ℕ) (xs : List ℕ) → m ≤ n → Above n xs → Above m xs
unfolding Above
above_less m n [] h a = tt
above_less m n (x ∷ xs) h a = (omega (arith, a.0), a.1)

ascending : (test : ℕ → Bool) (n i : ℕ) → Above i (filter test (range_with_len i n))
unfolding Above
ascending test zero i = tt
ascending test (suc n) i = go (test i) (ascending test n (i + 1))
  where
    go : (a : Bool) → Above (i + 1) (filter test (range_with_len (i + 1) n)) → Above i (cond a (i ∷ filter test (range_with_len (i + 1) n)) (filter test (range_with_len (i + 1) n)))
    go true h = (omega arith, h)
    go false h = above_less i (i + 1) _ (omega arith) h

-- ## What the chain does

-- The calls of g need not give the key itself: what they give has to be in the keys' order, and of two numbers with one key it has to keep the lower.
module _ {S F : Type 0} (steps : S → Option ℕ → S → Type 0) (g : Mut F (Bor ℕ × Unit {0}) ℕ) (key : ℕ → ℕ) (f : F)
    (same : (x k : ℕ) (q : F) → CalledAt g f x k q → q ≡ f)
    (ties : (p x k l : ℕ) → p < x → key p ≡ key x → CalledAt g f p k f → CalledAt g f x l f → k ≤ l)
    (orders : (p x k l : ℕ) → key p < key x → CalledAt g f p k f → CalledAt g f x l f → k < l) where
  turn : (p x k l : ℕ) → p < x → CalledAt g f p k f → CalledAt g f x l f → min_by_ordering (nat_cmp k l) p x ≡ better key p x
  unfolding better
  turn p x k l h a b = least k l p x ∙ ap (λ (z : Bool). choose z x p) (go (dec_le (key p) (key x)) (ℕ_discrete (key p) (key x))) ∙ sym (least (key p) (key x) p x)
    where
      go : Dec (key p ≤ key x) → Dec (key p ≡ key x) → ltb l k ≡ ltb (key x) (key p)
      go (yes i) (yes e) = le-ltb l k (ties p x k l h e a b) ∙ sym (le-ltb (key x) (key p) i)
      go (yes i) (no e) = le-ltb l k (omega (arith, orders p x k l (omega (arith, i, e)) a b)) ∙ sym (le-ltb (key x) (key p) i)
      go (no i) d = lt-ltb l k (orders x p l k (omega (arith, i)) b a) ∙ sym (lt-ltb (key x) (key p) (omega (arith, i)))

  -- the best so far comes with what its call gave, and the numbers to come are above it
  called : (o : Ordering) (p x k l : ℕ) → CalledAt g f p k f → CalledAt g f x l f → CalledAt g f (min_by_ordering o p x) (min_by_ordering o k l) f
  called Less p x k l a b = a
  called Equal p x k l a b = a
  called Greater p x k l a b = b

  above : (o : Ordering) (p x : ℕ) (xs : List ℕ) → p < x → Above (x + 1) xs → Above (min_by_ordering o p x + 1) xs
  above Less p x xs h a = above_less (p + 1) (x + 1) xs (omega (arith, h)) a
  above Equal p x xs h a = above_less (p + 1) (x + 1) xs (omega (arith, h)) a
  above Greater p x xs h a = a

  folds : (xs : List ℕ) (p q : (F × ℕ) × ℕ) → p.0.0 ≡ f → CalledAt g f p.1 p.0.1 f → Above (p.1 + 1) xs
      → FoldsTo {P = (F × ℕ) × ℕ} (KeyTurn min_by_ordering min_by_ordering g nat_cmp) p xs q → Some q.1 ≡ fold (add key) (Some p.1) xs
  unfolding add Above
  folds [] p q e a u h = ap (λ (z : (F × ℕ) × ℕ). Some z.1) (sym h)
  folds (x ∷ xs) p q e a u h =
      let j = h.0 in
      let t = h.1 in
      let c : CalledAt g f x t.0 j.0.0 = subst (λ (z : F). CalledAt g z x t.0 j.0.0) e t.2 in
      let stays : j.0.0 ≡ f = same x t.0 j.0.0 c in
      let b : CalledAt g f x t.0 f = subst (λ (z : F). CalledAt g f x t.0 z) stays c in
      let below : p.1 < x = omega (arith, u.0) in
      let best : CalledAt g f j.1 j.0.1 f =
      subst (λ (z : ℕ). CalledAt g f z j.0.1 f) (sym t.5) (subst (λ (z : ℕ). CalledAt g f (min_by_ordering t.1 p.1 x) z f) (sym t.4) (called t.1 p.1 x p.0.1 t.0 a b)) in
      let rest : Above (j.1 + 1) xs = subst (λ (z : ℕ). Above (z + 1) xs) (sym t.5) (above t.1 p.1 x xs below u.1) in
      let picked_is : j.1 ≡ better key p.1 x = t.5 ∙ ap (λ (z : Ordering). min_by_ordering z p.1 x) (sym t.3) ∙ turn p.1 x p.0.1 t.0 below a b in
      folds xs j q stays best rest h.2 ∙ ap (λ (z : ℕ). fold (add key) (Some z) xs) picked_is

  picks : (s : S) (r : Option ℕ) (all : List ℕ) → PicksMinByKey steps g nat_cmp s f r → YieldsList steps (λ x. x) s all → Above 0 all → r ≡ fold (add key) None all
  unfolding add Above
  picks s None all h e u = ap (fold (add key) None) (gives_Drains steps (λ x. x) [] all s e.runs h)
  picks s (Some y) all h e u =
      let all_is : (h.0 ∷ h.1) ≡ all = sym (map-id (h.0 ∷ h.1)) ∙ gives_Drains steps (λ x. x) (h.0 ∷ h.1) all s e.runs h.5 in
      let stays : h.3 ≡ f = same h.0 h.2 h.3 h.6 in
      let rest : Above 0 (h.0 ∷ h.1) = subst (Above 0) (sym all_is) u in
      folds h.1 ((h.3, h.2), h.0) (h.4, y) stays (subst (λ (z : F). CalledAt g f h.0 h.2 z) stays h.6) rest.1 h.7 ∙ ap (fold (add key) None) all_is

-- ## What the definitions say

module _ (test : ℕ → Bool) (key : ℕ → ℕ) where
  one_more : (i : ℕ) (c : Choice) → number_of (sooner test key i c) ≡ cond (test i) (add key (number_of c) i) (number_of c)
  unfolding sooner number_of add better choose
  one_more i nobody = go (test i)
    where
      go : (a : Bool) → number_of (choose a (packet i) nobody) ≡ cond a (Some i) None
      go true = refl
      go false = refl
  one_more i (packet j) = rw (least (key j) (key i) j i) (go (test i) (ltb (key i) (key j)))
    where
      go : (a b : Bool) → number_of (choose (a && b) (packet i) (packet j)) ≡ cond a (Some (choose b i j)) (Some j)
      go true true = refl
      go true false = refl
      go false b = refl

  picked : (n i : ℕ) → fold (add key) (number_of (earliest test key i)) (filter test (range_with_len i n)) ≡ number_of (earliest test key (i + n))
  unfolding earliest
  picked zero i = ap (λ (k : ℕ). number_of (earliest test key k)) (omega arith)
  picked (suc n) i =
      go (test i) refl ∙ picked n (i + 1) ∙ ap (λ (k : ℕ). number_of (earliest test key k)) (omega arith)
    where
      here : (a : Bool) → test i ≡ a → cond a (add key (number_of (earliest test key i)) i) (number_of (earliest test key i)) ≡ number_of (earliest test key (i + 1))
      here a e = rw add-one (rw (← e) (sym (one_more i (earliest test key i))))

      go : (a : Bool) → test i ≡ a → fold (add key) (number_of (earliest test key i)) (cond a (i ∷ filter test (range_with_len (i + 1) n)) (filter test (range_with_len (i + 1) n)))
          ≡ fold (add key) (number_of (earliest test key (i + 1))) (filter test (range_with_len (i + 1) n))
      go true e = ap (λ (o : Option ℕ). fold (add key) o (filter test (range_with_len (i + 1) n))) (here true e)
      go false e = ap (λ (o : Option ℕ). fold (add key) o (filter test (range_with_len (i + 1) n))) (here false e)

-- ## Both

pub picks_earliest : {S F : Type 0} (steps : S → Option ℕ → S → Type 0) (g : Mut F (Bor ℕ × Unit {0}) ℕ) (test : ℕ → Bool) (key : ℕ → ℕ) (f : F)
    → ((x k : ℕ) (q : F) → CalledAt g f x k q → q ≡ f)
    → ((p x k l : ℕ) → p < x → key p ≡ key x → CalledAt g f p k f → CalledAt g f x l f → k ≤ l)
    → ((p x k l : ℕ) → key p < key x → CalledAt g f p k f → CalledAt g f x l f → k < l)
    → (s : S) (r : Option ℕ) (n : ℕ) → PicksMinByKey steps g nat_cmp s f r → YieldsList steps (λ x. x) s (filter test (range_with_len 0 n)) → r ≡ number_of (earliest test key n)
picks_earliest steps g test key f same ties orders s r n h e =
    picks steps g key f same ties orders s r _ h e (ascending test n 0) ∙ ap (λ (o : Option ℕ). fold (add key) o (filter test (range_with_len 0 n))) none ∙ picked test key n 0 ∙
    ap (λ (k : ℕ). number_of (earliest test key k)) (omega arith)
  where
    none : None ≡ number_of (earliest test key 0)
    none = unfold earliest number_of in refl
