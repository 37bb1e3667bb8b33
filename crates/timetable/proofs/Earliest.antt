-- The choice of a packet: of those that count, the one with the earliest deadline, and of equals the lowest number. By the numbers looked at. Assumes nothing.
use Prim.Native.Nat.{ℕ, zero, suc, ◌<◌, ◌≤◌}
use mathlib.Core.Path.{◌≡◌, refl, sym, subst}
use mathlib.Core.Bool.{Bool, true, false, ◌&&◌}
use native.Mathlib.Omega.{arith}
use native.Mathlib.Decide.{ℕ_discrete}
use lib.Dec.{ltb}
use borrow.Author.Tests.{ltb-true, ltb-false}
use Rattle.policy.specs.Windows.{choose}
use Rattle.policy.proofs.Left.{not_both_ways}
use Rattle.timetable.specs.Entries.{Choice, nobody, packet, sooner, earliest}

-- number i counts, and among the first n no other that counts has an earlier deadline, nor an equal one with a lower number
pub record Chosen (among : ℕ → Bool) (deadline : ℕ → ℕ) (n i : ℕ) : Type 0 where
  pub below : i < n
  pub counts : among i ≡ true
  pub first : (j : ℕ) → j < n → among j ≡ true → deadline i ≤ deadline j
  pub lowest : (j : ℕ) → j < i → among j ≡ true → deadline i < deadline j

-- what a choice among the first n says
pub data Says (among : ℕ → Bool) (deadline : ℕ → ℕ) (n : ℕ) : Choice → Type 0 where
  none_counts : ((j : ℕ) → j < n → among j ≡ false) → Says among deadline n nobody
  chosen : (i : ℕ) → Chosen among deadline n i → Says among deadline n (packet i)

module _ (among : ℕ → Bool) (deadline : ℕ → ℕ) where
  -- what holds below n and at n holds below n + 1
  up : (P : ℕ → Type 0) (n : ℕ) → ((j : ℕ) → j < n → P j) → P n → (j : ℕ) → j < suc n → P j
  up P n h p j q = go (ℕ_discrete j n)
    where
      go : Dec (j ≡ n) → P j
      go (yes e) = subst P (sym e) p
      go (no e) = h j (omega (arith, e))

  one_more : (n : ℕ) (c : Choice) → Says among deadline n c → Says among deadline (suc n) (sooner among deadline n c)
  unfolding sooner choose
  one_more n _ (none_counts h) = go (among n) refl
    where
      go : (b : Bool) → among n ≡ b → Says among deadline (suc n) (choose b (packet n) nobody)
      go false p = none_counts (up (λ j. among j ≡ false) n h p)
      go true p =
          chosen n
          record {
            below = omega arith;
            counts = p;
            first = up (λ j. among j ≡ true → deadline n ≤ deadline j) n (λ j q r. absurd (not_both_ways r (h j q))) (λ r. omega arith);
            lowest = λ j q r. absurd (not_both_ways r (h j q));
          }
  one_more n _ (chosen i c) = go (among n) refl (ltb (deadline n) (deadline i)) refl
    where
      go : (a : Bool) → among n ≡ a → (b : Bool) → ltb (deadline n) (deadline i) ≡ b → Says among deadline (suc n) (choose (a && b) (packet n) (packet i))
      go true p true q =
          let e : deadline n < deadline i = ltb-true _ _ q in
          chosen n
          record {
            below = omega arith;
            counts = p;
            first = up (λ j. among j ≡ true → deadline n ≤ deadline j) n (λ j g r. omega (arith, c.first j g r)) (λ r. omega arith);
            lowest = λ j g r. omega (arith, c.first j g r);
          }
      go true p false q =
          chosen i
          record {
            below = omega (arith, c.below);
            counts = c.counts;
            first = up (λ j. among j ≡ true → deadline i ≤ deadline j) n c.first (λ r. ltb-false (deadline n) (deadline i) q);
            lowest = c.lowest;
          }
      go false p b q =
          chosen i
          record {
            below = omega (arith, c.below);
            counts = c.counts;
            first = up (λ j. among j ≡ true → deadline i ≤ deadline j) n c.first (λ r. absurd (not_both_ways r p));
            lowest = c.lowest;
          }

  pub earliest_says : (n : ℕ) → Says among deadline n (earliest among deadline n)
  unfolding earliest
  earliest_says zero = none_counts (λ j q. absurd (omega arith))
  earliest_says (suc n) = one_more n (earliest among deadline n) (earliest_says n)
