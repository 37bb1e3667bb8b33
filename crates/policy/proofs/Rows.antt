-- Rows of three numbers, written one after the other from the front of what was lent. Assumes nothing.
use Prim.Native.Nat.{ℕ, zero, suc, ◌+◌, ◌*◌, ◌<◌, ◌≤◌}
use mathlib.Core.Path.{◌≡◌, refl, sym, ap, ap₂, subst, ◌∙◌}
use mathlib.Core.List.{List, [], ◌∷◌, ◌++◌}
use native.Mathlib.Omega.{arith}
use native.Mathlib.Numerals.{add-one, add-two, add-three}
use lib.ListN.{length, get_or, drop, set, length-append, length-drop}
use lib.Seq.{drop-cons}
use Rattle.policy.specs.Windows.{Given}
use Rattle.policy.specs.Answer.{epoch_numbers, epoch_rows, shown_n, shown_d, overwritten}

-- three numbers in a row
row_set : (xs : List ℕ) (y₀ y₁ y₂ : ℕ) (ys : List ℕ) (u v w : ℕ)
    → set (set (set (xs ++ y₀ ∷ y₁ ∷ y₂ ∷ ys) (length xs) u) (suc (length xs)) v) (suc (suc (length xs))) w ≡ (xs ++ (u ∷ v ∷ w ∷ [])) ++ ys
row_set [] y₀ y₁ y₂ ys u v w = refl
row_set (x ∷ xs) y₀ y₁ y₂ ys u v w = ap (λ (l : List ℕ). x ∷ l) (row_set xs y₀ y₁ y₂ ys u v w)

row_written : (xs l : List ℕ) (a u v w : ℕ) → length xs ≡ a → a + 3 ≤ length l
    → set (set (set (xs ++ drop a l) a u) (a + 1) v) (a + 2) w ≡ (xs ++ (u ∷ v ∷ w ∷ [])) ++ drop (a + 3) l
row_written xs l a u v w e h =
    rw (add-one, add-two, add-three)
    (ap (λ (r : List ℕ). set (set (set (xs ++ r) a u) (suc a) v) (suc (suc a)) w) three ∙
    subst (λ (b : ℕ). set (set (set (xs ++ get_or l a 0 ∷ get_or l (suc a) 0 ∷ get_or l (suc (suc a)) 0 ∷ drop (suc (suc (suc a))) l) b u) (suc b) v) (suc (suc b)) w
    ≡ (xs ++ (u ∷ v ∷ w ∷ [])) ++ drop (suc (suc (suc a))) l) e
    (row_set xs (get_or l a 0) (get_or l (suc a) 0) (get_or l (suc (suc a)) 0) (drop (suc (suc (suc a))) l) u v w))
  where
    three : drop a l ≡ get_or l a 0 ∷ get_or l (suc a) 0 ∷ get_or l (suc (suc a)) 0 ∷ drop (suc (suc (suc a))) l
    three =
        drop-cons l a 0 (omega arith) ∙
        ap (λ (r : List ℕ). get_or l a 0 ∷ r) (drop-cons l (suc a) 0 (omega arith) ∙
        ap (λ (r : List ℕ). get_or l (suc a) 0 ∷ r) (drop-cons l (suc (suc a)) 0 (omega arith)))

-- three numbers a row
pub rows_length : (points : List ℕ) (given : ℕ → Given) (k : ℕ) → length (epoch_rows points given k) ≡ epoch_numbers * k
unfolding epoch_rows
rows_length points given zero = refl
rows_length points given (suc k) =
    length-append (epoch_rows points given k) (get_or points k 0 ∷ shown_n (given k) ∷ shown_d (given k) ∷ []) ∙ omega (arith, rows_length points given k)

-- the rows of the first k epochs are written
pub record RowsSoFar (points : List ℕ) (given : ℕ → Given) (lent rates : List ℕ) (k : ℕ) : Type 0 where
  pub is : rates ≡ epoch_rows points given k ++ drop (epoch_numbers * k) lent

pub rows_first : (points : List ℕ) (given : ℕ → Given) (lent : List ℕ) → RowsSoFar points given lent lent 0
unfolding epoch_rows
rows_first points given lent = record { is = refl }

-- the length stays
pub rows_long : (points : List ℕ) (given : ℕ → Given) (lent rates : List ℕ) (k : ℕ) → RowsSoFar points given lent rates k → epoch_numbers * k ≤ length lent
    → length rates ≡ length lent
rows_long points given lent rates k s h =
    ap length s.is ∙ length-append (epoch_rows points given k) (drop (epoch_numbers * k) lent) ∙
    omega (arith, rows_length points given k, length-drop (epoch_numbers * k) lent)

-- one row more
pub rows_next : (points : List ℕ) (given : ℕ → Given) (lent rates : List ℕ) (k v w : ℕ) → RowsSoFar points given lent rates k
    → epoch_numbers * (k + 1) ≤ length lent → v ≡ shown_n (given k) → w ≡ shown_d (given k)
    → RowsSoFar points given lent (set (set (set rates (epoch_numbers * k) (get_or points k 0)) (epoch_numbers * k + 1) v) (epoch_numbers * k + 2) w) (k + 1)
rows_next points given lent rates k v w s h p q =
    record {
      is =
          ap (λ (l : List ℕ). set (set (set l at (get_or points k 0)) (at + 1) v) (at + 2) w) s.is ∙
          row_written (epoch_rows points given k) lent at (get_or points k 0) v w (rows_length points given k) (omega (arith, h)) ∙
          ap₂ (λ (l : List ℕ) (b : ℕ). l ++ drop b lent) more behind;
    }
  where
    at : ℕ
    at = epoch_numbers * k

    behind : at + 3 ≡ epoch_numbers * (k + 1)
    behind = omega arith

    more : epoch_rows points given k ++ (get_or points k 0 ∷ v ∷ w ∷ []) ≡ epoch_rows points given (k + 1)
    more = rw add-one (unfold epoch_rows in ap₂ (λ (x y : ℕ). epoch_rows points given k ++ (get_or points k 0 ∷ x ∷ y ∷ [])) p q)

-- all rows
pub rows_last : (points : List ℕ) (given : ℕ → Given) (lent rates : List ℕ) (epochs : ℕ) → RowsSoFar points given lent rates epochs
    → rates ≡ overwritten (epoch_rows points given epochs) lent
unfolding overwritten
rows_last points given lent rates epochs s = s.is ∙ ap (λ (a : ℕ). epoch_rows points given epochs ++ drop a lent) (sym (rows_length points given epochs))

-- rows go by the points and by what was given
pub rows_same : (points points' : List ℕ) (given given' : ℕ → Given) (k : ℕ) → ((i : ℕ) → i < k → get_or points i 0 ≡ get_or points' i 0)
    → ((i : ℕ) → i < k → given i ≡ given' i) → epoch_rows points given k ≡ epoch_rows points' given' k
unfolding epoch_rows
rows_same points points' given given' zero h g = refl
rows_same points points' given given' (suc k) h g =
    ap₂ (λ (x y : List ℕ). x ++ y) (rows_same points points' given given' k (λ i p. h i (omega arith)) (λ i p. g i (omega arith)))
    (ap₂ (λ (x : ℕ) (y : Given). x ∷ shown_n y ∷ shown_d y ∷ []) (h k (omega arith)) (g k (omega arith)))
