-- Packets and epochs alike: each has a window of time and a weight, and is given a rate once (document 01, "Epochs and rates").
-- A packet's weight is its bytes on the air, an epoch's is its seconds. Times are seconds. Assumes nothing.
use Rattle.std.specs.Prelude.{ℕ, zero, suc, ◌+◌, Bool, true, false, ◌&&◌, leb}

-- f 0 + f 1 + .. + f (n - 1)
unfoldable pub sum : ℕ → (ℕ → ℕ) → ℕ
sum zero f = 0
sum (suc n) f = sum n f + f n

-- `count` things, each with a window [from, till) and a weight
pub record Windows : Type 0 where
  pub count : ℕ
  pub from : ℕ → ℕ
  pub till : ℕ → ℕ
  pub weight : ℕ → ℕ

-- what one of them is given: no rate yet, or the rate N/D (bytes per second)
pub data Given : Type 0 where
  none : Given
  rate : ℕ → ℕ → Given

-- it has no rate yet
unfoldable pub unassigned : Given → Bool
unassigned none = true
unassigned (rate n d) = false

-- the window of number i lies inside [s, e)
unfoldable pub inside : Windows → ℕ → ℕ → ℕ → Bool
inside w s e i = leb s (w.from i) && leb (w.till i) e

-- x where the test holds, else 0
unfoldable pub only_if : Bool → ℕ → ℕ
only_if true x = x
only_if false x = 0

-- the weight of those that have no rate yet and lie inside [s, e)
unfoldable pub left : Windows → (ℕ → Given) → ℕ → ℕ → ℕ
left w given s e = sum w.count (λ i. only_if (unassigned (given i) && inside w s e i) (w.weight i))

-- the first where the test holds, else the second
unfoldable pub choose : {A : Type 0} → Bool → A → A → A
choose true a b = a
choose false a b = b

-- the rate N/D goes to those that have none yet and lie inside [s, e)
unfoldable pub assign : Windows → ℕ → ℕ → ℕ → ℕ → (ℕ → Given) → ℕ → Given
assign w s e n d given i = choose (unassigned (given i) && inside w s e i) (rate n d) (given i)
