-- Fractions in lowest terms (document 01, "Figures and their units" and "Epochs and rates"). A fraction is two whole numbers, N over D.
-- Assumes nothing.
use Rattle.std.specs.Prelude.{ℕ, zero, suc, ◌/◌, ◌%◌, ◌≡◌}
use Rattle.std.specs.Int.{◌∣◌}

-- Euclid's rule: what divides a and b is what divides b and the remainder of a by b, and beside 0 it is a. The first number bounds the turns.
unfoldable pub euclid : ℕ → ℕ → ℕ → ℕ
euclid zero a b = a
euclid (suc turns) a zero = a
euclid (suc turns) a (suc b) = euclid turns (suc b) (a % suc b)

-- the greatest common divisor of a and b; b turns are enough, since the remainder is below the divisor
unfoldable pub gcd : ℕ → ℕ → ℕ
gcd a b = euclid b a b

-- N of load over length in lowest terms
unfoldable pub lowest_n : ℕ → ℕ → ℕ
lowest_n load length = load / gcd load length

-- D of load over length in lowest terms
unfoldable pub lowest_d : ℕ → ℕ → ℕ
lowest_d load length = length / gcd load length

-- N and D have no common divisor but 1
abbrev pub Lowest : ℕ → ℕ → Type 0
Lowest n d = (c : ℕ) → c ∣ n → c ∣ d → c ≡ 1
