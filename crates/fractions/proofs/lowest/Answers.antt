-- `fractions::lowest` meets its contract: the divisor is the greatest common divisor. Assumes nothing.
use mathlib.Core.Path.{ap}
use Prim.Native.Nat.{ℕ, ◌/◌}
use Rattle.fractions.specs.Fraction.{lowest_n, lowest_d}
use Rattle.fractions.proofs.lowest.Goals as goal

pub returns : goal.returns
unfolding lowest_n lowest_d
returns c = (
  ap (λ (g : ℕ). c.args.load / g) c.greatest_divisor-divisor.ensures,
  ap (λ (g : ℕ). c.args.length / g) c.greatest_divisor-divisor.ensures,
)
