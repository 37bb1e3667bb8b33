-- `fractions::greatest_divisor` meets its contract. The measure is the divisor: the remainder that takes its place is below it. Assumes nothing.
use Rattle.fractions.proofs.+greatest_divisor.Given as goal

abbrev pub decreases-greatest_divisor : goal.decreases-greatest_divisor
decreases-greatest_divisor l = l.b
