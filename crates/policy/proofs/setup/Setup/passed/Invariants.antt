-- `policy::setup::Setup::passed` meets its contract. The invariant: what is left before the first k + 1 points is filled in. Assumes nothing.
use Rattle.std.proofs.Common.{◌+◌, ◌*◌, ◌≤◌, get_or, slice_index_or, None}
use Rattle.policy.specs.Figures.{most_points}
use Rattle.policy.specs.Ranges.{span_at}
use Rattle.policy.specs.Steps.{left_over}
use Rattle.policy.specs.Windows.{sum}
use Rattle.policy.proofs.Filling.{Filled}
use Rattle.policy.proofs.setup.Setup.passed.Given as goal

abbrev pub invariant-loop-k : goal.invariant-loop-k
invariant-loop-k l =
    Filled most_points (λ b. sum b (λ i. left_over (slice_index_or l.rates i None) (span_at l.self.epochs.at i).weight)) l.passed (l.k + 1) × (get_or l.passed l.k 0 ≤ l.k * 86400)
