-- `policy::spans::Spans::of_epochs` meets its contract. The invariant: the windows and the seconds of the first k epochs are filled in. Assumes nothing.
use Rattle.std.proofs.Common.{◌≡◌, suc, ◌-◌, get_or}
use Rattle.policy.specs.Figures.{most_points}
use Rattle.policy.proofs.Filling.{Meeting}
use Rattle.policy.proofs.spans.Spans.of_epochs.Given as goal

abbrev pub invariant-loop-k : goal.invariant-loop-k
invariant-loop-k l =
    Meeting most_points (record { from = 0; till = 0; weight = 0 })
    (λ i span. (span.from ≡ get_or l.points.at i 0) × (span.till ≡ get_or l.points.at (suc i) 0)
    × (span.weight ≡ get_or l.points.at (suc i) 0 - get_or l.points.at i 0)) l.at l.k
