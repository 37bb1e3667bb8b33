-- `policy::setup::Setup::left` meets its contract. The invariant: what is left at the first j of the row is filled in. Assumes nothing.
use Rattle.std.proofs.Common.{◌≡◌, get_or, slice_index_or, None}
use Rattle.packets.specs.Limits.{most_packets}
use Rattle.policy.specs.Ranges.{due_at, span_at}
use Rattle.policy.specs.Steps.{left_over}
use Rattle.policy.proofs.Filling.{Meeting}
use Rattle.policy.proofs.setup.Setup.left.Given as goal

abbrev pub invariant-loop-j : goal.invariant-loop-j
invariant-loop-j l =
    Meeting most_packets (record { bytes = 0; seconds = 0 })
    (λ k left. (left.bytes ≡ left_over (slice_index_or l.rates (due_at l.self.row k).packet None) (span_at l.self.packets.at (due_at l.self.row k).packet).weight)
    × (left.seconds ≡ get_or l.passed (due_at l.self.row k).deadline_point 0)) l.left l.j
