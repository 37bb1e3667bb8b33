-- `policy::spans::Spans::of_packets` meets its contract. The invariant: the figures of the first i packets are filled in. Assumes nothing.
use Rattle.std.proofs.Common.{◌≡◌}
use Rattle.packets.specs.Records.{size_of, arrival_of, deadline_of}
use Rattle.packets.specs.Limits.{air_bytes}
use Rattle.policy.specs.Figures.{most_points}
use Rattle.policy.proofs.Filling.{Meeting}
use Rattle.policy.proofs.spans.Spans.of_packets.Given as goal

abbrev pub invariant-loop-i : goal.invariant-loop-i
invariant-loop-i l =
    Meeting most_points (record { from = 0; till = 0; weight = 0 })
    (λ k span. (span.from ≡ arrival_of l.packets.records.now k) × (span.till ≡ deadline_of l.packets.records.now k)
    × (span.weight ≡ air_bytes (size_of l.packets.records.now k))) l.at l.i
