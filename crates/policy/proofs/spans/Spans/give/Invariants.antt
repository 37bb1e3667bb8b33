-- `policy::spans::Spans::give` meets its contract. The invariant, `Halfway`: the first i have what the round leaves them, the others what they had. Assumes nothing.
use Rattle.std.proofs.Common.{length, slice_index_or, None}
use Rattle.policy.specs.Ranges.{span_at}
use Rattle.policy.specs.Steps.{after_gift}
use Rattle.policy.proofs.Filling.{Halfway}
use Rattle.policy.proofs.spans.Spans.give.Given as goal

abbrev pub invariant-loop-i : goal.invariant-loop-i
invariant-loop-i l =
    Halfway (length l.initial.rates) None (λ k. after_gift (span_at l.self.at k) (slice_index_or l.initial.rates k None) l.interval.start l.interval.end l.rate) l.initial.rates l.rates l.i
