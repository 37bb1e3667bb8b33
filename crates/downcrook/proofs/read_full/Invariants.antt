-- What came so far is no more than the bytes that were lent, and each turn brings a byte at least.
use Rattle.std.proofs.Common.{length, ◌-◌, ◌≤◌}
use Rattle.downcrook.proofs.read_full.Given as goal

abbrev pub invariant-loop-done : goal.invariant-loop-done
invariant-loop-done g l = l.done ≤ length l.bytes

abbrev pub decreases-loop-done : goal.decreases-loop-done
decreases-loop-done g l = length l.initial.bytes - l.done
