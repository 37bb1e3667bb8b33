-- `policy::setup::Setup::sweep` meets its contract. The invariant, `SweptSoFar`: leader and load are those of the first j in the row, and small. Assumes nothing.
use Rattle.policy.specs.Ranges.{due_at}
use Rattle.policy.specs.Steps.{left_at}
use Rattle.policy.proofs.Sweeping.{SweptSoFar}
use Rattle.policy.proofs.setup.Setup.sweep.Given as goal

abbrev pub invariant-loop-j : goal.invariant-loop-j
invariant-loop-j l = SweptSoFar (due_at l.self.row) (left_at l.left) l.s l.base l.initial.leader l.leader l.load l.j
