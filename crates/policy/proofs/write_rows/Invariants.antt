-- `policy::write_rows` meets its contract. The invariant, `RowsSoFar`: the rows of the first k epochs stand at the front, the rest is as it was. Assumes nothing.
use Rattle.policy.specs.Answer.{given_at}
use Rattle.policy.proofs.Rows.{RowsSoFar}
use Rattle.policy.proofs.write_rows.Given as goal

abbrev pub invariant-loop-k : goal.invariant-loop-k
invariant-loop-k l = RowsSoFar l.found.points.at (given_at l.found.epochs) l.initial.rates l.rates l.k
