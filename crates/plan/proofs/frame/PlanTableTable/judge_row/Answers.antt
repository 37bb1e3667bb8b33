-- The test of a row is that of the entry whose numbers it is. Assumes nothing.
use Rattle.std.proofs.Common.{add-zero}
use Rattle.plan.specs.Entries.{entry_at}
use Rattle.plan.proofs.frame.PlanTableTable.judge_row.Goals as goal

pub returns : goal.returns
unfolding entry_at
returns c = rw add-zero c.judge_entry.ensures
