-- `planner::plan_packets` meets its contract: the timetable's numbers are written as rows, and the plan writer is asked for the list's plan (`plan_written`,
-- `plan_refused`). Assumes nothing.
use Rattle.std.proofs.lemmas.Result.{err_from_is_err_and}
use Rattle.planner.proofs.Packing.{plan_written, plan_refused}
use Rattle.planner.proofs.plan_packets.Goals as goal

pub returns-in_err-write_plan : goal.returns-in_err-write_plan
returns-in_err-write_plan c =
    let p = err_from_is_err_and c.from_residual.result c.from_residual.ensures.1 in
    rw (p.1, p.2)
    (plan_refused _ _ _ _ _ _ _ c.args.packets.accepted c.made_of-timetable.ensures c.write_entries.ensures _ c.in_err-write_plan.ensures.0 c.in_err-write_plan.ensures.1)

pub returns : goal.returns
returns c = plan_written _ _ _ _ _ _ _ c.args.packets.accepted c.made_of-timetable.ensures c.write_entries.ensures _ c.in_ok-write_plan.ensures.0 c.in_ok-write_plan.ensures.1
