-- `packets::tables::judge_rows` meets its contract: the goals that the check leaves. What the loop keeps is in Invariants.antt. Assumes nothing.
use Rattle.std.proofs.lemmas.Result.{err_from_is_err_and}
use Rattle.packets.proofs.Outcomes.{turn_passes, turn_refuses, in_order_first, in_order_last}
use Rattle.packets.proofs.tables.judge_rows.Goals as goal

pub loop-i-init : goal.loop-i-init
loop-i-init g c = in_order_first _ _

pub returns-in_err-judge_row : goal.returns-in_err-judge_row
returns-in_err-judge_row g c =
    let p = err_from_is_err_and c.from_residual.result c.from_residual.ensures.1 in
    rw (p.1, p.2) (turn_refuses _ _ c.loop-i.i c.loop-i-test.true c.loop-i.invariant _ c.in_err-judge_row.ensures)

pub loop-i-preserved : goal.loop-i-preserved
loop-i-preserved g c = turn_passes _ _ c.loop-i.i c.loop-i-test.true c.loop-i.invariant c.in_ok-judge_row.ensures

pub returns : goal.returns
returns g c = in_order_last _ _ _ c.loop-i-test.false c.loop-i.invariant
