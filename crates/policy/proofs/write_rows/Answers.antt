-- `policy::write_rows` meets its contract: the goals that the check leaves. What the loop keeps is in Invariants.antt. Assumes nothing.
use Rattle.std.proofs.Common.{◌≡◌, arith}
use Rattle.policy.proofs.Rows.{rows_first, rows_next, rows_last}
use Rattle.policy.proofs.write_rows.Goals as goal

pub loop-k-init : goal.loop-k-init
loop-k-init c = rows_first _ _ _

pub loop-k-preserved : goal.loop-k-preserved
loop-k-preserved c = rows_next _ _ _ _ _ _ _ c.loop-k.invariant (omega (arith, c.loop-k-test.true, c.requires.0)) (rw c.into.ensures at c.shown-n.ensures.0) (rw c.into.ensures at c.shown-n.ensures.1)

pub returns : goal.returns
returns c =
    let last : c.loop-k.k ≡ c.args.epochs = omega (arith, c.loop-k.auto.k-end, c.loop-k-test.false) in
    rows_last _ _ _ _ _ (rw last at c.loop-k.invariant)
