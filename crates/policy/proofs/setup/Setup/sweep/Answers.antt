-- `policy::setup::Setup::sweep` meets its contract: the goals that the check leaves. What the loop keeps is in Invariants.antt. Assumes nothing.
use Rattle.std.proofs.Common.{◌+◌, arith}
use Rattle.policy.specs.Ranges.{due_at}
use Rattle.policy.specs.Steps.{Small}
use Rattle.policy.proofs.Sweeping.{swept_early, swept_next, load_fits}
use Rattle.policy.proofs.setup.Setup.sweep.Goals as goal
use Rattle.policy.proofs.setup.Setup.sweep.Goals.{After-saturating_sub}

pub loop-j-init : goal.loop-j-init
loop-j-init c = swept_early _ _ _ _ _ _ c.early-j.ensures.early c.requires.2

pub overflow_add-load : goal.overflow_add-load
overflow_add-load c =
    omega (arith, c.args.self.now.ready.few, c.loop-j-test.true, load_fits _ _ _ _ _ _ _ _ _ c.loop-j.invariant c.counted_from-load.ensures (c.requires.0.bytes_most _ c.loop-j-test.true))

-- the interval is small
small : (c : After-saturating_sub)
    → Small (record { start = c.args.s; end = (due_at c.args.self.now.row c.loop-j.j).deadline; load = c.loop-j.load + c.counted_from-load.result; len = c.saturating_sub.result })
small c = record {
  load = omega (arith, c.args.self.now.ready.few, c.loop-j-test.true, load_fits _ _ _ _ _ _ _ _ _ c.loop-j.invariant c.counted_from-load.ensures (c.requires.0.bytes_most _ c.loop-j-test.true));
  len = omega (arith, c.saturating_sub.ensures, c.requires.0.seconds_most _ c.loop-j-test.true);
}

pub considered-leader-requires : goal.considered-leader-requires
considered-leader-requires c = (small (goal.at.considered-leader-requires c).After-saturating_sub, c.loop-j.invariant.small)

pub loop-j-preserved : goal.loop-j-preserved
loop-j-preserved c =
    swept_next _ _ _ _ _ _ _ _ _ _ _ c.loop-j.invariant c.counted_from-load.ensures (c.requires.0.bytes_most _ c.loop-j-test.true) c.saturating_sub.ensures
    (small (goal.at.loop-j-preserved c).After-saturating_sub) c.considered-leader.ensures
