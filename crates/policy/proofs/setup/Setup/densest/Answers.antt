-- `policy::setup::Setup::densest` meets its contract: the goals that the check leaves. What the loop keeps is in Invariants.antt. Assumes nothing.
use Rattle.std.proofs.Common.{refl}
use Rattle.policy.specs.Steps.{led}
use Rattle.policy.proofs.Sweeping.{led_next}
use Rattle.policy.proofs.setup.Setup.densest.Goals as goal

pub loop-i-init : goal.loop-i-init
unfolding led
loop-i-init c = (refl, tt)

pub loop-i-preserved : goal.loop-i-preserved
loop-i-preserved c = (led_next _ _ _ _ _ _ _ _ c.loop-i.invariant.0 c.sweep-leader.ensures.leads, c.sweep-leader.ensures.small)
