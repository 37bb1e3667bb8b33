-- `policy::setup::Setup::passed` meets its contract: the goals that the check leaves. What the loop keeps is in Invariants.antt. Assumes nothing.
use Rattle.std.proofs.Common.{◌+◌, ◌<◌, arith, refl}
use lib.Seq.{get_or-set_same}
use Rattle.policy.specs.Windows.{sum}
use Rattle.policy.proofs.Filling.{filled_first, meeting_more}
use Rattle.policy.proofs.Giving.{left_over_most}
use Rattle.policy.proofs.Sums.{sum_next}
use Rattle.policy.proofs.setup.Setup.passed.Goals as goal

pub loop-k-init : goal.loop-k-init
loop-k-init c = (filled_first _ _ refl (unfold sum in refl), omega arith)

pub overflow_add-passed : goal.overflow_add-passed
overflow_add-passed c =
    let r = c.args.self.now.ready in
    omega (arith, c.loop-k.invariant.1, c.args.self.now.points.few, r.epochs_are, c.loop-k-test.true, left_over_most _ _ _ _ c.left.ensures (r.seconds_most _ c.loop-k-test.true))

pub loop-k-preserved : goal.loop-k-preserved
loop-k-preserved c =
    let r = c.args.self.now.ready in
    let here : c.loop-k.k + 1 < 128 = omega (arith, c.args.self.now.points.few, r.epochs_are, c.loop-k-test.true) in (
      meeting_more _ _ _ _ _ here c.loop-k.invariant.0 (sum_next _ _ (c.loop-k.invariant.0.below _ (omega arith)) c.left.ensures),
      rw (get_or-set_same c.loop-k.passed (c.loop-k.k + 1) _ 0 (omega (arith, here, c.loop-k.invariant.0.room)))
          (omega (arith, c.loop-k.invariant.1, left_over_most _ _ _ _ c.left.ensures (r.seconds_most _ c.loop-k-test.true))),
    )
