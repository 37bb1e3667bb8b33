-- `policy::setup::Setup::of` meets its contract: each arrival and each deadline is a point, so that the figures of a round are in range. Assumes nothing.
use Rattle.std.proofs.Common.{arith}
use Rattle.policy.specs.Points.{packets_of}
use Rattle.policy.proofs.Turning.{points_some, ready}
use Rattle.policy.proofs.setup.Setup.of.Goals as goal

pub of_epochs-epochs-requires : goal.of_epochs-epochs-requires
of_epochs-epochs-requires c = omega (arith, points_some _ _ c.args.list.accepted, c.of-points.ensures.1)

pub by_deadline-row-requires : goal.by_deadline-row-requires
unfolding packets_of
by_deadline-row-requires c = omega (arith, c.args.list.accepted.few, c.of_packets-packets.ensures.count_is)

pub invariant_of-result : goal.invariant_of-result
invariant_of-result c = record {
  ready = ready _ _ c.args.list.accepted _ _ _ _
      (record {
        points_are = c.of-points.ensures.0;
        points_count = c.of-points.ensures.1;
        packets_are = c.of_packets-packets.ensures;
        epochs_are = c.of_epochs-epochs.ensures;
        row_is = c.by_deadline-row.ensures;
      });
}
