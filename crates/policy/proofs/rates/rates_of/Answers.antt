-- `policy::rates::rates_of` meets its contract: the goals that the check leaves. What the loop keeps is in Invariants.antt. Assumes nothing.
use Rattle.std.proofs.Common.{arith}
use Rattle.policy.proofs.Turning.{first_agrees, first_counts, rated, over, leader_long, turn_on, turn_counts, turns_few}
use Rattle.policy.proofs.rates.rates_of.Goals as goal

pub loop-leader-init : goal.loop-leader-init
loop-leader-init c =
    (first_agrees _ _ c.args.packets.accepted c.of-setup.result c.of-setup.ensures, first_counts _ _ c.args.packets.accepted c.of-setup.result c.of-setup.ensures)

pub take-requires : goal.take-requires
take-requires c =
    leader_long _ _ c.args.packets.accepted c.of-setup.result c.of-setup.ensures _ _ _ c.loop-leader.invariant.0 c.leader.ensures _ c.in-Some.is

pub overflow_add-rounds : goal.overflow_add-rounds
overflow_add-rounds c =
    omega (
      arith,
      c.args.packets.accepted.few,
      turns_few _ _ c.args.packets.accepted c.of-setup.result c.of-setup.ensures _ _ _ c.loop-leader.invariant.0 c.leader.ensures _ c.in-Some.is c.loop-leader.invariant.1,
    )

pub loop-leader-smaller : goal.loop-leader-smaller
loop-leader-smaller c =
    omega (
      arith,
      turns_few _ _ c.args.packets.accepted c.of-setup.result c.of-setup.ensures _ _ _ c.loop-leader.invariant.0 c.leader.ensures _ c.in-Some.is c.loop-leader.invariant.1,
    )

pub loop-leader-preserved : goal.loop-leader-preserved
loop-leader-preserved c = (
  turn_on _ _ c.args.packets.accepted c.of-setup.result c.of-setup.ensures _ _ _ c.loop-leader.invariant.0 c.leader.ensures _ c.in-Some.is _ c.take.ensures,
  turn_counts _ _ c.args.packets.accepted c.of-setup.result c.of-setup.ensures _ _ _ c.loop-leader.invariant.0 c.leader.ensures _ c.in-Some.is c.loop-leader.invariant.1,
)

pub returns : goal.returns
returns c =
    rated _ _ c.args.packets.accepted c.of-setup.result c.of-setup.ensures _ _ c.loop-leader.invariant.0 c.loop-leader.invariant.1
    (over _ _ c.args.packets.accepted c.of-setup.result c.of-setup.ensures _ _ _ c.loop-leader.invariant.0 c.leader.ensures c.in_default.is c.loop-leader.invariant.1)
