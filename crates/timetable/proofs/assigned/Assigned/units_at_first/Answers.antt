-- `timetable::assigned::Assigned::units_at_first` meets its contract: the goals that the check leaves. What the loop keeps is in Invariants.antt. Assumes nothing.
use Rattle.std.proofs.Common.{arith, rules}
use Rattle.policy.proofs.Filling.{meeting_more, meeting_none}
use Rattle.timetable.proofs.assigned.Assigned.units_at_first.Goals as goal

pub loop-i-init : goal.loop-i-init
loop-i-init c = meeting_none _ _ _ (search rules)

pub loop-i-preserved : goal.loop-i-preserved
loop-i-preserved c = meeting_more _ _ _ _ _ (omega (arith, c.args.self.now.packets.accepted.few)) c.loop-i.invariant c.units.ensures

pub returns : goal.returns
returns c = record { long = c.loop-i.invariant.room; is = λ i h. c.loop-i.invariant.below i (omega arith) }
