-- `timetable::made::made_of` meets its contract: the goals that the check leaves. What the loop keeps is in Invariants.antt. Assumes nothing.
use Rattle.std.proofs.Common.{add-one, arith}
use Rattle.timetable.proofs.Filling.{silent}
use Rattle.timetable.proofs.Making.{carrying, making_first, making_last, silent_is, some_point}
use Rattle.timetable.proofs.made.made_of.Goals as goal
use Rattle.timetable.proofs.made.made_of.Goals.{in-Carries, in-Silent}

pub overflow_sub-k-end : goal.overflow_sub-k-end
overflow_sub-k-end c = some_point _ _ c.args.packets.accepted _ c.rates_of-rounds.ensures

pub loop-k-init : goal.loop-k-init
loop-k-init c = making_first _ _ c.args.packets.accepted _ c.rates_of-rounds.ensures _ _ c.units_at_first.ensures c.told-entries

pub fill-requires : goal.fill-requires
fill-requires c = record {
  carrying = carrying _ _ c.args.packets.accepted _ c.rates_of-rounds.ensures _ _ (omega arith) c.in-Carries.ensures;
  underway = c.loop-k.invariant;
}

pub loop-k-preserved : goal.loop-k-preserved
loop-k-preserved c =
    elim c.match-from.branch [
      | in-Carries w ↦ rw (w.sheet-is, w.entries-is, add-one) w.fill.ensures
      | in-Silent w ↦ rw (w.sheet-is, w.entries-is, add-one) (silent _ _ _ _ _ _ (silent_is _ _ c.args.packets.accepted _ c.rates_of-rounds.ensures _ (omega arith) w.in-Silent.ensures) c.loop-k.invariant)
    ]

pub returns : goal.returns
returns c = making_last _ _ c.args.packets.accepted _ c.rates_of-rounds.ensures _ _ _ _ _ c.loop-k.invariant (omega arith) c.radio_cost.ensures
