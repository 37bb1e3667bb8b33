-- `timetable::epoch::Sheet::fill` meets its contract. The invariant, `Filling`: the arrays hold the definition's sheet after some turns. The measure is the room that
-- is left (units). Assumes nothing.
use Rattle.std.proofs.Common.{◌-◌}
use Rattle.timetable.proofs.Filling.{Filling}
use Rattle.timetable.proofs.epoch.Sheet.fill.Given as goal

abbrev pub invariant-loop-packet : goal.invariant-loop-packet
invariant-loop-packet l =
    Filling l.assigned.packets.count l.assigned.packets.records.now l.epoch l.self.unsent l.self.count l.entries l.x

abbrev pub decreases-loop-packet : goal.decreases-loop-packet
decreases-loop-packet l = l.full - l.x
