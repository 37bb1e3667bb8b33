-- `timetable::assigned::Assigned::units_at_first` meets its contract. The invariant: the first i numbers are the units of the first i packets. Assumes nothing.
use Rattle.policy.specs.Figures.{most_points}
use Rattle.policy.proofs.Filling.{Filled}
use Rattle.timetable.specs.Steps.{units_at}
use Rattle.timetable.proofs.assigned.Assigned.units_at_first.Given as goal

abbrev pub invariant-loop-i : goal.invariant-loop-i
invariant-loop-i l = Filled most_points (units_at l.self.packets.count l.self.packets.records.now) l.unsent l.i
