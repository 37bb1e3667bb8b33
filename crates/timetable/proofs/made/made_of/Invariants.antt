-- `timetable::made::made_of` meets its contract. The invariant: the sheet before epoch k stands in the arrays. Assumes nothing.
use Rattle.timetable.specs.Steps.{Underway}
use Rattle.timetable.proofs.made.made_of.Given as goal

abbrev pub invariant-loop-k : goal.invariant-loop-k
invariant-loop-k l = Underway l.packets.count l.packets.records.now l.k l.sheet l.entries
