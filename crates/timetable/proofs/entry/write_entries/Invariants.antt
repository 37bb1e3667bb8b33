-- `timetable::entry::write_entries` meets its contract. The invariant: the numbers of the first i entries stand at the front, and the rest is as it was. Assumes nothing.
use Rattle.std.proofs.Common.{◌≡◌, map, take}
use Rattle.policy.specs.Answer.{overwritten}
use Rattle.timetable.specs.Steps.{entry_of, first_numbers}
use Rattle.timetable.proofs.entry.write_entries.Given as goal

abbrev pub invariant-loop-i : goal.invariant-loop-i
invariant-loop-i g l = l.lent ≡ overwritten (first_numbers g.row.N (map entry_of (take l.i l.entries))) l.initial.lent
