-- `timetable::entry::write_entries` meets its contract: the goals that the check leaves. What the loop keeps is in Invariants.antt. Assumes nothing.
use Rattle.std.proofs.Common.{◌∙◌, ap, take}
use Rattle.timetable.proofs.Writing.{written_first, written_next}
use Rattle.timetable.proofs.entry.write_entries.Goals as goal

pub loop-i-init : goal.loop-i-init
loop-i-init g c = written_first g.row.N c.requires.few c.args.entries.now c.args.lent.now

pub loop-i-preserved : goal.loop-i-preserved
loop-i-preserved g c =
    written_next g.row.N c.requires.few c.args.entries.now c.args.lent.now c.loop-i.i _ c.loop-i.lent _ c.loop-i-test.true c.loop-i.invariant
    (c.copy_from_slice.ensures.after ∙ ap (take g.row.N) c.into-numbers.ensures)
