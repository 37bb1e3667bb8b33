-- `timetable::timetables` meets its contract: the tests refuse, the room is too short, or the entries of the list are written. Assumes nothing.
use Rattle.std.proofs.lemmas.Result.{err_from_is_err_and}
use Rattle.timetable.proofs.Answering.{kept_timetabled, room_enough, short_of_room, tests_refuse}
use Rattle.timetable.proofs.Writing.{numbers_all}
use Rattle.timetable.proofs.timetables.Goals as goal

pub returns-in_err-packets : goal.returns-in_err-packets
returns-in_err-packets c =
    let p = err_from_is_err_and c.from_residual.result c.from_residual.ensures.1 in
    rw (p.1, p.2) (tests_refuse _ _ _ _ c.in_err-packets.ensures.verdict)

pub returns-then-entries-timetable : goal.returns-then-entries-timetable
returns-then-entries-timetable c =
    kept_timetabled c.in_ok-packets.ensures.kept (short_of_room _ _ c.in_ok-packets.packets.accepted _ _ _ c.made_of-timetable.ensures c.if-entries-timetable.true)

pub returns : goal.returns
returns c =
    kept_timetabled c.in_ok-packets.ensures.kept
    (room_enough _ _ c.in_ok-packets.packets.accepted _ _ _ c.made_of-timetable.ensures _ c.if-entries-timetable.false (rw numbers_all at c.write_entries.ensures))
