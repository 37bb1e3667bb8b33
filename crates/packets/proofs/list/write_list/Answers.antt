-- `packets::list::write_list` meets its contract: the packets are tested, then the room, and only then is the table written. Assumes nothing.
use Rattle.std.proofs.Common.{refl, arith, sym}
use Rattle.std.proofs.lemmas.Result.{err_from_is_err_and}
use Rattle.packets.specs.List.{write_outcome, bytes_after}
use Rattle.packets.specs.declared.refusal.Refusal.TheVariants.{NoRoom}
use Rattle.packets.specs.Records.{Accepted}
use Rattle.packets.proofs.Outcomes.{refused_then, refused_all, no_room}
use Rattle.packets.proofs.Records.{memory_accepted}
use Rattle.packets.specs.Forms.{record_narrow}
use Rattle.packets.proofs.Lists.{write_gives, write_done, list_total, count_narrow}
use Rattle.packets.proofs.list.write_list.Goals as goal
use Rattle.packets.proofs.list.write_list.Goals.{In_ok-judge_packets}

pub returns-in_err-judge_packets : goal.returns-in_err-judge_packets
unfolding write_outcome bytes_after
returns-in_err-judge_packets c =
    let p = err_from_is_err_and c.from_residual.result c.from_residual.ensures.1 in
    rw (p.1, p.2) (refused_all _ _ _ (sym (refused_then _ _ c.in_err-judge_packets.ensures)))

accepted : (c : In_ok-judge_packets) → Accepted c.args.count c.args.records.now
accepted c = memory_accepted _ _ (sym c.in_ok-judge_packets.ensures)

pub list_bytes-used-requires : goal.list_bytes-used-requires
list_bytes-used-requires c = let few = (accepted (goal.at.list_bytes-used-requires c).In_ok-judge_packets).few in omega arith

pub returns-then-bytes-used : goal.returns-then-bytes-used
unfolding write_outcome bytes_after
returns-then-bytes-used c = refused_all NoRoom _ _ (no_room _ _ _ c.in_ok-judge_packets.ensures (let u = c.list_bytes-used.ensures in let h = c.if-bytes-used.true in omega arith))

pub write_table-requires : goal.write_table-requires
write_table-requires c =
    let a = accepted (goal.at.write_table-requires c).In_ok-judge_packets in
    let few = a.few in
    let held = a.held in
    let bits = list_total c.args.count in
    record { narrow = (count_narrow, record_narrow); inside_bytes = rw c.list_bytes-used.ensures at c.if-bytes-used.false; position_fits = omega arith; values_given = (refl, omega arith) }

pub returns : goal.returns
returns c =
    let e = write_gives _ _ _ c.in_ok-judge_packets.ensures (rw c.list_bytes-used.ensures at c.if-bytes-used.false) in
    (rw c.list_bytes-used.ensures e, write_done _ _ _ _ e c.write_table.ensures)
