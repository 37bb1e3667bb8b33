-- `plan::frame::write_plan` meets its contract: entries and cost are tested, then the room, and only then is the table written into the frame's part from
-- byte 8 on. Assumes nothing.
use mathlib.Core.Path.{refl, sym}
use mathlib.Core.List.{[]}
use native.Mathlib.Omega.{arith}
use lib.ListN.{length-drop}
use Rattle.packets.specs.declared.refusal.Refusal.TheVariants.{NoRoom}
use Rattle.packets.proofs.Outcomes.{refused_then, refused_all, no_room}
use Rattle.plan.specs.Frame.{frame_bytes, write_outcome, frame_after}
use Rattle.std.proofs.lemmas.Result.{err_from_is_err_and}
use Rattle.plan.specs.Forms.{entry_narrow}
use Rattle.plan.proofs.Framing.{Fitting, memory_fitting, write_gives, write_done, plan_total, whole_part, head_narrow}
use Rattle.plan.proofs.frame.write_plan.Goals as goal
use Rattle.plan.proofs.frame.write_plan.Goals.{In_ok-judge_memory}

pub returns-in_err-judge_memory : goal.returns-in_err-judge_memory
unfolding write_outcome frame_after
returns-in_err-judge_memory c =
    let p = err_from_is_err_and c.from_residual.result c.from_residual.ensures.1 in
    rw (p.1, p.2) (refused_all _ _ _ (sym (refused_then _ _ c.in_err-judge_memory.ensures)))

fitting : (c : In_ok-judge_memory)
    → let a = c.args in
    Fitting a.count a.entries.now a.cost
fitting c = memory_fitting _ _ _ [] (sym c.in_ok-judge_memory.ensures)

pub frame_bytes-used-requires : goal.frame_bytes-used-requires
frame_bytes-used-requires c = let few = (fitting (goal.at.frame_bytes-used-requires c).In_ok-judge_memory).few in omega arith

pub returns-then-frame-used : goal.returns-then-frame-used
unfolding write_outcome frame_after
returns-then-frame-used c = refused_all NoRoom _ _ (no_room _ _ _ c.in_ok-judge_memory.ensures (rw c.frame_bytes-used.ensures.0 at c.if-frame-used.true))

pub write_table-requires : goal.write_table-requires
unfolding frame_bytes
write_table-requires c =
    let a = fitting (goal.at.write_table-requires c).In_ok-judge_memory in
    let few = a.few in
    let held = a.held in
    let room = rw c.frame_bytes-used.ensures.0 at c.if-frame-used.false in
    let bits = plan_total c.args.count in
    record { narrow = (head_narrow, entry_narrow); inside_bytes = rw whole_part (omega (arith, length-drop 8 c.args.frame.now)); position_fits = omega arith; values_given = (refl, omega arith) }

pub returns : goal.returns
returns c =
    let f = c.args.frame.now in
    let e = write_gives _ _ _ _ c.in_ok-judge_memory.ensures (rw c.frame_bytes-used.ensures.0 at c.if-frame-used.false) in
    (rw c.frame_bytes-used.ensures.0 e, write_done _ _ _ f _ e c.write_table.ensures)
