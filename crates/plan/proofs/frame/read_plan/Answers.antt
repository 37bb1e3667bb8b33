-- `plan::frame::read_plan` meets its contract: a frame shorter than its head has no count byte, and the part of any other from byte 8 on is read as a table
-- of the plan's form. Assumes nothing.
use Rattle.std.proofs.Common.{◌≡◌, ◌∷◌, [], length, arith, sym, ◌∙◌}
use Rattle.std.proofs.lemmas.Result.{err_from_is_err_and}
use Rattle.bits.specs.Table.{total}
use Rattle.packets.specs.Outcome.{gives}
use Rattle.packets.specs.declared.refusal.Refusal.TheVariants.{Short}
use Rattle.packets.proofs.Outcomes.{refused_all, refused_leaves}
use Rattle.packets.proofs.Wire.{table_readable}
use Rattle.plan.specs.Frame.{cost_on, count_on, plan_on, entries_after, read_outcome}
use Rattle.plan.proofs.Framing.{headless, whole_part, plan_outcome, plan_bytes_is, read_done}
use Rattle.plan.proofs.frame.read_plan.Goals as goal

pub returns-then-frame-lt-HEAD_BYTES : goal.returns-then-frame-lt-HEAD_BYTES
unfolding entries_after
returns-then-frame-lt-HEAD_BYTES c = refused_all Short _ _ (headless c.args.frame.now _ c.if-frame-lt-HEAD_BYTES.true)

pub returns-in_err-entries : goal.returns-in_err-entries
unfolding entries_after
returns-in_err-entries c =
    let p = err_from_is_err_and c.from_residual.result c.from_residual.ensures.1 in
    let e = rw whole_part at (c.in_err-entries.ensures.refused (count_on (plan_on c.args.frame.now) ∷ cost_on (plan_on c.args.frame.now) ∷ [])) ∙ sym (plan_outcome (plan_on c.args.frame.now) (length c.args.lent.now)) in
    rw (p.1, p.2) (e, c.in_err-entries.ensures.kept ∙ sym (refused_leaves _ _ _ e))

pub get-requires : goal.get-requires
get-requires c =
    let r = (table_readable _ _ _ [] [] (sym (c.in_ok-entries.ensures.passed.1 []))).1 in
    let long = plan_bytes_is c.in_ok-entries.entries in
    let n = c.in_ok-entries.ensures.passed.0 in
    let held = rw (← n, long) at r.whole.held in
    (omega arith, omega arith, omega arith)

pub returns : goal.returns
unfolding cost_on total
returns c =
    let f = c.args.frame.now in
    let n = rw whole_part at c.in_ok-entries.ensures.passed.0 in
    let cost = rw whole_part at c.get.ensures.0 in
    let e = rw whole_part at (c.in_ok-entries.ensures.passed.1 (count_on (plan_on f) ∷ cost_on (plan_on f) ∷ [])) ∙ sym (plan_outcome (plan_on f) (length c.args.lent.now)) in
    let told : gives (c.in_ok-entries.entries ∷ c.get.result ∷ []) ≡ read_outcome (plan_on f) (length c.args.lent.now) = rw (n, cost) e in
    (told, read_done _ _ _ _ _ told (rw whole_part at c.in_ok-entries.ensures.filled))
