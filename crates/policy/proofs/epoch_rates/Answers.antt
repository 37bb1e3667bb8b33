-- `policy::epoch_rates` meets its contract: the tests refuse, the room is too short, or the rows of the list are written. Assumes nothing.
use Rattle.std.proofs.Common.{ℕ, List, ◌∙◌, ap, arith}
use Rattle.std.proofs.lemmas.Result.{err_from_is_err_and}
use Rattle.policy.specs.Answer.{overwritten}
use Rattle.policy.proofs.Answering.{tests_refuse, short_of_room, room_enough, rows_are, kept_rated}
use Rattle.policy.proofs.Turning.{points_some}
use Rattle.policy.proofs.epoch_rates.Goals as goal

pub returns-in_err-packets : goal.returns-in_err-packets
returns-in_err-packets c =
    let p = err_from_is_err_and c.from_residual.result c.from_residual.ensures.1 in
    rw (p.1, p.2) (tests_refuse _ _ _ _ c.in_err-packets.ensures.verdict)

pub overflow_sub-epochs : goal.overflow_sub-epochs
overflow_sub-epochs c = omega (arith, points_some _ _ c.in_ok-packets.packets.accepted, c.rates_of-found.ensures.n_is)

pub returns-then-rates-epochs : goal.returns-then-rates-epochs
returns-then-rates-epochs c =
    let rows = rows_are _ _ c.in_ok-packets.packets.accepted _ c.rates_of-found.ensures in
    kept_rated c.in_ok-packets.ensures.kept (short_of_room _ _ c.in_ok-packets.packets.accepted _ (omega (arith, c.if-rates-epochs.true, rows.0)))

pub returns : goal.returns
returns c =
    let rows = rows_are _ _ c.in_ok-packets.packets.accepted _ c.rates_of-found.ensures in
    kept_rated c.in_ok-packets.ensures.kept
    (room_enough _ _ c.in_ok-packets.packets.accepted _ _ _ _ rows.0 c.rates_of-found.ensures.rounds_are c.if-rates-epochs.false
    (c.write_rows.ensures ∙ ap (λ (x : List ℕ). overwritten x c.args.rates.now) rows.1))
