-- `packets::list::judge_list` meets its contract: reading a list is reading a table of its form. Assumes nothing.
use Rattle.std.proofs.Common.{[], arith, sym, ◌∙◌}
use Rattle.std.proofs.lemmas.Result.{err_from_is_err_and}
use Rattle.packets.proofs.Lists.{list_outcome}
use Rattle.packets.proofs.Wire.{table_readable}
use Rattle.packets.proofs.list.judge_list.Goals as goal

pub returns-in_err-count : goal.returns-in_err-count
returns-in_err-count c =
    let p = err_from_is_err_and c.from_residual.result c.from_residual.ensures.1 in
    rw (p.1, p.2) (c.in_err-count.ensures.refused _ ∙ sym (list_outcome _ _))

pub list_bytes-requires : goal.list_bytes-requires
list_bytes-requires c =
    let r = (table_readable _ _ _ _ _ (sym (c.in_ok-count.ensures.passed.1 []))).1 in
    let n = c.in_ok-count.ensures.passed.0 in
    omega (arith, r.whole.few)

pub returns : goal.returns
returns c = rw (c.list_bytes.ensures, c.in_ok-count.ensures.passed.0) (c.in_ok-count.ensures.passed.1 _ ∙ sym (list_outcome _ _))
