-- `packets::tables::read_table` meets its contract: a table that passes its tests lies inside the bytes, and its rows inside the room. Assumes nothing.
use Rattle.std.proofs.Common.{◌≤◌, [], arith, sym, mul-le-mul_left}
use Rattle.std.proofs.lemmas.Result.{err_from_is_err_and}
use Rattle.bits.specs.Table.{total}
use Rattle.bits.proofs.Tables.{total_rows}
use Rattle.packets.proofs.Wire.{table_readable, whole_bits}
use Rattle.packets.proofs.tables.read_table.Goals as goal

pub read_rows-requires-clause-inside_bytes : goal.read_rows-requires-clause-inside_bytes
read_rows-requires-clause-inside_bytes g c =
    let r = (table_readable _ _ _ [] [] (sym (c.in_ok-count.ensures.passed.1 []))).1 in
    rw (c.head_width.ensures, c.row_widths.ensures) (whole_bits _ _ _ _ _ r.whole c.in_ok-count.ensures.passed.0)

pub read_rows-requires-clause-position_fits : goal.read_rows-requires-clause-position_fits
read_rows-requires-clause-position_fits g c =
    let r = (table_readable _ _ _ [] [] (sym (c.in_ok-count.ensures.passed.1 []))).1 in
    let n = c.in_ok-count.ensures.passed.0 in
    let few = r.whole.few in
    let fits = g.met.T.Table.laws.bits_fit in
    let most = g.met.T.Table.laws.most_fits in
    let bits = mul-le-mul_left (total g.T.Table.form.row) (let b : c.in_ok-count.count ≤ 256 = omega arith in b) in
    rw (c.head_width.ensures, c.row_widths.ensures, total_rows) (omega arith)

pub read_rows-requires-clause-inside_out : goal.read_rows-requires-clause-inside_out
read_rows-requires-clause-inside_out g c =
    let r = (table_readable _ _ _ [] [] (sym (c.in_ok-count.ensures.passed.1 []))).1 in
    let held = rw (← c.in_ok-count.ensures.passed.0) at r.held in
    rw c.row_widths.ensures (omega arith)

pub returns-in_err-count-clause-refused : goal.returns-in_err-count-clause-refused
returns-in_err-count-clause-refused g c =
    let p = err_from_is_err_and c.from_residual.result c.from_residual.ensures.1 in
    rw (p.1, p.2) c.in_err-count.ensures.refused
