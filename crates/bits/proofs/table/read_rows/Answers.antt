-- `bits::table::read_rows` meets its contract: the goals that the check leaves. What the loop keeps is in Invariants.antt. Assumes nothing.
use mathlib.Core.Path.{refl}
use native.Mathlib.Omega.{arith}
use Rattle.bits.specs.Table.{total, rows, fields_at}
use Rattle.bits.proofs.Rows.{row_within, total_more, read_more}
use Rattle.bits.proofs.table.read_rows.Goals as goal

pub loop-row-init : goal.loop-row-init
unfolding total rows fields_at
loop-row-init c = (omega arith, refl)

pub read_row-position-requires-clause-inside_bytes : goal.read_row-position-requires-clause-inside_bytes
read_row-position-requires-clause-inside_bytes c = omega (arith, row_within c.args.count c.loop-row.row c.args.widths.now c.loop-row-test.true)

pub read_row-position-requires-clause-position_fits : goal.read_row-position-requires-clause-position_fits
read_row-position-requires-clause-position_fits c = omega (arith, row_within c.args.count c.loop-row.row c.args.widths.now c.loop-row-test.true)

pub loop-row-preserved : goal.loop-row-preserved
loop-row-preserved c =
    let a = c.args in
    let l = c.loop-row in
    let done = c.read_row-position.ensures in
    let within = row_within a.count l.row a.widths.now c.loop-row-test.true in (
      rw (done.0, l.invariant.0) (total_more a.bytes.now a.at l.row a.widths.now),
      rw (done.1, l.invariant.0, l.invariant.1) (read_more a.bytes.now a.at l.row a.widths.now a.out.now (omega arith)),
    )
