-- `bits::table::write_rows` meets its contract: the goals that the check leaves. What the loop keeps is in Invariants.antt. Assumes nothing.
use Prim.Native.Nat.{◌*◌}
use mathlib.Core.Path.{refl}
use native.Mathlib.Omega.{arith}
use lib.ListN.{length}
use Rattle.std.proofs.lemmas.List.{take_rest}
use Rattle.bits.specs.Table.{total, rows, put_fields}
use Rattle.bits.proofs.Rows.{row_within, total_more, write_more}
use Rattle.bits.proofs.table.write_rows.Goals as goal

pub loop-row-init : goal.loop-row-init
unfolding total rows put_fields
loop-row-init c = (omega arith, refl)

pub write_row-position-requires-clause-inside_bytes : goal.write_row-position-requires-clause-inside_bytes
write_row-position-requires-clause-inside_bytes c = omega (arith, row_within c.args.count c.loop-row.row c.args.widths.now c.loop-row-test.true)

pub write_row-position-requires-clause-position_fits : goal.write_row-position-requires-clause-position_fits
write_row-position-requires-clause-position_fits c = omega (arith, row_within c.args.count c.loop-row.row c.args.widths.now c.loop-row-test.true)

pub loop-row-preserved : goal.loop-row-preserved
loop-row-preserved c =
    let a = c.args in
    let l = c.loop-row in
    let done = c.write_row-position.ensures in
    let within = row_within a.count l.row a.widths.now c.loop-row-test.true in (
      rw (done.0, l.invariant.0) (total_more a.bytes.now a.at l.row a.widths.now),
      rw (done.1, take_rest a.values.now (l.row * length a.widths.now), l.invariant.0, l.invariant.1)
          (write_more a.bytes.now a.at l.row a.widths.now a.values.now (omega arith)),
    )
