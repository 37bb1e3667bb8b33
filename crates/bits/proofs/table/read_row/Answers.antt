-- `bits::table::read_row` meets its contract: the goals that the check leaves. What the loop keeps is in Invariants.antt. Assumes nothing.
use mathlib.Core.Path.{◌∙◌}
use native.Mathlib.Omega.{arith}
use lib.ListN.{drop_of_length-le}
use Rattle.bits.specs.Table.{total, fields_at}
use Rattle.bits.proofs.Rows.{total_next, read_next}
use Rattle.bits.proofs.table.read_row.Goals as goal

pub loop-field-preserved : goal.loop-field-preserved
loop-field-preserved c =
    let l = c.loop-field in
    let w = c.args.widths.now in (
      omega (arith, total_next w l.field c.loop-field-test.true),
      rw c.get.ensures.0 (read_next _ l.out w l.position l.field c.loop-field-test.true ∙ l.invariant.1),
    )

pub returns : goal.returns
unfolding total fields_at
returns c =
    let l = c.loop-field in
    let none = drop_of_length-le c.args.widths.now c.loop-field-test.false in
    (omega (arith, rw none at l.invariant.0), rw none at l.invariant.1)
