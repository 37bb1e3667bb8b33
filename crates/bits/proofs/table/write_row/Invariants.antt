-- `bits::table::write_row` meets its contract. The loop's invariant: the fields that are left, put into the bytes as they are now, give what the whole
-- row put into the bytes at entry gives. Each turn puts one field. Assumes nothing.
use Prim.Native.Nat.{◌+◌, ◌≤◌}
use mathlib.Core.Path.{◌≡◌}
use lib.ListN.{length}
use Rattle.bits.specs.Table.{total, put_fields, AtMost}
use Rattle.bits.proofs.table.write_row.Given as goal

abbrev pub invariant-loop-width : goal.invariant-loop-width
invariant-loop-width l =
    let widths = l.width-iterator.a.rest.now in
    let values = l.width-iterator.b.rest.now in
    AtMost 64 widths
    × (length widths ≤ length values)
    × (l.position + total widths ≡ l.at + total l.widths)
    × (put_fields l.bytes l.position widths values ≡ put_fields l.initial.bytes l.at l.widths l.values)
