-- `bits::table::read_row` meets its contract. The loop's invariant: the fields that are left, read into what out holds now, give what the whole row
-- read into out at entry gives. Each turn reads one field. Assumes nothing.
use Prim.Native.Nat.{◌+◌}
use mathlib.Core.Path.{◌≡◌}
use lib.ListN.{drop}
use lib.Seq.{sets}
use Rattle.bits.specs.Table.{total, fields_at}
use Rattle.bits.proofs.table.read_row.Given as goal

abbrev pub invariant-loop-field : goal.invariant-loop-field
invariant-loop-field l =
    (l.position + total (drop l.field l.widths) ≡ l.at + total l.widths)
    × (sets l.out l.field (fields_at l.bytes l.position (drop l.field l.widths)) ≡ sets l.initial.out 0 (fields_at l.bytes l.at l.widths))
