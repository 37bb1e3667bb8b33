-- `bits::table::read_rows` meets its contract. The loop's invariant: out holds the rows so far, and the position is behind them. Each turn reads one row.
-- Assumes nothing.
use Prim.Native.Nat.{◌+◌}
use mathlib.Core.Path.{◌≡◌}
use lib.Seq.{sets}
use Rattle.bits.specs.Table.{total, rows, fields_at}
use Rattle.bits.proofs.table.read_rows.Given as goal

abbrev pub invariant-loop-row : goal.invariant-loop-row
invariant-loop-row l =
    (l.position ≡ l.at + total (rows l.row l.widths)) × (l.out ≡ sets l.initial.out 0 (fields_at l.bytes l.at (rows l.row l.widths)))
