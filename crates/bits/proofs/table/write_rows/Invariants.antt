-- `bits::table::write_rows` meets its contract. The loop's invariant: the bytes hold the rows so far, and the position is behind them. Each turn writes
-- one row. Assumes nothing.
use Prim.Native.Nat.{◌+◌}
use mathlib.Core.Path.{◌≡◌}
use Rattle.bits.specs.Table.{total, rows, put_fields}
use Rattle.bits.proofs.table.write_rows.Given as goal

abbrev pub invariant-loop-row : goal.invariant-loop-row
invariant-loop-row l =
    (l.position ≡ l.at + total (rows l.row l.widths)) × (l.bytes ≡ put_fields l.initial.bytes l.at (rows l.row l.widths) l.values)
