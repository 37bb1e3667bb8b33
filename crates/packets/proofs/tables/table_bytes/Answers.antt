-- `packets::tables::table_bytes` meets its contract: the figures say what the widths add up to. Assumes nothing.
use Rattle.std.proofs.Common.{arith}
use Rattle.bits.specs.Table.{table_bytes}
use Rattle.packets.proofs.Wire.{parts_total}
use Rattle.packets.proofs.tables.table_bytes.Goals as goal

pub returns : goal.returns
unfolding table_bytes
returns g c = rw (c.bytes_for.ensures, c.head_width.ensures, c.row_width.ensures, parts_total) (omega arith)
