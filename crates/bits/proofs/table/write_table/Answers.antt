-- `bits::table::write_table` meets its contract: the head, the rows and the unused bits are put one behind the other (`table_steps`). Each fits, since
-- a table fills its bytes exactly (`table_parts`, which src/table.rt names). Assumes nothing.
use Rattle.bits.proofs.Rows.{table_steps}
use Rattle.bits.proofs.table.write_table.Goals as goal
use Rattle.bits.proofs.table.write_table.Goals.{Start}

pub returns : goal.returns
returns c =
    let a = c.args in
    table_steps a.bytes.now a.lead.now a.row.now a.head.now a.values.now a.count c.requires.values_given.0 c.requires.values_given.1 _ _ _ _ _ _
    c.write_row-head_end.ensures.0
    c.write_row-head_end.ensures.1
    c.write_rows-end.ensures.0
    c.write_rows-end.ensures.1
    c.unused_bits.ensures.0
    c.put.ensures
