-- `packets::tables::judge_table` meets its contract: the bytes are tested, then the rows, then the room, and the first refusal stands. Assumes nothing.
use Rattle.std.proofs.Common.{◌≡◌, ◌≤◌, ◌*◌, [], length, replicate, arith, sym, ◌∙◌, mul-le-mul_left}
use Rattle.std.proofs.lemmas.List.{length-replicate}
use Rattle.std.proofs.Math.Seq.{length-sets}
use Rattle.std.proofs.lemmas.Result.{err_from_is_err_and}
use Rattle.bits.specs.Table.{total, rows, fields_at}
use Rattle.bits.proofs.Tables.{total_rows}
use Rattle.packets.specs.Outcome.{in_order}
use Rattle.packets.specs.Wire.{count_at, head_of, table_outcome}
use Rattle.packets.proofs.Outcomes.{passed_then, refused_then, no_room, has_room}
use Rattle.packets.proofs.Wire.{Whole, wire_whole, whole_bits, rows_read}
use Rattle.packets.proofs.tables.judge_table.Given as given
use Rattle.packets.proofs.tables.judge_table.Goals as goal
use Rattle.packets.proofs.tables.judge_table.Goals.{In_ok-count, After-judge_rows}

pub returns-in_err-count-clause-refused : goal.returns-in_err-count-clause-refused
unfolding table_outcome
returns-in_err-count-clause-refused g c =
    let p = err_from_is_err_and c.from_residual.result c.from_residual.ensures.1 in
    rw (p.1, p.2) (λ values. sym (refused_then _ _ c.in_err-count.ensures.tests))

-- the bytes hold a whole table
whole : (g : given.Over) (c : In_ok-count g) → Whole (head_of g.T.Table.form) g.T.Table.form.row g.T.Table.form.most c.args.bytes.now
whole g c = (wire_whole _ _ _ _ _ _ c.args.bytes.now [] (sym c.in_ok-count.ensures.tests)).1

-- its rows are few enough
few : (g : given.Over) (c : In_ok-count g) → c.in_ok-count.count ≤ g.T.Table.form.most
few g c = let n = c.in_ok-count.ensures.count in omega (arith, (whole g c).few)

-- their numbers fit the buffer
held : (g : given.Over) (c : In_ok-count g) → length g.T.Table.form.row * c.in_ok-count.count ≤ g.row.NUMBERS
held g c = let most = mul-le-mul_left (length g.T.Table.form.row) (few g c) in omega (arith, c.requires.held)

pub read_rows-requires-clause-inside_bytes : goal.read_rows-requires-clause-inside_bytes
read_rows-requires-clause-inside_bytes g c =
    let n = c.in_ok-count.ensures.count in
    let bits = whole_bits _ _ _ _ c.in_ok-count.count (whole g (goal.at.read_rows-requires-clause-inside_bytes g c).In_ok-count) n in
    rw (c.head_width.ensures, c.row_widths-widths.ensures) bits

pub read_rows-requires-clause-position_fits : goal.read_rows-requires-clause-position_fits
read_rows-requires-clause-position_fits g c =
    let fits = g.met.T.Table.laws.bits_fit in
    let most = g.met.T.Table.laws.most_fits in
    let below = few g (goal.at.read_rows-requires-clause-position_fits g c).In_ok-count in
    let bits = mul-le-mul_left (total g.T.Table.form.row) (let b : c.in_ok-count.count ≤ 256 = omega arith in b) in
    rw (c.head_width.ensures, c.row_widths-widths.ensures, total_rows) (omega arith)

pub read_rows-requires-clause-inside_out : goal.read_rows-requires-clause-inside_out
read_rows-requires-clause-inside_out g c =
    let room = held g (goal.at.read_rows-requires-clause-inside_out g c).In_ok-count in
    rw (c.row_widths-widths.ensures, length-replicate) (omega arith)

pub judge_rows-requires : goal.judge_rows-requires
judge_rows-requires g c =
    let room = held g (goal.at.judge_rows-requires g c).In_ok-count in
    rw (c.read_rows.ensures, length-sets, length-replicate) room

-- the rows pass or refuse as they stand on the wire
as_on_wire : (g : given.Over) (c : After-judge_rows g)
    → in_order (g.T.Table.form.row_test c.read_rows.new.out) c.in_ok-count.count 0
    ≡ in_order (g.T.Table.form.row_test (fields_at c.args.bytes.now (total (head_of g.T.Table.form)) (rows (count_at c.args.bytes.now (head_of g.T.Table.form)) g.T.Table.form.row))) (count_at c.args.bytes.now (head_of g.T.Table.form)) 0
as_on_wire g c =
    let room = held g (goal.at.After-judge_rows g c).In_ok-count in
    rw (c.read_rows.ensures, c.row_widths-widths.ensures)
    (rows_read (head_of g.T.Table.form) g.T.Table.form.row g.T.Table.form.row_test g.met.T.Table.laws.own c.args.bytes.now (replicate g.row.NUMBERS 0) c.in_ok-count.count c.head_width.result
    c.in_ok-count.ensures.count c.head_width.ensures (rw length-replicate room))

pub returns-in_err-judge_rows-clause-refused : goal.returns-in_err-judge_rows-clause-refused
unfolding table_outcome
returns-in_err-judge_rows-clause-refused g c =
    let p = err_from_is_err_and c.from_residual-in_err-judge_rows.result c.from_residual-in_err-judge_rows.ensures.1 in
    rw (p.1, p.2) (λ values.
    sym (passed_then _ c.in_ok-count.ensures.tests ∙ refused_then _ _ (c.in_err-judge_rows.ensures ∙ as_on_wire g (goal.at.returns-in_err-judge_rows-clause-refused g c).After-judge_rows)))

pub overflow_mul-widths : goal.overflow_mul-widths
overflow_mul-widths g c =
    let room = held g (goal.at.overflow_mul-widths g c).In_ok-count in
    rw c.row_widths-widths.ensures (omega (arith, c.requires.fits))

pub returns-then-room-widths-clause-refused : goal.returns-then-room-widths-clause-refused
unfolding table_outcome
returns-then-room-widths-clause-refused g c values =
    no_room _ _ _ (c.in_ok-judge_rows.ensures ∙ as_on_wire g (goal.at.returns-then-room-widths-clause-refused g c).After-judge_rows)
    (let h = rw (c.row_widths-widths.ensures, c.in_ok-count.ensures.count) at c.if-room-widths.true in omega arith)
    ∙ sym (passed_then _ c.in_ok-count.ensures.tests)

pub returns-clause-passed : goal.returns-clause-passed
unfolding table_outcome
returns-clause-passed g c = (
  c.in_ok-count.ensures.count,
  λ values.
      has_room _ _ _ (c.in_ok-judge_rows.ensures ∙ as_on_wire g (goal.at.returns-clause-passed g c).After-judge_rows)
      (let h = rw (c.row_widths-widths.ensures, c.in_ok-count.ensures.count) at c.if-room-widths.false in omega arith)
      ∙ sym (passed_then _ c.in_ok-count.ensures.tests),
)
