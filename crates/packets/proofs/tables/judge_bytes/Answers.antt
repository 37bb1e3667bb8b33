-- `packets::tables::judge_bytes` meets its contract: at each return the tests that led there say which case of `table_tests` holds. Assumes nothing.
use Rattle.std.proofs.Common.{◌≡◌, ◌+◌, ◌*◌, arith, ◌∙◌, mul-le-mul_left}
use borrow.Author.Tests.{eq-eqb}
use Rattle.bits.specs.Table.{total, unused_at, field_widths, table_bytes}
use Rattle.packets.specs.Outcome.{◌when◌else◌}
use Rattle.packets.specs.Wire.{head_of, table_tests}
use Rattle.packets.proofs.Outcomes.{placeless}
use Rattle.packets.proofs.Wire.{parts_total, no_rows, many_rows, few_bytes, unused_bit, no_fault}
use Rattle.packets.proofs.tables.judge_bytes.Given as given
use Rattle.packets.proofs.tables.judge_bytes.Goals as goal
use Rattle.packets.proofs.tables.judge_bytes.Goals.{After-get}

pub returns-then-bytes-eq0-clause-tests : goal.returns-then-bytes-eq0-clause-tests
unfolding table_tests ◌when◌else◌
returns-then-bytes-eq0-clause-tests g c = simp (eq-eqb _ _ c.if-bytes-eq0.true)

pub returns-then-count-eq0-clause-tests : goal.returns-then-count-eq0-clause-tests
returns-then-count-eq0-clause-tests g c =
    placeless _ _ c.none.ensures g.met.T.Table.laws.none_placeless ∙ no_rows _ _ _ _ _ _ _ _ c.count_on-count.ensures.value c.if-bytes-eq0.false c.if-count-eq0.true

pub returns-then-most-count-clause-tests : goal.returns-then-most-count-clause-tests
returns-then-most-count-clause-tests g c =
    placeless _ _ c.many.ensures g.met.T.Table.laws.many_placeless
    ∙ many_rows _ _ _ _ _ _ _ _ c.count_on-count.ensures.value c.if-bytes-eq0.false c.if-count-eq0.false (rw c.most.ensures at c.if-most-count.true)

pub returns-then-bytes-table_bytes-clause-tests : goal.returns-then-bytes-table_bytes-clause-tests
returns-then-bytes-table_bytes-clause-tests g c =
    few_bytes _ _ _ _ _ _ _ _ c.count_on-count.ensures.value c.if-bytes-eq0.false c.if-count-eq0.false (rw c.most.ensures at c.if-most-count.false)
    (rw c.table_bytes.ensures at c.if-bytes-table_bytes.true)

pub get-requires : goal.get-requires
unfolding table_bytes
get-requires g c =
    let h = c.head_width.ensures in
    let r = c.row_width.ensures in
    let is : total (field_widths (head_of g.T.Table.form) g.T.Table.form.row c.count_on-count.result) ≡ c.head_width.result + c.row_width.result * c.count_on-count.result = rw (h, r) (parts_total _ _ _) in
    let held = rw (c.table_bytes.ensures, is) at c.if-bytes-table_bytes.false in
    let u = c.unused_bits.ensures in
    let few = mul-le-mul_left c.row_width.result c.count_on-count.ensures.fits in
    let fits = rw (← h, ← r) at g.met.T.Table.laws.bits_fit in
    (omega arith, omega arith, omega arith)

-- what was read from the unused bits
unused : (g : given.Over) (c : After-get g)
    → c.get.result ≡ unused_at c.args.bytes.now (head_of g.T.Table.form) g.T.Table.form.row c.count_on-count.result
unfolding unused_at
unused g c =
    let is : total (field_widths (head_of g.T.Table.form) g.T.Table.form.row c.count_on-count.result) ≡ c.head_width.result + c.row_width.result * c.count_on-count.result = rw (c.head_width.ensures, c.row_width.ensures) (parts_total _ _ _) in
    c.get.ensures.0 ∙ rw (is, c.unused_bits.ensures.0)

pub returns-then-get-gt0-clause-tests : goal.returns-then-get-gt0-clause-tests
returns-then-get-gt0-clause-tests g c =
    unused_bit _ _ _ _ _ _ _ _ c.count_on-count.ensures.value c.if-bytes-eq0.false c.if-count-eq0.false (rw c.most.ensures at c.if-most-count.false)
    (rw c.table_bytes.ensures at c.if-bytes-table_bytes.false) (let u = unused g (goal.at.returns-then-get-gt0-clause-tests g c).After-get in let h = c.if-get-gt0.true in omega arith)

pub returns-clause-tests : goal.returns-clause-tests
returns-clause-tests g c =
    no_fault _ _ _ _ _ _ _ _ c.count_on-count.ensures.value c.if-bytes-eq0.false c.if-count-eq0.false (rw c.most.ensures at c.if-most-count.false)
    (rw c.table_bytes.ensures at c.if-bytes-table_bytes.false) (let u = unused g (goal.at.returns-clause-tests g c).After-get in let h = c.if-get-gt0.false in omega arith)
