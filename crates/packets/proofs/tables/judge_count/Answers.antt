-- `packets::tables::judge_count` meets its contract: at each return the tests that led there say which case of `count_tests` holds. Assumes nothing.
use Rattle.std.proofs.Common.{◌∙◌, ◌*◌, length, arith}
use borrow.Author.Tests.{eq-eqb, ne_eqb, lt-ltb, le-ltb}
use Rattle.packets.specs.Outcome.{◌when◌else◌}
use Rattle.packets.specs.Wire.{count_tests}
use Rattle.packets.proofs.Outcomes.{placeless}
use Rattle.packets.proofs.tables.judge_count.Goals as goal

pub returns-then-count-eq0 : goal.returns-then-count-eq0
unfolding count_tests ◌when◌else◌
returns-then-count-eq0 g c = placeless _ _ c.none.ensures g.met.T.Table.laws.none_placeless ∙ simp (eq-eqb _ _ c.if-count-eq0.true)

pub returns-then-most-count : goal.returns-then-most-count
unfolding count_tests ◌when◌else◌
returns-then-most-count g c =
    placeless _ _ c.many.ensures g.met.T.Table.laws.many_placeless ∙ simp (ne_eqb _ _ c.if-count-eq0.false, lt-ltb _ _ (rw c.most.ensures at c.if-most-count.true))

pub returns-then-numbers-row_widths : goal.returns-then-numbers-row_widths
unfolding count_tests ◌when◌else◌
returns-then-numbers-row_widths g c =
    simp (ne_eqb _ _ c.if-count-eq0.false, le-ltb _ _ (rw c.most.ensures at c.if-most-count.false), lt-ltb c.args.numbers (length g.T.Table.form.row * c.args.count) (let h = rw c.row_widths.ensures at c.if-numbers-row_widths.true in omega arith))

pub returns : goal.returns
unfolding count_tests ◌when◌else◌
returns g c =
    simp (ne_eqb _ _ c.if-count-eq0.false, le-ltb _ _ (rw c.most.ensures at c.if-most-count.false), le-ltb c.args.numbers (length g.T.Table.form.row * c.args.count) (let h = rw c.row_widths.ensures at c.if-numbers-row_widths.false in omega arith))
