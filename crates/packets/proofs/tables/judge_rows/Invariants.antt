-- `packets::tables::judge_rows` meets its contract. The loop's invariant: the tests from row i on come to what all the tests come to. Each turn takes the
-- tests of one row off the front. Assumes nothing.
use Rattle.std.proofs.Common.{◌≡◌, ◌-◌}
use Rattle.packets.specs.Outcome.{in_order}
use Rattle.packets.proofs.tables.judge_rows.Given as goal

abbrev pub invariant-loop-i : goal.invariant-loop-i
invariant-loop-i g l = in_order (g.T.Table.form.row_test l.numbers) (l.count - l.i) l.i ≡ in_order (g.T.Table.form.row_test l.numbers) l.count 0
