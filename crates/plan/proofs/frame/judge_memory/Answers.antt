-- `plan::frame::judge_memory` meets its contract: the count is tested, then the cost, then the entries. Assumes nothing.
use Rattle.std.proofs.Common.{ℕ, ◌^◌, ◌≡◌, List, length, leb, arith, sym, ◌∙◌}
use Rattle.std.proofs.lemmas.Result.{err_from_is_err_and}
use borrow.Author.Tests.{le-leb, lt-leb}
use Rattle.packets.specs.Outcome.{refuses, ◌when◌else◌, ◌then◌}
use Rattle.packets.specs.Wire.{count_tests}
use Rattle.plan.specs.Forms.{plan_form}
use Rattle.plan.specs.Frame.{cost_width, memory_tests}
use Rattle.packets.proofs.Outcomes.{passed_then, refused_then}
use Rattle.plan.specs.Entries.{entry_tests}
use Rattle.packets.proofs.Wire.{count_parts, count_held}
use Rattle.plan.proofs.frame.judge_memory.Goals as goal

-- the count first, then the cost, then the entries
parts : (count : ℕ) (entries : List ℕ) (cost : ℕ)
    → memory_tests count entries cost
    ≡ (count_tests plan_form count (length entries) then refuses 11 0 when leb (2 ^ cost_width) cost else entry_tests count 0 entries)
unfolding memory_tests
parts count entries cost = count_parts plan_form count (length entries) _

pub returns-in_err-judge_count : goal.returns-in_err-judge_count
returns-in_err-judge_count c =
    let p = err_from_is_err_and c.from_residual.result c.from_residual.ensures.1 in
    rw (p.1, p.2) (sym (parts c.args.count c.args.entries.now c.args.cost ∙ refused_then _ _ c.in_err-judge_count.ensures))

pub returns-then-cost-ge-COST_END : goal.returns-then-cost-ge-COST_END
unfolding ◌when◌else◌
returns-then-cost-ge-COST_END c = rw (parts c.args.count c.args.entries.now c.args.cost ∙ passed_then _ c.in_ok-judge_count.ensures) (simp (le-leb (2 ^ 44) c.args.cost (let h = c.if-cost-ge-COST_END.true in omega arith)))

pub judge_rows-requires : goal.judge_rows-requires
judge_rows-requires c = count_held _ _ _ c.in_ok-judge_count.ensures

pub returns : goal.returns
unfolding entry_tests ◌when◌else◌
returns c =
    rw (parts c.args.count c.args.entries.now c.args.cost ∙ passed_then _ c.in_ok-judge_count.ensures)
    (simp (lt-leb (2 ^ 44) c.args.cost (let h = c.if-cost-ge-COST_END.false in omega arith)) c.judge_rows.ensures)
