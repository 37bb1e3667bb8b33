-- `packets::judge::judge_packets` meets its contract: the count is tested, then the records. Assumes nothing.
use Rattle.std.proofs.Common.{length, sym, ◌∙◌}
use Rattle.std.proofs.lemmas.Result.{err_from_is_err_and}
use Rattle.packets.specs.Records.{record_tests, memory_tests}
use Rattle.packets.specs.Forms.{list_form}
use Rattle.packets.proofs.Outcomes.{passed_then, refused_then}
use Rattle.packets.proofs.Wire.{count_parts, count_held}
use Rattle.packets.proofs.judge.judge_packets.Goals as goal

pub returns-in_err-judge_count : goal.returns-in_err-judge_count
unfolding memory_tests
returns-in_err-judge_count c =
    let p = err_from_is_err_and c.from_residual.result c.from_residual.ensures.1 in
    rw (p.1, p.2) (sym (count_parts list_form c.args.count (length c.args.records.now) (record_tests c.args.count 0 c.args.records.now) ∙ refused_then _ _ c.in_err-judge_count.ensures))

pub judge_rows-requires : goal.judge_rows-requires
judge_rows-requires c = count_held _ _ _ c.in_ok-judge_count.ensures

pub returns : goal.returns
unfolding memory_tests record_tests
returns c = c.judge_rows.ensures ∙ sym (count_parts list_form c.args.count (length c.args.records.now) (record_tests c.args.count 0 c.args.records.now) ∙ passed_then _ c.in_ok-judge_count.ensures)
