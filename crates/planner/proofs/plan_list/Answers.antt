-- `planner::plan_list` meets its contract: a list that is read gives accepted packets, whose plan is written (`list_planned`); one that is refused changes
-- nothing (`list_refuses`). Assumes nothing.
use Rattle.std.proofs.Common.{◌≡◌, ◌≤◌, ◌∷◌, [], replicate, arith, sym, ◌∙◌}
use Rattle.std.proofs.lemmas.Result.{err_from_is_err_and}
use lib.Seq.{length-take-le}
use Rattle.bits.specs.Table.{total}
use Rattle.packets.specs.Outcome.{gives}
use Rattle.packets.specs.List.{list_bytes, read_outcome, records_after}
use Rattle.packets.proofs.Lists.{list_outcome, read_told, read_done}
use Rattle.planner.proofs.Packing.{records_accepted, list_planned, list_refuses}
use Rattle.planner.proofs.plan_list.Goals as goal
use Rattle.planner.proofs.plan_list.Goals.{In_ok-count}

pub returns-in_err-count : goal.returns-in_err-count
returns-in_err-count c =
    let p = err_from_is_err_and c.from_residual.result c.from_residual.ensures.1 in
    rw (p.1, p.2) (list_refuses _ _ _ (c.in_err-count.ensures.refused _ ∙ sym (list_outcome c.args.list.now 192)))

-- what reading comes to, where it gives a list
told : (c : In_ok-count) → gives (c.in_ok-count.count ∷ list_bytes c.in_ok-count.count ∷ []) ≡ read_outcome c.args.list.now 192
told c = rw c.in_ok-count.ensures.passed.0 (c.in_ok-count.ensures.passed.1 _ ∙ sym (list_outcome _ _))

few : (c : In_ok-count) → c.in_ok-count.count ≤ 64
few c = (read_told _ 192 _ _ (told c)).few

-- the records as they stand after it
held : (c : In_ok-count) → c.read_table.new.lent ≡ records_after c.args.list.now (replicate 192 0)
unfolding total
held c = (read_done _ _ _ _ _ (told c) c.in_ok-count.ensures.filled).1

pub overflow_mul-records : goal.overflow_mul-records
overflow_mul-records c = omega (arith, few (goal.at.overflow_mul-records c).In_ok-count)

pub slice_bounds-records-end : goal.slice_bounds-records-end
slice_bounds-records-end c = omega (arith, c.read_table.auto.lent, few (goal.at.slice_bounds-records-end c).In_ok-count)

pub slice_bounds-packets-end : goal.slice_bounds-packets-end
slice_bounds-packets-end c =
    let long = c.read_table.auto.lent in
    let most = few (goal.at.slice_bounds-packets-end c).In_ok-count in
    sym (length-take-le _ c.read_table.new.lent (omega (arith, long, most)))

pub invariant_of-packets : goal.invariant_of-packets
invariant_of-packets c =
    let at = (goal.at.invariant_of-packets c).In_ok-count in
    record { accepted = records_accepted _ (replicate 192 0) c.read_table.new.lent _ _ (told at) (held at) }

pub returns : goal.returns
returns c =
    let at = (goal.at.returns c).In_ok-count in
    list_planned _ (replicate 192 0) c.read_table.new.lent _ _ (told at) (held at) _ c.plan_packets.result c.plan_packets.new.frame c.plan_packets.ensures
