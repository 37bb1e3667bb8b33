-- `packets::list::read_list` meets its contract: a list that is read lies inside the bytes (`read_told`), and what then stands in every buffer is what
-- `read_done` says; a refusal leaves all as it was. Assumes nothing.
use Rattle.std.proofs.Common.{◌≡◌, ◌∷◌, [], length, arith, sym, ◌∙◌}
use Rattle.bits.specs.Table.{total}
use Rattle.packets.specs.Outcome.{gives}
use Rattle.packets.specs.List.{list_bytes, read_outcome, records_after, rest_after}
use Rattle.packets.proofs.Outcomes.{refused_leaves}
use Rattle.packets.proofs.Lists.{list_outcome, read_told, read_done}
use Rattle.packets.proofs.list.read_list.Goals as goal
use Rattle.packets.proofs.list.read_list.Goals.{In-Ok}

-- what reading comes to, where it gives a list
told : (c : In-Ok) → gives (c.in-Ok.count ∷ list_bytes c.in-Ok.count ∷ []) ≡ read_outcome c.args.bytes.now (length c.args.records.now)
told c = rw c.in-Ok.ensures.passed.0 (c.in-Ok.ensures.passed.1 _ ∙ sym (list_outcome _ _))

pub list_bytes-requires : goal.list_bytes-requires
list_bytes-requires c = omega (arith, (read_told _ _ _ _ (told (goal.at.list_bytes-requires c).In-Ok)).few)

pub slice_bounds-result-count : goal.slice_bounds-result-count
slice_bounds-result-count c = rw c.list_bytes.ensures (read_told _ _ _ _ (told (goal.at.slice_bounds-result-count c).In-Ok)).within

pub slice_bounds-result-start : goal.slice_bounds-result-start
slice_bounds-result-start c = rw c.list_bytes.ensures (read_told _ _ _ _ (told (goal.at.slice_bounds-result-start c).In-Ok)).within

pub returns : goal.returns
unfolding total
returns c = rw c.list_bytes.ensures (read_done _ _ _ _ _ (told (goal.at.returns c).In-Ok) c.in-Ok.ensures.filled)

pub returns-in_default : goal.returns-in_default
unfolding rest_after records_after
returns-in_default c =
    let e = c.in_default.ensures.refused _ ∙ sym (list_outcome c.args.bytes.now (length c.args.records.now)) in
    (sym (refused_leaves _ _ _ e), c.in_default.ensures.kept ∙ sym (refused_leaves _ _ _ e))
