-- `downcrook_c::downcrook_read_list` meets its contract: refusal, place and packets are the judge's, the records are as the reader leaves them, and the bytes that
-- the reader does not hand back are the judge's too (`rest_taken`). Assumes nothing.
use Prim.Native.Nat.{◌-◌, ◌≤◌}
use mathlib.Core.Path.{◌≡◌, ap, ◌∙◌}
use lib.ListN.{length}
use Rattle.packets.specs.List.{read_outcome}
use Rattle.downcrook_c.specs.Shown.{shown, listed_fields}
use Rattle.downcrook_c.proofs.Taken.{rest_taken}
use Rattle.downcrook_c.proofs.downcrook_read_list.Goals as goal
use Rattle.downcrook_c.proofs.downcrook_read_list.Goals.{After-slice_known-2-1}

-- the judge's numbers
numbers : (c : After-slice_known-2-1)
    → listed_fields c.into-judged.result
    ≡ shown 2 (read_outcome c.args.bytes.now (length c.args.records.now))
numbers c = c.into-judged.ensures ∙ ap (shown 2) c.judge_list.ensures

-- what is handed back, and what judging shows: all that `rest_taken` asks
taken : (c : After-slice_known-2-1)
    → (length c.read_list-rest.result.now ≤ length c.args.bytes.now)
    × (length c.args.bytes.now - length c.read_list-rest.result.now
    ≡ c.into-judged.result.bytes)
taken c = rw c.read_list-rest.ensures.0 (rest_taken _ _ _ _ _ _ (numbers c))

pub overflow_sub-result : goal.overflow_sub-result
overflow_sub-result c = (taken (goal.at.overflow_sub-result c).After-slice_known-2-1).0

pub returns : goal.returns
returns c = (rw (taken (goal.at.returns c).After-slice_known-2-1).1 (numbers (goal.at.returns c).After-slice_known-2-1), c.read_list-rest.ensures.1)
