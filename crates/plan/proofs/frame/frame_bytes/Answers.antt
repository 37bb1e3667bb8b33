-- `plan::frame::frame_bytes` meets its contract: a frame is its head and the plan. Assumes nothing.
use Rattle.std.proofs.Common.{◌∙◌, arith}
use Rattle.plan.specs.Frame.{frame_bytes}
use Rattle.plan.proofs.Framing.{plan_bytes_is}
use Rattle.plan.proofs.frame.frame_bytes.Goals as goal

pub overflow_add-result : goal.overflow_add-result
overflow_add-result c = let e = c.table_bytes.ensures ∙ plan_bytes_is c.args.count in omega arith

pub returns : goal.returns
unfolding frame_bytes
returns c = let e = c.table_bytes.ensures in (omega arith, omega arith)
