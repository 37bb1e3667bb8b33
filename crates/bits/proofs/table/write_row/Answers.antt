-- `bits::table::write_row` meets its contract: the goals that the check leaves. What the loop keeps is in Invariants.antt. Assumes nothing.
use mathlib.Core.Path.{◌≡◌, sym, ap, ◌∙◌}
use mathlib.Core.Logic.{inl, inr}
use native.Mathlib.Omega.{arith}
use lib.ListN.{length}
use Rattle.bits.proofs.Rows.{next_width, write_next, write_last}
use Rattle.bits.proofs.table.write_row.Goals as goal

pub put-requires : goal.put-requires
put-requires c =
    let next = next_width _ _ _ c.in-Some.ensures.steps.0 c.loop-width.invariant.0 in
    (next.0, omega arith, omega arith)

pub overflow_add-position : goal.overflow_add-position
overflow_add-position c = omega (arith, next_width _ _ _ c.in-Some.ensures.steps.0 c.loop-width.invariant.0)

pub loop-width-preserved : goal.loop-width-preserved
loop-width-preserved c =
    let l = c.loop-width in
    let steps = c.in-Some.ensures.steps in
    let next = next_width _ _ _ steps.0 l.invariant.0 in (
      next.2,
      omega (arith, ap length steps.0, ap length steps.1),
      omega arith,
      rw c.put.ensures (write_next l.bytes _ _ _ _ l.position _ _ steps.0 steps.1 ∙ l.invariant.3),
    )

pub returns : goal.returns
returns c =
    let l = c.loop-width in
    let none : length l.width-iterator.a.rest.now ≡ 0 = elim c.in-None.ensures.steps [ inl a ↦ a.1.0 | inr b ↦ omega (arith, b.1.0) ] in
    let last = write_last l.bytes _ l.width-iterator.b.rest.now l.position none in
    (omega arith, sym last.1 ∙ l.invariant.3)
