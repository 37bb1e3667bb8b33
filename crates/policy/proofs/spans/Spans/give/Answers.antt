-- `policy::spans::Spans::give` meets its contract: the goals that the check leaves. What the loop keeps is in Invariants.antt. Assumes nothing.
use Rattle.std.proofs.Common.{◌<◌, ◌∙◌, arith, length, sym}
use Rattle.policy.proofs.Filling.{halfway_more, halfway_same}
use Rattle.policy.proofs.Giving.{gift_taken, gift_outside, gift_held}
use Rattle.policy.proofs.spans.Spans.give.Goals as goal
use Rattle.policy.proofs.spans.Spans.give.Goals.{then-is_none+then-lies_inside, else-is_none, else-is_none-via-then-is_none+else-lies_inside, else-is_none-via-else-is_none}

pub loop-i-preserved : goal.loop-i-preserved
loop-i-preserved c =
    let here : c.loop-i.i < length c.args.rates.now = omega (arith, c.requires, c.loop-i-test.true) in
    let same = c.loop-i.invariant.above c.loop-i.i (omega arith) in
    elim c.if-is_none.branch [
      | then-is_none+then-lies_inside w ↦
          rw w.rates-is
          (halfway_more _ _ _ _ _ _ here c.loop-i.invariant
          (gift_taken _ _ _ _ _ (rw same at c.is_none.ensures) w.if-is_none.true (sym w.lies_inside.ensures ∙ w.if-lies_inside.true)))
      | else-is_none w ↦
          rw w.rates-is
          (halfway_same _ _ _ _ _ c.loop-i.invariant
          (elim w.else-is_none.branch [
            | else-is_none-via-then-is_none+else-lies_inside v ↦ gift_outside _ _ _ _ _ (sym v.lies_inside.ensures ∙ v.if-lies_inside.false)
            | else-is_none-via-else-is_none v ↦ gift_held _ _ _ _ _ (rw same at c.is_none.ensures) v.if-is_none.false
          ]))
    ]
