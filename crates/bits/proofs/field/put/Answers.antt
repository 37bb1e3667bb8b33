-- `bits::field::put` meets its contract: the goals that the check leaves. What the loop keeps is in Invariants.antt. Assumes nothing.
use Prim.Native.Nat.{◌+◌, ◌-◌, ◌*◌, min, max}
use mathlib.Core.Path.{◌≡◌, sym, ◌∙◌}
use native.Mathlib.Omega.{arith}
use Rattle.bits.proofs.Pieces.{set_bytes, put_turn, put_last}
use Rattle.bits.proofs.field.put.Goals as goal

pub loop-i-preserved : goal.loop-i-preserved
loop-i-preserved c =
    let a = c.args in
    let l = c.loop-i in
    let from = c.max-from.result in
    let taken = c.min-taken.result in
    let before : min (a.at + a.width) (max a.at (8 * l.i)) ≡ from = omega arith in
    let behind : min (a.at + a.width) (max a.at (8 * (l.i + 1))) ≡ from + taken = omega arith in
    let left : a.at + a.width - (from + taken) ≡ a.at + a.width - from - taken = omega arith in
    let put = put_turn l.bytes l.i from (a.at + a.width - from) taken a.value l.invariant.0
    (omega arith) (omega arith) (omega arith) (omega arith) (omega arith) (omega arith) in (
      set_bytes l.bytes l.i c.patch.result l.invariant.0 (omega arith) c.patch.type_inv,
      rw (behind, left, c.patch.ensures, c.cut.ensures.0) (put ∙ rw before at l.invariant.1),
    )

pub returns : goal.returns
returns c =
    let l = c.loop-i in
    sym (put_last l.bytes _ _ _ l.invariant.0 (omega arith)) ∙ l.invariant.1
