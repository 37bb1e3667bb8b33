-- `bits::field::patch` meets its contract: what stands in the piece is taken out, the value is put in, and the byte stays a byte (`patched_lt`).
-- Assumes nothing.
use Prim.Native.Nat.{◌+◌, ◌-◌, ◌*◌, ◌%◌, ◌^◌}
use mathlib.Core.Path.{◌≡◌}
use native.Mathlib.Omega.{arith}
use lib.Pow.{shl_exact}
use Rattle.bits.proofs.Pieces.{patched, patched_lt, patch_piece}
use Rattle.bits.proofs.field.patch.Goals as goal
use Rattle.bits.proofs.field.patch.Goals.{After-cut-old}

made : (c : After-cut-old)
    → let a = c.args in
    c.from-whole.result - c.cut-old.result * 2 ^ a.below % 2 ^ 64 + a.value * 2 ^ a.below % 2 ^ 64 ≡ patched a.byte a.below a.taken a.value
made c =
    let a = c.args in
    let old = shl_exact a.taken a.below 64 c.cut-old.ensures.1 (omega arith) in
    let new = shl_exact a.taken a.below 64 c.requires.1 (omega arith) in
    rw (old, new, c.cut-old.ensures.0, c.from-whole.ensures) (patch_piece a.byte a.below a.taken a.value).1

pub overflow_cast-result : goal.overflow_cast-result
overflow_cast-result c =
    let a = c.args in
    record { fits = rw (made (goal.at.overflow_cast-result c).After-cut-old) (patched_lt a.byte a.below a.taken a.value c.ranges.byte.fits c.requires.0 c.requires.1) }

pub returns : goal.returns
returns c = made (goal.at.returns c).After-cut-old
