-- `bits::field::get` meets its contract. The loop's invariant: the number so far is the one that the bits of the bytes so far spell.
-- Assumes nothing.
use Prim.Native.Nat.{◌*◌, ◌/◌}
use mathlib.Core.Path.{◌≡◌}
use Rattle.bits.specs.Field.{field_at}
use Rattle.bits.proofs.field.get.Given as goal

abbrev pub invariant-loop-byte : goal.invariant-loop-byte
invariant-loop-byte l = l.whole ≡ field_at l.bytes (8 * (l.at / 8)) (8 * l.byte-index)
