-- `bits::field::put` meets its contract. The loop's invariant: putting what is left of the field, from byte i on, into the bytes as they are now
-- gives what putting the whole field into the bytes at entry gives. Each turn patches one byte. Assumes nothing.
use Prim.Native.Nat.{◌-◌, ◌*◌, min, max}
use mathlib.Core.Path.{◌≡◌}
use Rattle.bits.specs.Field.{put_field, Bytes}
use Rattle.bits.proofs.field.put.Given as goal

abbrev pub invariant-loop-i : goal.invariant-loop-i
invariant-loop-i l =
    let from = min l.end (max l.at (8 * l.i)) in
    Bytes l.bytes × (put_field l.bytes from (l.end - from) l.value ≡ put_field l.initial.bytes l.at l.width l.value)
