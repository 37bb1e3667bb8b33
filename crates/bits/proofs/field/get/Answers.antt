-- `bits::field::get` meets its contract: the goals that the check leaves. What the loop keeps is in Invariants.antt. Assumes nothing.
use Prim.Native.Nat.{◌+◌, ◌-◌, ◌*◌, ◌/◌, ◌%◌, ◌^◌, ◌<◌, ◌≤◌}
use mathlib.Core.Path.{◌≡◌, refl, ◌∙◌}
use native.Mathlib.Omega.{arith}
use native.Mathlib.Nat.{lt_of_lt_of_le}
use lib.ListN.{take, drop, length, length-drop}
use lib.Seq.{length-take-le, get_or-take, get_or-drop}
use lib.Pow.{pow_mono, shl_exact}
use Rattle.std.proofs.lemmas.Nat.{and_mask}
use Rattle.bits.specs.Field.{field_at, spelt}
use Rattle.bits.proofs.Fields.{field_lt}
use Rattle.bits.proofs.Pieces.{get_turn, field_within}
use Rattle.bits.proofs.field.get.Goals as goal
use Rattle.bits.proofs.field.get.Goals.{After-div_ceil}

-- as many bytes as the field touches
touched : (c : After-div_ceil)
    → length (take (c.div_ceil.result - c.args.at / 8) (drop (c.args.at / 8) c.args.bytes.now)) ≡ c.div_ceil.result - c.args.at / 8
touched c = length-take-le _ _ (omega (arith, length-drop (c.args.at / 8) c.args.bytes.now))

pub loop-byte-init : goal.loop-byte-init
unfolding field_at spelt
loop-byte-init c = refl

pub loop-byte-preserved : goal.loop-byte-preserved
loop-byte-preserved c =
    let bytes = c.args.bytes.now in
    let k = c.args.at / 8 in
    let l = c.loop-byte in
    let within : l.byte-index < c.div_ceil.result - k = omega (arith, touched (goal.at.loop-byte-preserved c).After-div_ceil) in
    let narrow : 8 * l.byte-index ≤ 64 = omega arith in
    let short : 2 ^ (8 * l.byte-index) ≤ 2 ^ 64 = pow_mono narrow in
    let small : l.whole < 2 ^ 64 = rw l.invariant (lt_of_lt_of_le (field_lt bytes (8 * k) (8 * l.byte-index)) short) in
    let shifted : l.whole * 256 % 2 ^ 128 ≡ l.whole * 256 = shl_exact 64 8 128 small (omega arith) in
    let byte = get_or-take (c.div_ceil.result - k) (drop k bytes) l.byte-index 0 within ∙ get_or-drop k bytes l.byte-index 0 in
    rw (shifted, c.from.ensures, byte, l.invariant) (get_turn bytes k l.byte-index (c.type_inv.bytes (k + l.byte-index)).fits)

pub returns : goal.returns
returns c =
    let a = c.args in
    let k = a.at / 8 in
    let l = c.loop-byte in
    let all : 8 * l.byte-index ≡ a.at % 8 + a.width + c.unused_bits.result = omega (arith, touched (goal.at.returns c).After-div_ceil) in
    let at : 8 * k + a.at % 8 ≡ a.at = omega arith in
    let power : 1 * 2 ^ a.width % 2 ^ 128 ≡ 2 ^ a.width = shl_exact 1 a.width 128 (omega arith) (omega arith) ∙ omega arith in
    rw (power, and_mask, l.invariant, all, field_within, at) (refl, field_lt a.bytes.now a.at a.width)
