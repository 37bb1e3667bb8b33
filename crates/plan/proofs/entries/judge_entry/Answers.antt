-- `plan::entries::judge_entry` meets its contract: at each return the tests that led there say which case of `entry_test` holds. Assumes nothing.
use native.Mathlib.Omega.{arith}
use borrow.Author.Tests.{eq-eqb, ne_eqb, lt-ltb, le-ltb, le-leb, lt-leb}
use mathlib.Core.Bool.{Bool, true, false}
use mathlib.Core.Path.{◌≡◌, refl}
use lib.Dec.{leb}
use Prim.Native.Nat.{ℕ}
use Rattle.packets.specs.Outcome.{refuses, ◌when◌else◌}
use Rattle.plan.specs.Entries.{entry_test}
use Rattle.plan.proofs.entries.judge_entry.Goals as goal

pub returns-then-packet-ge-PACKET_END : goal.returns-then-packet-ge-PACKET_END
unfolding entry_test ◌when◌else◌
returns-then-packet-ge-PACKET_END c = simp (le-leb _ _ c.if-packet-ge-PACKET_END.true)

pub returns-then-start-ge-LAST_SECOND : goal.returns-then-start-ge-LAST_SECOND
unfolding entry_test ◌when◌else◌
returns-then-start-ge-LAST_SECOND c = simp (lt-leb _ _ c.if-packet-ge-PACKET_END.false, le-leb _ _ c.if-start-ge-LAST_SECOND.true)

pub returns-then-r-eq0 : goal.returns-then-r-eq0
unfolding entry_test ◌when◌else◌
returns-then-r-eq0 c = simp (lt-leb _ _ c.if-packet-ge-PACKET_END.false, lt-leb _ _ c.if-start-ge-LAST_SECOND.false, eq-eqb _ _ c.if-r-eq0.true)

pub returns-then-r-ge-SETTING_END : goal.returns-then-r-ge-SETTING_END
unfolding entry_test ◌when◌else◌
returns-then-r-ge-SETTING_END c = simp (lt-leb _ _ c.if-packet-ge-PACKET_END.false, lt-leb _ _ c.if-start-ge-LAST_SECOND.false, ne_eqb _ _ c.if-r-eq0.false, le-leb _ _ c.if-r-ge-SETTING_END.true)

pub returns-then-d-eq0 : goal.returns-then-d-eq0
unfolding entry_test ◌when◌else◌
returns-then-d-eq0 c = simp (lt-leb _ _ c.if-packet-ge-PACKET_END.false, lt-leb _ _ c.if-start-ge-LAST_SECOND.false, ne_eqb _ _ c.if-r-eq0.false, lt-leb _ _ c.if-r-ge-SETTING_END.false, eq-eqb _ _ c.if-d-eq0.true)

pub returns-then-d-gt-LAST_SECOND : goal.returns-then-d-gt-LAST_SECOND
unfolding entry_test ◌when◌else◌
returns-then-d-gt-LAST_SECOND c = simp (lt-leb _ _ c.if-packet-ge-PACKET_END.false, lt-leb _ _ c.if-start-ge-LAST_SECOND.false, ne_eqb _ _ c.if-r-eq0.false, lt-leb _ _ c.if-r-ge-SETTING_END.false, ne_eqb _ _ c.if-d-eq0.false, lt-ltb _ _ c.if-d-gt-LAST_SECOND.true)

pub returns-then-to-from : goal.returns-then-to-from
unfolding entry_test ◌when◌else◌
returns-then-to-from c = simp (lt-leb _ _ c.if-packet-ge-PACKET_END.false, lt-leb _ _ c.if-start-ge-LAST_SECOND.false, ne_eqb _ _ c.if-r-eq0.false, lt-leb _ _ c.if-r-ge-SETTING_END.false, ne_eqb _ _ c.if-d-eq0.false, le-ltb _ _ c.if-d-gt-LAST_SECOND.false, le-leb c.args.to c.args.from (omega arith))

-- the tests of the stretch and of its end refuse alike
either_way : (i : ℕ) (b : Bool) → refuses 10 i ≡ (refuses 10 i when b else refuses 10 i)
unfolding ◌when◌else◌
either_way i true = refl
either_way i false = refl

pub returns-then-to-ge-OFFSET_END : goal.returns-then-to-ge-OFFSET_END
unfolding entry_test ◌when◌else◌
returns-then-to-ge-OFFSET_END c =
    simp (lt-leb _ _ c.if-packet-ge-PACKET_END.false, lt-leb _ _ c.if-start-ge-LAST_SECOND.false, ne_eqb _ _ c.if-r-eq0.false, lt-leb _ _ c.if-r-ge-SETTING_END.false, ne_eqb _ _ c.if-d-eq0.false, le-ltb _ _ c.if-d-gt-LAST_SECOND.false, le-leb _ _ c.if-to-ge-OFFSET_END.true)
    (either_way c.args.i (leb c.args.to c.args.from))

pub returns : goal.returns
unfolding entry_test ◌when◌else◌
returns c = simp (lt-leb _ _ c.if-packet-ge-PACKET_END.false, lt-leb _ _ c.if-start-ge-LAST_SECOND.false, ne_eqb _ _ c.if-r-eq0.false, lt-leb _ _ c.if-r-ge-SETTING_END.false, ne_eqb _ _ c.if-d-eq0.false, le-ltb _ _ c.if-d-gt-LAST_SECOND.false, lt-leb c.args.to c.args.from (let h = c.if-to-from.false in omega arith), lt-leb _ _ c.if-to-ge-OFFSET_END.false)
