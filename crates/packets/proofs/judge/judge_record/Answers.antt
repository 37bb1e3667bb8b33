-- `packets::judge::judge_record` meets its contract: at each return the tests that led there say which case of `record_test` holds.
-- Assumes nothing.
use native.Mathlib.Omega.{arith}
use borrow.Author.Tests.{eq-eqb, ne_eqb, lt-ltb, le-ltb, le-leb, lt-leb}
use Rattle.packets.specs.Outcome.{◌when◌else◌}
use Rattle.packets.specs.Records.{record_test}
use Rattle.packets.proofs.judge.judge_record.Goals as goal

pub returns-then-size-eq0 : goal.returns-then-size-eq0
unfolding record_test ◌when◌else◌
returns-then-size-eq0 c = simp (eq-eqb _ _ c.if-size-eq0.true)

pub returns-then-size-gt-LARGEST_SIZE : goal.returns-then-size-gt-LARGEST_SIZE
unfolding record_test ◌when◌else◌
returns-then-size-gt-LARGEST_SIZE c = simp (ne_eqb _ _ c.if-size-eq0.false, lt-ltb _ _ c.if-size-gt-LARGEST_SIZE.true)

pub returns-then-deadline-gt-LAST_SECOND : goal.returns-then-deadline-gt-LAST_SECOND
unfolding record_test ◌when◌else◌
returns-then-deadline-gt-LAST_SECOND c = simp (ne_eqb _ _ c.if-size-eq0.false, le-ltb _ _ c.if-size-gt-LARGEST_SIZE.false, lt-ltb _ _ c.if-deadline-gt-LAST_SECOND.true)

pub returns-then-deadline-arrival : goal.returns-then-deadline-arrival
unfolding record_test ◌when◌else◌
returns-then-deadline-arrival c =
    simp (
      ne_eqb _ _ c.if-size-eq0.false,
      le-ltb _ _ c.if-size-gt-LARGEST_SIZE.false,
      le-ltb _ _ c.if-deadline-gt-LAST_SECOND.false,
      le-leb c.args.deadline c.args.arrival (omega arith),
    )

pub returns : goal.returns
unfolding record_test ◌when◌else◌
returns c =
    simp (
      ne_eqb _ _ c.if-size-eq0.false,
      le-ltb _ _ c.if-size-gt-LARGEST_SIZE.false,
      le-ltb _ _ c.if-deadline-gt-LAST_SECOND.false,
      lt-leb c.args.deadline c.args.arrival (let h = c.if-deadline-arrival.false in omega arith),
    )
