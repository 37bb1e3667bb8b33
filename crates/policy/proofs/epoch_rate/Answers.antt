-- `policy::epoch_rate` meets its contract: each return goes by the test that led there. Assumes nothing.
use Rattle.std.proofs.Common.{refl, sym}
use native.Mathlib.Nat.{pos_of_ne-zero}
use Rattle.policy.specs.Answer.{given_by}
use Rattle.policy.proofs.Answering.{given_rate}
use Rattle.policy.proofs.epoch_rate.Goals as goal

pub returns-then-d-eq0 : goal.returns-then-d-eq0
unfolding given_by
returns-then-d-eq0 c = rw c.if-d-eq0.true refl

pub returns : goal.returns
returns c = sym (given_rate _ _ (pos_of_ne-zero c.if-d-eq0.false))
