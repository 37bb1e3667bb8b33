-- An epoch that was given a rate carries it. Assumes nothing.
use Rattle.std.proofs.Common.{refl}
use Rattle.policy.proofs.EpochRateFromOptionRate.from.Goals as goal

pub returns-in-Some : goal.returns-in-Some
returns-in-Some c = rw c.in-Some.is refl
