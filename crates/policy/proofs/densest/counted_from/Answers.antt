-- `policy::densest::counted_from` meets its contract: what stands above 2^32 is 1 from s on and 0 before. Assumes nothing.
use Rattle.policy.proofs.Sweeping.{counted_so}
use Rattle.policy.proofs.densest.counted_from.Goals as goal

pub returns : goal.returns
returns c = counted_so _ _ _ c.requires.0 c.requires.1
