-- `policy::setup::Setup::early` meets its contract: before the first that arrives from s on, all arrive before s. Assumes nothing.
use Rattle.std.proofs.Common.{◌<◌, ◌≤◌, arith, rules, take}
use Rattle.std.proofs.lemmas.Iterator.{IsFirst-from_position, YieldsList-from_slice}
use Rattle.policy.specs.declared.row.Due.{Due}
use Rattle.policy.proofs.Sweeping.{front_early}
use Rattle.policy.proofs.setup.Setup.early.Goals as goal

pub returns-clause-early : goal.returns-clause-early
returns-clause-early c j h =
    front_early _ _ _ c.position.result (omega (arith, c.args.self.now.ready.few))
    (IsFirst-from_position _ _ _ (λ (due : Due). c.args.s ≤ due.arrival) (λ (due : Due). due.arrival < c.args.s) c.position.ensures.ran (YieldsList-from_slice (take c.args.self.now.packets.count c.args.self.now.row) cc)
    (λ x q k. grind arith) (λ x q k. (search rules, grind arith))) j (rw c.unwrap_or.ensures at h)
