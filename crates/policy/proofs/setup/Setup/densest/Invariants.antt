-- `policy::setup::Setup::densest` meets its contract. The invariant: the leader is that of the first i arrivals, and its cross products fit. Assumes nothing.
use Rattle.std.proofs.Common.{◌≡◌, IfSome}
use Rattle.policy.specs.Steps.{led_by, Small}
use Rattle.policy.proofs.setup.Setup.densest.Given as goal

abbrev pub invariant-loop-i : goal.invariant-loop-i
invariant-loop-i l = (l.leader ≡ led_by l.self l.passed l.left l.i) × IfSome l.leader Small
