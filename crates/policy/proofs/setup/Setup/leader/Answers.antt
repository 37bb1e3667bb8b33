-- `policy::setup::Setup::leader` meets its contract: what is left is no more than the weights, so that the sums fit. Assumes nothing.
use Rattle.policy.proofs.Fitting.{sweep_fits}
use Rattle.policy.proofs.setup.Setup.leader.Goals as goal

pub densest-requires : goal.densest-requires
densest-requires c = sweep_fits _ c.args.self.now.ready _ _ _ _ c.passed-passed.ensures c.left-left.ensures
