-- `policy::densest::Leader::comes_before` meets its contract: the cross products decide, then the starts, then the ends. Assumes nothing.
use Rattle.std.proofs.Common.{arith}
use Rattle.policy.specs.Steps.{leader_ahead}
use Rattle.policy.proofs.Order.{denser_first, earlier_first, later_end_first}
use Rattle.policy.proofs.Sweeping.{figures_of}
use Rattle.policy.proofs.densest.Leader.comes_before.Goals as goal

pub returns-then-here-there : goal.returns-then-here-there
unfolding leader_ahead
returns-then-here-there c =
    rw (c.cross-there.ensures, c.cross-here.ensures)
    (denser_first (figures_of c.args.self.now) (figures_of c.args.other.now) (λ e. c.if-here-there.true (omega (arith, e, c.cross-there.ensures, c.cross-here.ensures))))

pub returns-then-self-other : goal.returns-then-self-other
unfolding leader_ahead
returns-then-self-other c =
    earlier_first (figures_of c.args.self.now) (figures_of c.args.other.now)
    (omega (arith, c.if-here-there.false, c.cross-there.ensures, c.cross-here.ensures)) c.if-self-other.true

pub returns : goal.returns
unfolding leader_ahead
returns c =
    later_end_first (figures_of c.args.self.now) (figures_of c.args.other.now)
    (omega (arith, c.if-here-there.false, c.cross-there.ensures, c.cross-here.ensures)) c.if-self-other.false
