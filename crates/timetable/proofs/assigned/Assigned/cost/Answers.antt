-- `timetable::assigned::Assigned::cost` meets its contract: both figures are below 2^32. Assumes nothing.
use Rattle.std.proofs.Common.{arith}
use Rattle.timetable.proofs.Assigning.{air_small, cost_is, setting_small}
use Rattle.timetable.proofs.assigned.Assigned.cost.Goals as goal

pub cross-requires : goal.cross-requires
cross-requires c = (
  omega (arith, c.air_size.ensures, air_small _ _ c.args.self.now.packets.accepted c.args.i c.requires),
  omega (arith, c.setting_of.ensures, setting_small _ _ c.args.self.now.packets.accepted c.args.i _ c.requires c.rate.ensures),
)

pub returns : goal.returns
returns c = cost_is _ _ c.args.self.now.packets.accepted _ _ _ _ _ c.rate.ensures c.air_size.ensures c.setting_of.ensures c.cross.ensures
