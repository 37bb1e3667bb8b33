-- `timetable::assigned::Assigned::units` meets its contract: both figures are below 2^32. Assumes nothing.
use Rattle.std.proofs.Common.{arith}
use Rattle.timetable.proofs.Assigning.{air_small, units_are}
use Rattle.timetable.proofs.assigned.Assigned.units.Goals as goal

pub cross-requires : goal.cross-requires
cross-requires c =
    (omega (arith, c.air_size.ensures, air_small _ _ c.args.self.now.packets.accepted c.args.i c.requires), omega (arith, c.rate.ensures.d_most))

pub returns : goal.returns
returns c = units_are _ _ c.args.self.now.packets.accepted _ _ _ _ c.rate.ensures c.air_size.ensures c.cross.ensures
