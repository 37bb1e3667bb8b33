-- `timetable::epoch::Sheet::fill` meets its contract: the goals that the check leaves. What the loop keeps is in Invariants.antt. Assumes nothing.
use Rattle.std.proofs.Common.{arith}
use Rattle.timetable.proofs.Filling.{Ready, before_end, filling_first, filling_last, filling_next, full_is, rate_fits, ready, seconds_fit}
use Rattle.timetable.proofs.epoch.Sheet.fill.Goals as goal
use Rattle.timetable.proofs.epoch.Sheet.fill.Goals.{In-Some}

pub overflow_sub-epoch : goal.overflow_sub-epoch
overflow_sub-epoch c = omega (arith, before_end _ _ c.args.assigned.now.packets.accepted _ c.requires.carrying)

pub cross-full-requires : goal.cross-full-requires
cross-full-requires c = (
  omega (arith, seconds_fit _ _ c.args.assigned.now.packets.accepted _ c.requires.carrying),
  omega (arith, (rate_fits _ _ c.args.assigned.now.packets.accepted _ c.requires.carrying).n_most),
)

pub setting_of-r-requires : goal.setting_of-r-requires
setting_of-r-requires c =
    let r = rate_fits _ _ c.args.assigned.now.packets.accepted _ c.requires.carrying in
    (r.d_some, omega (arith, r.n_most), omega (arith, r.d_most))

pub loop-packet-init : goal.loop-packet-init
loop-packet-init c = filling_first _ _ c.args.assigned.now.packets.accepted _ c.requires.carrying _ _ _ c.requires.underway

-- the next stretch
turn : (c : In-Some) → Ready c.loop-packet.self.unsent c.loop-packet.self.count c.loop-packet.x c.in-Some.packet c.cross-full.result
turn c =
    ready _ _ c.args.assigned.now.packets.accepted _ c.requires.carrying _ c.args.assigned.now.assigned _ _ _ _ _
    (full_is _ _ c.args.assigned.now.packets.accepted _ c.requires.carrying _ c.cross-full.ensures) c.loop-packet.invariant _ c.in-Some.ensures.choice

pub overflow_sub-full : goal.overflow_sub-full
overflow_sub-full c = omega (arith, (turn (goal.at.overflow_sub-full c).In-Some).room)

pub bounds-entries-self : goal.bounds-entries-self
bounds-entries-self c = omega (arith, (turn (goal.at.bounds-entries-self c).In-Some).few)

pub loop-packet-smaller : goal.loop-packet-smaller
loop-packet-smaller c = let t = turn (goal.at.loop-packet-smaller c).In-Some in omega (arith, c.min-y.ensures, t.room, t.some)

pub loop-packet-preserved : goal.loop-packet-preserved
loop-packet-preserved c =
    filling_next _ _ c.args.assigned.now.packets.accepted _ c.requires.carrying _ c.args.assigned.now.assigned _ _ _ _ _
    (full_is _ _ c.args.assigned.now.packets.accepted _ c.requires.carrying _ c.cross-full.ensures) c.loop-packet.invariant _ c.in-Some.ensures.choice _ _ (omega (arith, c.min-y.ensures))
    c.setting_of-r.ensures

pub returns : goal.returns
returns c =
    filling_last _ _ c.args.assigned.now.packets.accepted _ c.requires.carrying _ c.args.assigned.now.assigned _ _ _ _ _
    (full_is _ _ c.args.assigned.now.packets.accepted _ c.requires.carrying _ c.cross-full.ensures) c.loop-packet.invariant c.in_default.ensures.choice
