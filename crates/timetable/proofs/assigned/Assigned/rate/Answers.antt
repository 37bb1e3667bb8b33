-- `timetable::assigned::Assigned::rate` meets its contract: every packet was given one. Assumes nothing.
use Rattle.std.proofs.Common.{sym, ap, ◌∙◌}
use Rattle.policy.specs.Answer.{given_of}
use Rattle.timetable.proofs.Assigning.{rate_is, rate_there}
use Rattle.timetable.proofs.assigned.Assigned.rate.Goals as goal

pub unwrap-requires : goal.unwrap-requires
unwrap-requires c = rate_there _ _ c.args.self.now.packets.accepted _ _ c.requires (c.args.self.now.assigned _ c.requires)

pub returns : goal.returns
returns c = let e = c.unwrap.ensures in rate_is _ _ c.args.self.now.packets.accepted _ _ c.requires (sym (ap given_of e) ∙ c.args.self.now.assigned _ c.requires)
