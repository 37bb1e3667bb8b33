-- `policy::rates::rates_of` meets its contract. The invariant: what is given is what so many rounds of the definition give. A turn is a round; without a
-- leader the rounds are over. The measure is the packets less the rounds. Assumes nothing.
use Rattle.std.proofs.Common.{◌≡◌, ◌-◌}
use Rattle.policy.specs.Rounds.{after, day_of}
use Rattle.policy.proofs.Turning.{Agrees}
use Rattle.policy.proofs.rates.rates_of.Given as goal

abbrev pub invariant-loop-leader : goal.invariant-loop-leader
invariant-loop-leader l =
    Agrees (day_of l.packets.count l.packets.records.now) (after (day_of l.packets.count l.packets.records.now) l.rounds) l.gifts
    × ((after (day_of l.packets.count l.packets.records.now) l.rounds).rounds ≡ l.rounds)

abbrev pub decreases-loop-leader : goal.decreases-loop-leader
decreases-loop-leader l = l.packets.count - l.rounds
