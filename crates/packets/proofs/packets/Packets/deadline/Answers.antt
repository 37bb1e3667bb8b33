-- `packets::packets::Packets::deadline` meets its contract: the deadline is the third number of a record. Assumes nothing.
use Rattle.std.proofs.Common.{refl}
use Rattle.packets.specs.Records.{deadline_of}
use Rattle.packets.proofs.packets.Packets.deadline.Goals as goal

pub returns : goal.returns
unfolding deadline_of
returns c = refl
