-- `packets::packets::Packets::arrival` meets its contract: the arrival is the second number of a record. Assumes nothing.
use Rattle.std.proofs.Common.{refl}
use Rattle.packets.specs.Records.{arrival_of}
use Rattle.packets.proofs.packets.Packets.arrival.Goals as goal

pub returns : goal.returns
unfolding arrival_of
returns c = refl
