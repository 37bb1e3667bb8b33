-- `packets::packets::Packets::air_size` meets its contract: the listed size is the first number of a record. Assumes nothing.
use Rattle.packets.specs.Records.{size_of}
use Rattle.packets.proofs.packets.Packets.air_size.Goals as goal

pub returns : goal.returns
unfolding size_of
returns c = c.on_the_air.ensures
