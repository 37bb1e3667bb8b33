-- `packets::packets::Packets::accept` meets its contract: what passes every test is accepted. Assumes nothing.
use Rattle.std.proofs.Common.{sym}
use Rattle.packets.proofs.Records.{memory_accepted}
use Rattle.packets.proofs.packets.Packets.accept.Goals as goal

pub invariant_of-result : goal.invariant_of-result
invariant_of-result c = record { accepted = memory_accepted _ _ (sym c.in_ok-judge_packets.ensures) }
