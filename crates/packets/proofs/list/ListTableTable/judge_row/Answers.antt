-- The test of a row is that of the record whose numbers it is. Assumes nothing.
use Rattle.packets.specs.Records.{record_at, size_of, arrival_of, deadline_of}
use Rattle.packets.proofs.list.ListTableTable.judge_row.Goals as goal

pub returns : goal.returns
unfolding record_at size_of arrival_of deadline_of
returns c = c.judge_record.ensures
