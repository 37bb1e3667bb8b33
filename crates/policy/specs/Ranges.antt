-- What stands in the arrays that the rounds work on, and the figures within which a round's sums fit. Assumes nothing.
use Rattle.std.specs.Prelude.{ℕ, pred, ◌<◌, ◌≤◌, ◌≡◌, false, List, slice_index_or}
use Rattle.packets.specs.Limits.{last_second, most_packets}
use Rattle.policy.specs.declared.points.Points.{Points}
use Rattle.policy.specs.declared.row.Due.{Due}
use Rattle.policy.specs.declared.spans.Span.{Span}
use Rattle.policy.specs.declared.spans.Spans.{Spans}
use Rattle.policy.specs.Figures.{largest_air}

-- span number i
abbrev pub span_at : List Span → ℕ → Span
span_at spans i = slice_index_or spans i (record { from = 0; till = 0; weight = 0 })

-- number j of the row
abbrev pub due_at : List Due → ℕ → Due
due_at row j = slice_index_or row j (record { packet = 0; arrival = 0; arrival_point = 0; deadline = 0; deadline_point = 0; last = false })

-- figures within which a round's sums fit
pub record Ready (points : Points) (packets epochs : Spans) (row : List Due) : Type 0 where
  pub few : packets.count ≤ most_packets
  pub some : 0 < points.count
  pub epochs_are : epochs.count ≡ pred points.count
  pub bytes_most : (i : ℕ) → i < packets.count → (span_at packets.at i).weight ≤ largest_air
  pub seconds_most : (k : ℕ) → k < epochs.count → (span_at epochs.at k).weight ≤ last_second
  pub packet_in : (j : ℕ) → j < packets.count → (due_at row j).packet < packets.count
  pub arrival_most : (j : ℕ) → j < packets.count → (due_at row j).arrival ≤ last_second
  pub arrival_in : (j : ℕ) → j < packets.count → (due_at row j).arrival_point < points.count
  pub deadline_in : (j : ℕ) → j < packets.count → (due_at row j).deadline_point < points.count
