-- The radio's setting (document 01, "The two timetables"). Bytes per second. Assumes nothing.
use Rattle.std.specs.Prelude.{ℕ, pred, ◌+◌, ◌/◌}
use Rattle.policy.specs.Figures.{most_bytes}

-- the largest N and the largest R: all bytes of a list in one second (bytes per second)
abbrev pub most_rate : ℕ
most_rate = most_bytes

-- R, the rate N/D rounded up to a whole number (bytes per second)
unfoldable pub setting : ℕ → ℕ → ℕ
setting n d = (n + pred d) / d
