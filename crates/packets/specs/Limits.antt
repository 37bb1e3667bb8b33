-- The figures of document 01, "Figures and their units", that packets are held to. Each stands here once, with its unit.
-- Assumes nothing.
use Rattle.std.specs.Prelude.{ℕ}

-- the most packets of a list (packets)
abbrev pub most_packets : ℕ
most_packets = 64

-- the largest listed size (bytes)
abbrev pub largest_size : ℕ
largest_size = 65535

-- the last second of the day, and so the latest deadline (seconds)
abbrev pub last_second : ℕ
last_second = 86400

-- the bytes that go on the air for a listed size (bytes)
unfoldable pub air_bytes : ℕ → ℕ
air_bytes listed = listed
