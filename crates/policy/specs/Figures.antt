-- Figures that the rates of a list are held to (document 01, "Figures and their units"), each with its unit. Assumes nothing.
use Rattle.std.specs.Prelude.{ℕ}

-- the most event points of a list, two a packet (points)
abbrev pub most_points : ℕ
most_points = 128

-- the most bytes that a packet puts on the air (bytes)
abbrev pub largest_air : ℕ
largest_air = 65535

-- the most bytes of a list, and so the largest N (bytes per second)
abbrev pub most_bytes : ℕ
most_bytes = 4194240
