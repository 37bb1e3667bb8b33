-- Tables: fields that follow one another, a head and then rows alike, with zero in the unused bits of the last byte (document 01, "Bits on the
-- wire"). A list and a plan are tables of different widths. Positions and widths are in bits. Assumes nothing.
use Rattle.std.specs.Prelude.{ℕ, zero, suc, ◌+◌, ◌-◌, ◌/◌, ◌%◌, ◌<◌, ◌≤◌, ◌^◌, List, [], ◌∷◌, ◌++◌, get_or}
use Rattle.bits.specs.Field.{field_at, put_field}

-- the bits that widths add up to
unfoldable pub total : List ℕ → ℕ
total [] = 0
total (w ∷ widths) = w + total widths

-- the widths of n rows alike
unfoldable pub rows : ℕ → List ℕ → List ℕ
rows zero widths = []
rows (suc n) widths = widths ++ rows n widths

-- the values of the fields of these widths from bit p on
unfoldable pub fields_at : List ℕ → ℕ → List ℕ → List ℕ
fields_at bytes p [] = []
fields_at bytes p (w ∷ widths) = field_at bytes p w ∷ fields_at bytes (p + w) widths

-- the bytes with values in the fields of these widths from bit p on, and every other bit as it was
unfoldable pub put_fields : List ℕ → ℕ → List ℕ → List ℕ → List ℕ
put_fields bytes p [] values = bytes
put_fields bytes p (w ∷ widths) [] = bytes
put_fields bytes p (w ∷ widths) (v ∷ values) = put_fields (put_field bytes p w v) (p + w) widths values

-- the bytes that so many bits take (bytes)
abbrev pub bytes_for : ℕ → ℕ
bytes_for bits = (bits + 7) / 8

-- the unused bits of the last of these bytes (bits)
abbrev pub unused_bits : ℕ → ℕ
unused_bits bits = (8 - bits % 8) % 8

-- the widths of a table's head and n rows
unfoldable pub field_widths : List ℕ → List ℕ → ℕ → List ℕ
field_widths head row n = head ++ rows n row

-- and of the unused bits behind them
unfoldable pub table_widths : List ℕ → List ℕ → ℕ → List ℕ
table_widths head row n = field_widths head row n ++ unused_bits (total (field_widths head row n)) ∷ []

-- the bytes of a table (bytes)
unfoldable pub table_bytes : List ℕ → List ℕ → ℕ → ℕ
table_bytes head row n = bytes_for (total (field_widths head row n))

-- the values of a table's head and rows
unfoldable pub read_table : List ℕ → List ℕ → List ℕ → ℕ → List ℕ
read_table bytes head row n = fields_at bytes 0 (field_widths head row n)

-- what stands in a table's unused bits
unfoldable pub unused_at : List ℕ → List ℕ → List ℕ → ℕ → ℕ
unused_at bytes head row n = field_at bytes (total (field_widths head row n)) (unused_bits (total (field_widths head row n)))

-- the bytes with a table at their front: its values, then zero in the unused bits
unfoldable pub write_table : List ℕ → List ℕ → List ℕ → ℕ → List ℕ → List ℕ
write_table bytes head row n values = put_fields bytes 0 (table_widths head row n) (values ++ 0 ∷ [])

-- each value is below 2 to its width, and there is one for each width
abbrev pub Fit : List ℕ → List ℕ → Type 0
Fit [] [] = Unit {0}
Fit [] (v ∷ values) = ⊥
Fit (w ∷ widths) [] = ⊥
Fit (w ∷ widths) (v ∷ values) = (v < 2 ^ w) × Fit widths values

-- no width is above the most bits that a field may have
abbrev pub AtMost : ℕ → List ℕ → Type 0
AtMost most widths = (i : ℕ) → get_or widths i 0 ≤ most
