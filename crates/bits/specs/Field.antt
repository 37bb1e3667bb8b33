-- Fields of bits in a row of bytes (document 01, "Bits on the wire"): most significant bit first, unsigned. Positions and widths are in bits.
-- Assumes nothing.
use Rattle.std.specs.Prelude.{ℕ, zero, suc, ◌+◌, ◌-◌, ◌*◌, ◌/◌, ◌%◌, ◌^◌, ◌<◌, List, [], ◌∷◌, Bool, true, false, ◌&&◌, length, get_or, leb, ltb}

-- binary digit k of a number; digit 0 is the least significant
unfoldable pub digit : ℕ → ℕ → ℕ
digit v k = v / 2 ^ k % 2

-- bit i of a row of bytes; bit 0 is the first byte's most significant
unfoldable pub bit : List ℕ → ℕ → ℕ
bit bytes i = digit (get_or bytes (i / 8) 0) (7 - i % 8)

-- the number that the w bits f p, f (p + 1), … spell, most significant first
unfoldable pub spelt : (ℕ → ℕ) → ℕ → ℕ → ℕ
spelt f p zero = 0
spelt f p (suc w) = 2 * spelt f p w + f (p + w)

-- the field of w bits at bit p
unfoldable pub field_at : List ℕ → ℕ → ℕ → ℕ
field_at bytes p w = spelt (bit bytes) p w

-- the n bytes that the bits f p, f (p + 1), … spell
unfoldable pub bytes_from : ℕ → ℕ → (ℕ → ℕ) → List ℕ
bytes_from zero p f = []
bytes_from (suc n) p f = spelt f p 8 ∷ bytes_from n (p + 8) f

-- the first where the test holds, and the second where it does not
abbrev pub pick : Bool → ℕ → ℕ → ℕ
pick true a b = a
pick false a b = b

-- the bits of a row of bytes, with the last w digits of v at bit p in place of what stood there
unfoldable pub replaced : List ℕ → ℕ → ℕ → ℕ → ℕ → ℕ
replaced bytes p w v i = pick (leb p i && ltb i (p + w)) (digit v (p + w - 1 - i)) (bit bytes i)

-- the bytes with v in the field of w bits at bit p, and every other bit as it was
unfoldable pub put_field : List ℕ → ℕ → ℕ → ℕ → List ℕ
put_field bytes p w v = bytes_from (length bytes) 0 (replaced bytes p w v)

-- each number of the list is a byte
abbrev pub Bytes : List ℕ → Type 0
Bytes bytes = (i : ℕ) → get_or bytes i 0 < 256
