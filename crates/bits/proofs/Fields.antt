-- Laws of fields, each over every position and width. A row of bytes is known by its bits (`same_bits`), so each law is one about a single bit.
-- Assumes nothing.
use Prim.Native.Nat.{ℕ, zero, suc, ◌+◌, ◌-◌, ◌*◌, ◌/◌, ◌%◌, ◌^◌, ◌<◌, ◌≤◌}
use mathlib.Core.Path.{◌≡◌, refl, sym, ap, ap₂, ◌∙◌}
use mathlib.Core.List.{List, ◌∷◌}
use native.Mathlib.Omega.{arith}
use native.Mathlib.Nat.{zero-add, mod-eq_of_lt}
use native.Mathlib.Decide.{dec_le}
use lib.ListN.{length, get_or}
use lib.Seq.{ext_get_or}
use borrow.Author.Tests.{le-leb, lt-leb, lt-ltb, le-ltb}
use Rattle.std.proofs.lemmas.Nat.Bits.{bit_at-lt}
use Rattle.bits.specs.Field.{digit, bit, spelt, field_at, bytes_from, replaced, put_field, Bytes}
use Rattle.bits.proofs.Digits.{digit_spelt, spelt_lt, spelt_add, spelt_same, spelt_digits}

-- ---- rows of bytes and their bits

pub bit_lt : (bytes : List ℕ) (i : ℕ) → bit bytes i < 2
unfolding bit digit
bit_lt bytes i = bit_at-lt _ _

-- as many bytes as are asked for
pub length_bytes : (n p : ℕ) (f : ℕ → ℕ) → length (bytes_from n p f) ≡ n
unfolding bytes_from
length_bytes zero p f = refl
length_bytes (suc n) p f = ap suc (length_bytes n (p + 8) f)

-- byte k of them
pub byte_at : (n p : ℕ) (f : ℕ → ℕ) (k : ℕ) → k < n → get_or (bytes_from n p f) k 0 ≡ spelt f (p + 8 * k) 8
unfolding bytes_from
byte_at zero p f k h = elim h [ ]
byte_at (suc n) p f zero h = let e : p + 8 * 0 ≡ p = omega arith in rw e
byte_at (suc n) p f (suc k) h = let e : p + 8 * suc k ≡ p + 8 + 8 * k = omega arith in rw e (byte_at n (p + 8) f k (omega arith))

-- a byte that bits spell is below 256
pub are_bytes : (n p : ℕ) (f : ℕ → ℕ) → ((i : ℕ) → f i < 2) → Bytes (bytes_from n p f)
unfolding bytes_from
are_bytes zero p f bits i = omega arith
are_bytes (suc n) p f bits zero = spelt_lt f bits p 8
are_bytes (suc n) p f bits (suc i) = are_bytes n (p + 8) f bits i

-- their bits are the bits that spell them
pub bit_bytes : (n : ℕ) (f : ℕ → ℕ) → ((i : ℕ) → f i < 2) → (i : ℕ) → i < 8 * n → bit (bytes_from n 0 f) i ≡ f i
unfolding bit
bit_bytes n f bits i h =
    let k : ℕ = i / 8 in
    let e : 0 + 8 * k + 8 - 1 - (7 - i % 8) ≡ i = omega arith in
    rw (byte_at n 0 f k (omega arith)) (digit_spelt f bits (0 + 8 * k) 8 (7 - i % 8) (omega arith) ∙ ap f e)

-- a bit of byte k is a digit of that byte
pub bit_in_byte : (bytes : List ℕ) (k i : ℕ) → 8 * k ≤ i → i < 8 * k + 8 → bit bytes i ≡ digit (get_or bytes k 0) (8 * k + 8 - 1 - i)
unfolding bit
bit_in_byte bytes k i lo hi =
    let a : i / 8 ≡ k = omega arith in
    let b : 7 - i % 8 ≡ 8 * k + 8 - 1 - i = omega arith in
    rw (a, b)

-- bytes are spelt by their bits
pub bytes_bits : (bytes : List ℕ) → Bytes bytes → bytes_from (length bytes) 0 (bit bytes) ≡ bytes
bytes_bits bytes small = ext_get_or 0 _ _ (length_bytes (length bytes) 0 (bit bytes)) each
  where
    each : (k : ℕ) → k < length (bytes_from (length bytes) 0 (bit bytes)) → get_or (bytes_from (length bytes) 0 (bit bytes)) k 0 ≡ get_or bytes k 0
    each k h =
        let within : k < length bytes = rw length_bytes at h in
        byte_at (length bytes) 0 (bit bytes) k within
        ∙ ap (λ (p : ℕ). spelt (bit bytes) p 8) (zero-add (8 * k))
        ∙ spelt_same (bit bytes) (λ i. digit (get_or bytes k 0) (8 * k + 8 - 1 - i)) (8 * k) 8 (bit_in_byte bytes k)
        ∙ spelt_digits (get_or bytes k 0) (8 * k) 8
        ∙ (let s = small k in omega arith)

-- equal bits spell equal bytes
bytes_same : (n p : ℕ) (f g : ℕ → ℕ) → ((i : ℕ) → p ≤ i → i < p + 8 * n → f i ≡ g i) → bytes_from n p f ≡ bytes_from n p g
unfolding bytes_from
bytes_same zero p f g same = refl
bytes_same (suc n) p f g same =
    ap₂ ◌∷◌ (spelt_same f g p 8 (λ i lo hi. same i lo (omega arith))) (bytes_same n (p + 8) f g (λ i lo hi. same i (omega arith) (omega arith)))

-- rows of bytes of one length with the same bits are the same
pub same_bits : (a b : List ℕ) → Bytes a → Bytes b → length a ≡ length b → ((i : ℕ) → i < 8 * length a → bit a i ≡ bit b i) → a ≡ b
same_bits a b small_a small_b long same =
    sym (bytes_bits a small_a)
    ∙ bytes_same (length a) 0 (bit a) (bit b) (λ i lo hi. same i (omega arith))
    ∙ ap (λ (n : ℕ). bytes_from n 0 (bit b)) long
    ∙ bytes_bits b small_b

-- ---- the bits after a field is put

-- inside the field stand the digits of the value
replaced_inside : (bytes : List ℕ) (p w v i : ℕ) → p ≤ i → i < p + w → replaced bytes p w v i ≡ digit v (p + w - 1 - i)
unfolding replaced
replaced_inside bytes p w v i lo hi = simp (le-leb p i lo, lt-ltb i (p + w) hi)

-- outside it every bit is as it was
replaced_before : (bytes : List ℕ) (p w v i : ℕ) → i < p → replaced bytes p w v i ≡ bit bytes i
unfolding replaced
replaced_before bytes p w v i h = simp (lt-leb p i h)

replaced_behind : (bytes : List ℕ) (p w v i : ℕ) → p + w ≤ i → replaced bytes p w v i ≡ bit bytes i
unfolding replaced
replaced_behind bytes p w v i h = simp (le-leb p i (omega arith), le-ltb i (p + w) h)

-- a bit is 0 or 1
replaced_lt : (bytes : List ℕ) (p w v i : ℕ) → replaced bytes p w v i < 2
unfolding digit
replaced_lt bytes p w v i = go (dec_le p i) (dec_le (p + w) i)
  where
    go : Dec (p ≤ i) → Dec (p + w ≤ i) → replaced bytes p w v i < 2
    go (no before) d = rw (replaced_before bytes p w v i (omega arith)) (bit_lt bytes i)
    go (yes from) (yes behind) = rw (replaced_behind bytes p w v i behind) (bit_lt bytes i)
    go (yes from) (no inside) = rw (replaced_inside bytes p w v i from (omega arith)) (bit_at-lt v (p + w - 1 - i))

pub length_put : (bytes : List ℕ) (p w v : ℕ) → length (put_field bytes p w v) ≡ length bytes
unfolding put_field
length_put bytes p w v = length_bytes _ _ _

pub put_bytes : (bytes : List ℕ) (p w v : ℕ) → Bytes (put_field bytes p w v)
unfolding put_field
put_bytes bytes p w v = are_bytes _ _ _ (replaced_lt bytes p w v)

put_bit : (bytes : List ℕ) (p w v i : ℕ) → i < 8 * length bytes → bit (put_field bytes p w v) i ≡ replaced bytes p w v i
unfolding put_field
put_bit bytes p w v i h = bit_bytes (length bytes) (replaced bytes p w v) (replaced_lt bytes p w v) i h

module _ (bytes : List ℕ) (p w v : ℕ) where
  pub bit_inside : (i : ℕ) → p ≤ i → i < p + w → i < 8 * length bytes → bit (put_field bytes p w v) i ≡ digit v (p + w - 1 - i)
  bit_inside i lo hi h = put_bit bytes p w v i h ∙ replaced_inside bytes p w v i lo hi

  pub bit_before : (i : ℕ) → i < p → i < 8 * length bytes → bit (put_field bytes p w v) i ≡ bit bytes i
  bit_before i lo h = put_bit bytes p w v i h ∙ replaced_before bytes p w v i lo

  pub bit_behind : (i : ℕ) → p + w ≤ i → i < 8 * length bytes → bit (put_field bytes p w v) i ≡ bit bytes i
  bit_behind i hi h = put_bit bytes p w v i h ∙ replaced_behind bytes p w v i hi

-- ---- the laws of a field

-- a field's value is below 2 to its width
pub field_lt : (bytes : List ℕ) (p w : ℕ) → field_at bytes p w < 2 ^ w
unfolding field_at
field_lt bytes p w = spelt_lt (bit bytes) (bit_lt bytes) p w

-- a field of two parts
pub field_add : (bytes : List ℕ) (p w k : ℕ) → field_at bytes p (w + k) ≡ field_at bytes p w * 2 ^ k + field_at bytes (p + w) k
unfolding field_at
field_add bytes p w k = spelt_add (bit bytes) p w k

-- rows with the same bits in a field have the same value there
pub field_same : (a b : List ℕ) (p w : ℕ) → ((i : ℕ) → p ≤ i → i < p + w → bit a i ≡ bit b i) → field_at a p w ≡ field_at b p w
unfolding field_at
field_same a b p w same = spelt_same (bit a) (bit b) p w same

-- what is put is got back
pub put_get : (bytes : List ℕ) (p w v : ℕ) → p + w ≤ 8 * length bytes → v < 2 ^ w → field_at (put_field bytes p w v) p w ≡ v
unfolding field_at
put_get bytes p w v fits small =
    spelt_same (bit (put_field bytes p w v)) (λ i. digit v (p + w - 1 - i)) p w (λ i lo hi. bit_inside bytes p w v i lo hi (omega arith))
    ∙ spelt_digits v p w
    ∙ mod-eq_of_lt small

-- the digits of a field are its bits
pub digit_field : (bytes : List ℕ) (p w k : ℕ) → k < w → digit (field_at bytes p w) k ≡ bit bytes (p + w - 1 - k)
unfolding field_at
digit_field bytes p w k h = digit_spelt (bit bytes) (bit_lt bytes) p w k h

-- putting back what was got changes nothing
pub get_put : (bytes : List ℕ) (p w : ℕ) → Bytes bytes → p + w ≤ 8 * length bytes → put_field bytes p w (field_at bytes p w) ≡ bytes
get_put bytes p w small fits = same_bits _ _ (put_bytes bytes p w _) small (length_put bytes p w _) each
  where
    each : (i : ℕ) → i < 8 * length (put_field bytes p w (field_at bytes p w)) → bit (put_field bytes p w (field_at bytes p w)) i ≡ bit bytes i
    each i h' =
        let h : i < 8 * length bytes = rw length_put at h' in
        go h (dec_le p i) (dec_le (p + w) i)
      where
        go : i < 8 * length bytes → Dec (p ≤ i) → Dec (p + w ≤ i) → bit (put_field bytes p w (field_at bytes p w)) i ≡ bit bytes i
        go h (no before) d = bit_before bytes p w _ i (omega arith) h
        go h (yes from) (yes behind) = bit_behind bytes p w _ i behind h
        go h (yes from) (no inside) =
            bit_inside bytes p w _ i from (omega arith) h
            ∙ digit_field bytes p w (p + w - 1 - i) (omega arith)
            ∙ ap (bit bytes) (omega arith)

-- other fields stay
pub field_before : (bytes : List ℕ) (p w v q u : ℕ) → q + u ≤ p → q + u ≤ 8 * length bytes → field_at (put_field bytes p w v) q u ≡ field_at bytes q u
field_before bytes p w v q u apart fits = field_same _ _ q u (λ i lo hi. bit_before bytes p w v i (omega arith) (omega arith))

pub field_behind : (bytes : List ℕ) (p w v q u : ℕ) → p + w ≤ q → q + u ≤ 8 * length bytes → field_at (put_field bytes p w v) q u ≡ field_at bytes q u
field_behind bytes p w v q u apart fits = field_same _ _ q u (λ i lo hi. bit_behind bytes p w v i (omega arith) (omega arith))
