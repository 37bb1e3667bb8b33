-- A field a byte at a time: what of it stands in one byte, and what one byte becomes. Position p is bit p % 8 of byte p / 8; the piece of k bits
-- there leaves 8 - p % 8 - k bits of the byte below it. Assumes nothing.
use Prim.Native.Nat.{ℕ, ◌+◌, ◌-◌, ◌*◌, ◌/◌, ◌%◌, ◌^◌, ◌<◌, ◌≤◌}
use mathlib.Core.Path.{◌≡◌, sym, ap, ◌∙◌}
use mathlib.Core.List.{List}
use native.Mathlib.Omega.{arith}
use native.Mathlib.Nat.{mod-lt, mod-eq_of_lt, mul-le-mul_left}
use native.Mathlib.Decide.{dec_le, ℕ_discrete}
use lib.ListN.{length, get_or, set, length-set}
use lib.Seq.{get_or-set_same, get_or-set_other}
use lib.Arith.{digits_lt}
use lib.Pow.{shr-shr, high, low, pow_pos, pow-add, shr_lt}
use Rattle.std.proofs.lemmas.Nat.{div-add-mod'}
use Rattle.bits.specs.Field.{digit, bit, field_at, spelt, put_field, Bytes}
use Rattle.bits.proofs.Digits.{digit_shift, digit_last, digit_low, digit_high, spelt_same, spelt_digits}
use Rattle.bits.proofs.Fields.{field_lt, field_add, bit_in_byte, bit_inside, bit_before, bit_behind, length_put, put_bytes, same_bits}

-- ---- reading

-- the eight bits of byte k spell it
byte_field : (bytes : List ℕ) (k : ℕ) → get_or bytes k 0 < 256 → field_at bytes (8 * k) 8 ≡ get_or bytes k 0
unfolding field_at
byte_field bytes k small =
    spelt_same (bit bytes) (λ i. digit (get_or bytes k 0) (8 * k + 8 - 1 - i)) (8 * k) 8 (bit_in_byte bytes k)
    ∙ spelt_digits (get_or bytes k 0) (8 * k) 8
    ∙ mod-eq_of_lt small

-- the piece of a field that stands in one byte
pub field_piece : (bytes : List ℕ) (p k : ℕ) → p % 8 + k ≤ 8 → field_at bytes p k ≡ get_or bytes (p / 8) 0 / 2 ^ (8 - p % 8 - k) % 2 ^ k
unfolding field_at
field_piece bytes p k one =
    spelt_same (bit bytes) (λ i. digit (get_or bytes (p / 8) 0 / 2 ^ (8 - p % 8 - k)) (p + k - 1 - i)) p k each
    ∙ spelt_digits (get_or bytes (p / 8) 0 / 2 ^ (8 - p % 8 - k)) p k
  where
    each : (i : ℕ) → p ≤ i → i < p + k → bit bytes i ≡ digit (get_or bytes (p / 8) 0 / 2 ^ (8 - p % 8 - k)) (p + k - 1 - i)
    each i lo hi =
        let e : 8 * (p / 8) + 8 - 1 - i ≡ 8 - p % 8 - k + (p + k - 1 - i) = omega arith in
        bit_in_byte bytes (p / 8) i (omega arith) (omega arith)
        ∙ ap (digit (get_or bytes (p / 8) 0)) e
        ∙ sym (digit_shift (get_or bytes (p / 8) 0) (8 - p % 8 - k) (p + k - 1 - i))

-- A turn of the reader: the bits of n bytes from byte k on, and those of the next byte, spell one number.
pub get_turn : (bytes : List ℕ) (k n : ℕ) → get_or bytes (k + n) 0 < 256
    → field_at bytes (8 * k) (8 * n) * 256 + get_or bytes (k + n) 0 ≡ field_at bytes (8 * k) (8 * (n + 1))
get_turn bytes k n small =
    let e : 8 * (n + 1) ≡ 8 * n + 8 = omega arith in
    let q : 8 * k + 8 * n ≡ 8 * (k + n) = omega arith in
    rw (e, field_add, q, byte_field bytes (k + n) small)

-- the bits within a longer run of bits: without the u behind them and without those before them
pub field_within : (bytes : List ℕ) (p a w u : ℕ) → field_at bytes p (a + w + u) / 2 ^ u % 2 ^ w ≡ field_at bytes (p + a) w
field_within bytes p a w u =
    rw (field_add bytes p (a + w) u, high (field_at bytes p (a + w)) u (field_lt bytes (p + (a + w)) u), field_add bytes p a w)
    (low (field_at bytes p a) w (field_lt bytes (p + a) w))

-- with no bit left the value is the field
pub get_last : (bytes : List ℕ) (p left value whole : ℕ) → left ≤ 0 → value * 2 ^ left + field_at bytes p left ≡ whole → value ≡ whole
unfolding field_at spelt
get_last bytes p left value whole none e =
    let z : left ≡ 0 = omega arith in
    let f = rw z at e in
    omega arith

-- the value so far never outgrows the whole field
pub turn_fits : (x r f whole : ℕ) → x * 2 ^ r + f ≡ whole → x ≤ whole
turn_fits x r f whole e = omega (arith, mul-le-mul_left x (pow_pos r))

-- ---- writing

-- the byte with the last k digits of v above its last a bits
abbrev pub patched : ℕ → ℕ → ℕ → ℕ → ℕ
patched byte a k v = (byte / 2 ^ (a + k) * 2 ^ k + v) * 2 ^ a + byte % 2 ^ a

module _ (byte a k v : ℕ) (small : v < 2 ^ k) where
  patched_below : (t : ℕ) → t < a → digit (patched byte a k v) t ≡ digit byte t
  patched_below t h =
      digit_low (byte / 2 ^ (a + k) * 2 ^ k + v) (byte % 2 ^ a) h ∙ digit_last byte h

  patched_inside : (t : ℕ) → t < k → digit (patched byte a k v) (a + t) ≡ digit v t
  patched_inside t h =
      digit_high (byte / 2 ^ (a + k) * 2 ^ k + v) (byte % 2 ^ a) a t (mod-lt byte (pow_pos a))
      ∙ digit_low (byte / 2 ^ (a + k)) v h

  patched_above : (t : ℕ) → digit (patched byte a k v) (a + (k + t)) ≡ digit byte (a + k + t)
  patched_above t =
      digit_high (byte / 2 ^ (a + k) * 2 ^ k + v) (byte % 2 ^ a) a (k + t) (mod-lt byte (pow_pos a))
      ∙ digit_high (byte / 2 ^ (a + k)) v k t small
      ∙ digit_shift byte (a + k) t

-- a patched byte is a byte
pub patched_lt : (byte a k v : ℕ) → byte < 256 → a + k ≤ 8 → v < 2 ^ k → patched byte a k v < 256
patched_lt byte a k v small fits under =
    let j = 8 - (a + k) in
    let eight : j + (a + k) ≡ 8 = omega arith in
    let parts : j + k + a ≡ 8 = omega arith in
    let top : byte / 2 ^ (a + k) < 2 ^ j = shr_lt j (a + k) (rw eight small) in
    let whole : 2 ^ j * 2 ^ k * 2 ^ a ≡ 2 ^ 8 =
    ap (λ (n : ℕ). n * 2 ^ a) (sym (pow-add 2 j k)) ∙ sym (pow-add 2 (j + k) a) ∙ ap (λ (n : ℕ). 2 ^ n) parts in
    rw whole at (digits_lt (digits_lt top under) (mod-lt byte (pow_pos a)))

-- with a byte at one index, bytes are bytes
pub set_bytes : (bytes : List ℕ) (i byte : ℕ) → Bytes bytes → i < length bytes → byte < 256 → Bytes (set bytes i byte)
set_bytes bytes i byte small within fits j = go (ℕ_discrete j i)
  where
    go : Dec (j ≡ i) → get_or (set bytes i byte) j 0 < 256
    go (yes e) = rw (e, get_or-set_same) fits
    go (no other) = rw get_or-set_other (small j)

-- a byte is patched by taking out what stands in the piece and putting in the value
pub patch_piece : (byte a k v : ℕ) → (byte / 2 ^ a % 2 ^ k * 2 ^ a ≤ byte) × (byte - byte / 2 ^ a % 2 ^ k * 2 ^ a + v * 2 ^ a ≡ patched byte a k v)
patch_piece byte a k v =
    let upper : byte / 2 ^ (a + k) * 2 ^ k + byte / 2 ^ a % 2 ^ k ≡ byte / 2 ^ a =
    ap (λ (n : ℕ). n * 2 ^ k + byte / 2 ^ a % 2 ^ k) (sym (shr-shr byte a k)) ∙ div-add-mod' (byte / 2 ^ a) (2 ^ k) in
    let scaled = ap (λ (n : ℕ). n * 2 ^ a) upper in
    let whole = div-add-mod' byte (2 ^ a) in
    (omega arith, omega arith)

-- One byte patched is the piece of a field put.
module _ (bytes : List ℕ) (p k v : ℕ) (small : Bytes bytes) (one : p % 8 + k ≤ 8) (here : p / 8 < length bytes) where
  abbrev pub byte : ℕ
  byte = get_or bytes (p / 8) 0

  abbrev pub below : ℕ
  below = 8 - p % 8 - k

  abbrev pub after : List ℕ
  after = set bytes (p / 8) (patched byte below k (v % 2 ^ k))

  after_bytes : Bytes after
  after_bytes =
      set_bytes bytes (p / 8) (patched byte below k (v % 2 ^ k)) small here
      (patched_lt byte below k (v % 2 ^ k) (small (p / 8)) (omega arith) (mod-lt v (pow_pos k)))

  -- a bit of another byte
  bit_elsewhere : (i : ℕ) → (i / 8 ≡ p / 8 → ⊥) → bit after i ≡ bit bytes i
  unfolding bit
  bit_elsewhere i other = rw get_or-set_other

  -- a bit of the patched byte
  bit_here : (i : ℕ) → 8 * (p / 8) ≤ i → i < 8 * (p / 8) + 8 → bit after i ≡ digit (patched byte below k (v % 2 ^ k)) (8 * (p / 8) + 8 - 1 - i)
  bit_here i lo hi = bit_in_byte after (p / 8) i lo hi ∙ rw get_or-set_same

  inside : (i : ℕ) → p ≤ i → i < p + k → i < 8 * length bytes → bit after i ≡ bit (put_field bytes p k v) i
  inside i lo hi h =
      let e : 8 * (p / 8) + 8 - 1 - i ≡ below + (p + k - 1 - i) = omega arith in
      bit_here i (omega arith) (omega arith)
      ∙ ap (digit (patched byte below k (v % 2 ^ k))) e
      ∙ patched_inside byte below k (v % 2 ^ k) (mod-lt v (pow_pos k)) (p + k - 1 - i) (omega arith)
      ∙ digit_last v (omega arith)
      ∙ sym (bit_inside bytes p k v i lo hi h)

  above : (i : ℕ) → 8 * (p / 8) ≤ i → i < p → bit after i ≡ bit bytes i
  above i lo hi =
      let e : 8 * (p / 8) + 8 - 1 - i ≡ below + (k + (p - 1 - i)) = omega arith in
      let f : below + k + (p - 1 - i) ≡ 8 * (p / 8) + 8 - 1 - i = omega arith in
      bit_here i lo (omega arith)
      ∙ ap (digit (patched byte below k (v % 2 ^ k))) e
      ∙ patched_above byte below k (v % 2 ^ k) (mod-lt v (pow_pos k)) (p - 1 - i)
      ∙ ap (digit byte) f
      ∙ sym (bit_in_byte bytes (p / 8) i lo (omega arith))

  under : (i : ℕ) → p + k ≤ i → i < 8 * (p / 8) + 8 → bit after i ≡ bit bytes i
  under i lo hi =
      bit_here i (omega arith) hi
      ∙ patched_below byte below k (v % 2 ^ k) (mod-lt v (pow_pos k)) (8 * (p / 8) + 8 - 1 - i) (omega arith)
      ∙ sym (bit_in_byte bytes (p / 8) i (omega arith) hi)

  pub put_piece : after ≡ put_field bytes p k v
  put_piece = same_bits after (put_field bytes p k v) after_bytes (put_bytes bytes p k v) long each
    where
      long : length after ≡ length (put_field bytes p k v)
      long = length-set bytes (p / 8) (patched byte below k (v % 2 ^ k)) ∙ sym (length_put bytes p k v)

      go : (i : ℕ) → i < 8 * length bytes → Dec (p ≤ i) → Dec (p + k ≤ i) → Dec (8 * (p / 8) ≤ i) → Dec (8 * (p / 8) + 8 ≤ i)
          → bit after i ≡ bit (put_field bytes p k v) i
      go i h (yes from) (no within) d e = inside i from (omega arith) h
      go i h (no before) d (yes near) e = above i near (omega arith) ∙ sym (bit_before bytes p k v i (omega arith) h)
      go i h (no before) d (no far) e =
          bit_elsewhere i (λ (q : i / 8 ≡ p / 8). omega arith) ∙ sym (bit_before bytes p k v i (omega arith) h)
      go i h (yes from) (yes behind) d (no near) = under i behind (omega arith) ∙ sym (bit_behind bytes p k v i behind h)
      go i h (yes from) (yes behind) d (yes far) =
          bit_elsewhere i (λ (q : i / 8 ≡ p / 8). omega arith) ∙ sym (bit_behind bytes p k v i behind h)

      each : (i : ℕ) → i < 8 * length after → bit after i ≡ bit (put_field bytes p k v) i
      each i h =
          let w : i < 8 * length bytes = rw length-set at h in
          go i w (dec_le p i) (dec_le (p + k) i) (dec_le (8 * (p / 8)) i) (dec_le (8 * (p / 8) + 8) i)

-- a field put in two parts, the first k bits and then the last r
pub put_add : (bytes : List ℕ) (p k r v : ℕ) → p + (k + r) ≤ 8 * length bytes
    → put_field (put_field bytes p k (v / 2 ^ r)) (p + k) r v ≡ put_field bytes p (k + r) v
put_add bytes p k r v fits = same_bits _ _ (put_bytes first (p + k) r v) (put_bytes bytes p (k + r) v) long each
  where
    first : List ℕ
    first = put_field bytes p k (v / 2 ^ r)

    long : length (put_field first (p + k) r v) ≡ length (put_field bytes p (k + r) v)
    long = length_put first (p + k) r v ∙ length_put bytes p k (v / 2 ^ r) ∙ sym (length_put bytes p (k + r) v)

    go : (i : ℕ) → i < 8 * length bytes → i < 8 * length first → Dec (p ≤ i) → Dec (p + k ≤ i) → Dec (p + k + r ≤ i)
        → bit (put_field first (p + k) r v) i ≡ bit (put_field bytes p (k + r) v) i
    go i h h₁ (no before) d e =
        bit_before first (p + k) r v i (omega arith) h₁
        ∙ bit_before bytes p k (v / 2 ^ r) i (omega arith) h
        ∙ sym (bit_before bytes p (k + r) v i (omega arith) h)
    go i h h₁ (yes from) (no front) e =
        bit_before first (p + k) r v i (omega arith) h₁
        ∙ bit_inside bytes p k (v / 2 ^ r) i from (omega arith) h
        ∙ digit_shift v r (p + k - 1 - i)
        ∙ ap (digit v) (omega arith)
        ∙ sym (bit_inside bytes p (k + r) v i from (omega arith) h)
    go i h h₁ (yes from) (yes back) (no inside) =
        bit_inside first (p + k) r v i back (omega arith) h₁
        ∙ ap (digit v) (omega arith)
        ∙ sym (bit_inside bytes p (k + r) v i from (omega arith) h)
    go i h h₁ (yes from) (yes back) (yes behind) =
        bit_behind first (p + k) r v i behind h₁
        ∙ bit_behind bytes p k (v / 2 ^ r) i (omega arith) h
        ∙ sym (bit_behind bytes p (k + r) v i (omega arith) h)

    each : (i : ℕ) → i < 8 * length (put_field first (p + k) r v) → bit (put_field first (p + k) r v) i ≡ bit (put_field bytes p (k + r) v) i
    each i h =
        let h₁ : i < 8 * length first = rw length_put at h in
        let h₂ : i < 8 * length bytes = omega (arith, length_put bytes p k (v / 2 ^ r), h₁) in
        go i h₂ h₁ (dec_le p i) (dec_le (p + k) i) (dec_le (p + k + r) i)

-- A turn of the writer at byte i: the next k of the l bits left are patched into the byte, and the bits left after that are put behind them.
pub put_turn : (bytes : List ℕ) (i p l k v : ℕ) → Bytes bytes → k ≤ l → 8 * i ≤ p → p < 8 * i + 8 → p + k ≤ 8 * i + 8 → i < length bytes
    → p + l ≤ 8 * length bytes
    → put_field (set bytes i (patched (get_or bytes i 0) (8 - (p - 8 * i) - k) k (v / 2 ^ (l - k) % 2 ^ k))) (p + k) (l - k) v
    ≡ put_field bytes p l v
put_turn bytes i p l k v small le from near one here fits =
    let a : p - 8 * i ≡ p % 8 = omega arith in
    let b : i ≡ p / 8 = omega arith in
    let e : k + (l - k) ≡ l = omega arith in
    rw (a, b)
    (ap (λ (s : List ℕ). put_field s (p + k) (l - k) v) (put_piece bytes p k (v / 2 ^ (l - k)) small (omega arith) (omega arith))
    ∙ put_add bytes p k (l - k) v (omega arith)
    ∙ ap (λ (n : ℕ). put_field bytes p n v) e)

-- with no bit left nothing is put
pub put_last : (bytes : List ℕ) (p left v : ℕ) → Bytes bytes → left ≤ 0 → put_field bytes p left v ≡ bytes
put_last bytes p left v small none = same_bits _ _ (put_bytes bytes p left v) small (length_put bytes p left v) each
  where
    go : (i : ℕ) → i < 8 * length bytes → Dec (p ≤ i) → bit (put_field bytes p left v) i ≡ bit bytes i
    go i h (yes from) = bit_behind bytes p left v i (omega arith) h
    go i h (no before) = bit_before bytes p left v i (omega arith) h

    each : (i : ℕ) → i < 8 * length (put_field bytes p left v) → bit (put_field bytes p left v) i ≡ bit bytes i
    each i h = let w : i < 8 * length bytes = rw length_put at h in go i w (dec_le p i)
