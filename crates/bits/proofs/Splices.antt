-- The front of one row of bytes before the back of another: the first n bytes are the one's, the others the other's. Assumes nothing.
use Prim.Native.Nat.{ℕ, ◌+◌, ◌-◌, ◌*◌, ◌/◌, ◌<◌, ◌≤◌}
use mathlib.Core.Path.{◌≡◌, sym, ap, ◌∙◌}
use mathlib.Core.List.{List, ◌++◌}
use native.Mathlib.Omega.{arith}
use native.Mathlib.Decide.{dec_le}
use lib.ListN.{length, get_or, take, drop, length-append, length-drop, get_or-append}
use lib.Seq.{length-take-le, get_or-take, get_or-drop, get_or-append-add, drop_at}
use Rattle.bits.specs.Field.{bit, Bytes}
use Rattle.bits.proofs.Fields.{same_bits}

module _ (a b : List ℕ) (n : ℕ) (long : n ≤ length a) where
  byte_low : (k : ℕ) → k < n → get_or (take n a ++ drop n b) k 0 ≡ get_or a k 0
  byte_low k h =
      let t : length (take n a) ≡ n = length-take-le n a long in
      get_or-append (take n a) (drop n b) 0 k (omega arith) ∙ get_or-take n a k 0 h

  byte_high : (k : ℕ) → n ≤ k → get_or (take n a ++ drop n b) k 0 ≡ get_or b k 0
  byte_high k h =
      let t : length (take n a) ≡ n = length-take-le n a long in
      let e : k ≡ length (take n a) + (k - n) = omega arith in
      ap (λ (j : ℕ). get_or (take n a ++ drop n b) j 0) e
      ∙ get_or-append-add (take n a) (drop n b) (k - n) 0
      ∙ get_or-drop n b (k - n) 0
      ∙ ap (λ (j : ℕ). get_or b j 0) (omega arith)

  pub splice_low : (i : ℕ) → i < 8 * n → bit (take n a ++ drop n b) i ≡ bit a i
  unfolding bit
  splice_low i h = rw (byte_low (i / 8) (omega arith))

  pub splice_high : (i : ℕ) → 8 * n ≤ i → bit (take n a ++ drop n b) i ≡ bit b i
  unfolding bit
  splice_high i h = rw (byte_high (i / 8) (omega arith))

  pub splice_bytes : Bytes a → Bytes b → Bytes (take n a ++ drop n b)
  splice_bytes small_a small_b k = go (dec_le n k)
    where
      go : Dec (n ≤ k) → get_or (take n a ++ drop n b) k 0 < 256
      go (yes high) = rw (byte_high k high) (small_b k)
      go (no low) = rw (byte_low k (omega arith)) (small_a k)

  pub length_splice : n ≤ length b → length (take n a ++ drop n b) ≡ length b
  length_splice within = omega (arith, length-append (take n a) (drop n b), length-take-le n a long, length-drop n b)

-- rows of one length that agree from byte n on have the same back
pub same_back : (a b : List ℕ) (n : ℕ) → Bytes a → Bytes b → length a ≡ length b → n ≤ length a
    → ((i : ℕ) → 8 * n ≤ i → i < 8 * length a → bit a i ≡ bit b i) → drop n a ≡ drop n b
same_back a b n small_a small_b same_length within same =
    ap (drop n) whole ∙ drop_at (take n a) (drop n b) n (length-take-le n a within)
  where
    go : (i : ℕ) → i < 8 * length a → Dec (8 * n ≤ i) → bit a i ≡ bit (take n a ++ drop n b) i
    go i h (yes high) = same i high h ∙ sym (splice_high a b n within i high)
    go i h (no low) = sym (splice_low a b n within i (omega arith))

    whole : a ≡ take n a ++ drop n b
    whole =
        same_bits a (take n a ++ drop n b) small_a (splice_bytes a b n within small_a small_b)
        (same_length ∙ sym (length_splice a b n within (omega arith)))
        (λ i h. go i h (dec_le (8 * n) i))

-- what stands behind the first n bytes has no part in the bits before it
pub same_front : (a b : List ℕ) (n : ℕ) → take n a ≡ take n b → (i : ℕ) → i < 8 * n → bit a i ≡ bit b i
unfolding bit
same_front a b n front i h =
    let low : i / 8 < n = omega arith in
    let e : get_or a (i / 8) 0 ≡ get_or b (i / 8) 0 =
    sym (get_or-take n a (i / 8) 0 low) ∙ ap (λ (l : List ℕ). get_or l (i / 8) 0) front ∙ get_or-take n b (i / 8) 0 low in
    rw e
