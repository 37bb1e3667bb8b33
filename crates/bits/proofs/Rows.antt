-- Turns over the fields of a row and over the rows of a table: what is done so far, and what is still to do, make the whole. Assumes nothing.
use Prim.Native.Nat.{ℕ, zero, suc, ◌+◌, ◌-◌, ◌*◌, ◌<◌, ◌≤◌}
use mathlib.Core.Path.{◌≡◌, refl, sym, ap, ap₂, ◌∙◌}
use mathlib.Core.List.{List, [], ◌∷◌, ◌++◌, append-nil, append_assoc}
use native.Mathlib.Omega.{arith}
use native.Mathlib.Numerals.{add-one}
use native.Mathlib.Nat.{add-zero, zero-add, add_assoc, mul-le-mul_right}
use lib.ListN.{length, get_or, take, drop, set, length-append, length-drop, drop_of_length-le, take-append-drop}
use lib.Seq.{sets, sets-eq, length-sets, drop-cons, drop-drop, drop_at, length-take-le}
use Rattle.std.proofs.lemmas.List.{take_rest}
use borrow.Rule.Slice.PartMut.{mid_of, put_mid}
use Rattle.bits.specs.Field.{field_at, put_field}
use Rattle.bits.specs.Table.{total, rows, fields_at, put_fields, unused_bits, field_widths, table_widths, write_table, AtMost}
use Rattle.bits.proofs.Tables.{total_append, total_rows, length_rows, fields_append, length_fields}

-- ---- the fields of a row

-- field k is the next of those from field k on
pub total_next : (widths : List ℕ) (k : ℕ) → k < length widths → total (drop k widths) ≡ get_or widths k 0 + total (drop (k + 1) widths)
unfolding total
total_next widths k h = rw (add-one, drop-cons widths k 0)

pub read_next : (bytes out widths : List ℕ) (p k : ℕ) → k < length widths
    → sets (set out k (field_at bytes p (get_or widths k 0))) (k + 1) (fields_at bytes (p + get_or widths k 0) (drop (k + 1) widths))
    ≡ sets out k (fields_at bytes p (drop k widths))
unfolding fields_at
read_next bytes out widths p k h = rw (add-one, drop-cons widths k 0)

-- with no width left nothing is read
pub read_last : (bytes out widths : List ℕ) (p to k : ℕ) → length widths ≤ k → sets out to (fields_at bytes p (drop k widths)) ≡ out
unfolding fields_at
read_last bytes out widths p to k h = rw drop_of_length-le

-- what the next width of those that are left says: it is narrow, and the rest has what it leaves
pub next_width : (widths rest : List ℕ) (w : ℕ) → widths ≡ w ∷ rest → AtMost 64 widths → (w ≤ 64) × (total widths ≡ w + total rest) × AtMost 64 rest
unfolding total
next_width widths rest w e narrow = (rw e at (narrow 0), rw e, λ i. rw e at (narrow (suc i)))

pub write_next : (bytes widths values more rest : List ℕ) (p w v : ℕ) → widths ≡ w ∷ more → values ≡ v ∷ rest
    → put_fields (put_field bytes p w v) (p + w) more rest ≡ put_fields bytes p widths values
unfolding put_fields
write_next bytes widths values more rest p w v e f = rw (e, f)

-- with no width left nothing is put
pub write_last : (bytes widths values : List ℕ) (p : ℕ) → length widths ≡ 0 → (total widths ≡ 0) × (put_fields bytes p widths values ≡ bytes)
unfolding total put_fields
write_last bytes [] values p none = (refl, refl)
write_last bytes (w ∷ widths) values p none = absurd (omega arith)

-- ---- the rows of a table

pub sets_append : (l : List ℕ) (i : ℕ) (a b : List ℕ) → sets l i (a ++ b) ≡ sets (sets l i a) (i + length a) b
sets_append l i [] b = rw add-zero
sets_append l i (v ∷ a) b = let e : suc i + length a ≡ i + suc (length a) = omega arith in rw (← e) (sets_append (set l i v) (suc i) a b)

pub put_append : (bytes : List ℕ) (p : ℕ) (a b values : List ℕ) → length a ≤ length values
    → put_fields bytes p (a ++ b) values ≡ put_fields (put_fields bytes p a values) (p + total a) b (drop (length a) values)
unfolding put_fields total
put_append bytes p [] b values h = rw add-zero
put_append bytes p (w ∷ a) b [] h = absurd (omega arith)
put_append bytes p (w ∷ a) b (v ∷ values) h = put_append (put_field bytes p w v) (p + w) a b values (omega arith) ∙ rw add_assoc

-- one row more
rows_more : (row : ℕ) (widths : List ℕ) → rows (row + 1) widths ≡ rows row widths ++ widths
unfolding rows
rows_more zero widths = rw append-nil
rows_more (suc row) widths =
    rw add-one (ap (λ (l : List ℕ). widths ++ l) (rw add-one at (rows_more row widths)) ∙ sym (append_assoc widths (rows row widths) widths))

-- with no row left there is none, and before the first all are left
pub rows_last : (count row : ℕ) (widths : List ℕ) → count ≤ row → rows (count - row) widths ≡ []
unfolding rows
rows_last count row widths h = let e : count - row ≡ 0 = omega arith in rw e

pub rows_first : (count : ℕ) (widths : List ℕ) → rows (count - 0) widths ≡ rows count widths
rows_first count widths = let e : count - 0 ≡ count = omega arith in rw e

-- a row of so many stands within the bits, and within the values, of them all
pub row_within : (count row : ℕ) (widths : List ℕ) → row < count
    → (total (rows row widths) + total widths ≤ total (rows count widths)) × ((row + 1) * length widths ≤ count * length widths)
row_within count row widths h =
    let more : row + 1 ≤ count = omega arith in
    (omega (arith, total_rows row widths, total_rows count widths, mul-le-mul_right (total widths) more), mul-le-mul_right (length widths) more)

-- what is written to the rest of a slice, seen in the whole slice
sets_rest : (out : List ℕ) (k : ℕ) (values : List ℕ) → k + length values ≤ length out
    → put_mid k (length out - k) out (sets (mid_of k (length out - k) out) 0 values) ≡ sets out k values
sets_rest out k values room =
    let whole : take (length out - k) (drop k out) ≡ drop k out = take_rest out k in
    let none : drop (length out - k) (drop k out) ≡ [] = drop_of_length-le (drop k out) (omega (arith, length-drop k out)) in
    let fits : 0 + length values ≤ length (drop k out) = omega (arith, length-drop k out) in
    rw (whole, none, sets-eq values (drop k out) 0 fits, sets-eq values out k room, append-nil, zero-add, drop-drop)
    (sym (append_assoc (take k out) values (drop (k + length values) out)))

module _ (bytes : List ℕ) (at row : ℕ) (widths : List ℕ) where
  pub total_more : at + total (rows row widths) + total widths ≡ at + total (rows (row + 1) widths)
  total_more = rw (rows_more, total_append, add_assoc)

  -- a row read behind the rows that are read
  pub read_more : (out : List ℕ) → (row + 1) * length widths ≤ length out
      → let done = sets out 0 (fields_at bytes at (rows row widths)) in
      let k = row * length widths in
      put_mid k (length done - k) done (sets (mid_of k (length done - k) done) 0 (fields_at bytes (at + total (rows row widths)) widths))
      ≡ sets out 0 (fields_at bytes at (rows (row + 1) widths))
  read_more out room =
      let done = sets out 0 (fields_at bytes at (rows row widths)) in
      let next = fields_at bytes (at + total (rows row widths)) widths in
      let k : 0 + length (fields_at bytes at (rows row widths)) ≡ row * length widths =
      omega (arith, length_fields bytes at (rows row widths), length_rows row widths) in
      let long : row * length widths + length next ≤ length done =
      omega (arith, length_fields bytes (at + total (rows row widths)) widths, length-sets out 0 (fields_at bytes at (rows row widths))) in
      sets_rest done (row * length widths) next long
      ∙ ap (λ (n : ℕ). sets done n next) (sym k)
      ∙ sym (sets_append out 0 (fields_at bytes at (rows row widths)) next)
      ∙ ap (sets out 0) (sym (fields_append bytes at (rows row widths) widths) ∙ ap (fields_at bytes at) (sym (rows_more row widths)))

  -- a row written behind the rows that are written
  pub write_more : (values : List ℕ) → row * length widths ≤ length values
      → put_fields (put_fields bytes at (rows row widths) values) (at + total (rows row widths)) widths (drop (row * length widths) values)
      ≡ put_fields bytes at (rows (row + 1) widths) values
  write_more values room =
      let k : row * length widths ≡ length (rows row widths) = sym (length_rows row widths) in
      rw (k, rows_more) (sym (put_append bytes at (rows row widths) widths values (omega arith)))

-- ---- a whole table

-- values past the widths have no part
pub put_extra : (bytes : List ℕ) (p : ℕ) (widths values extra : List ℕ) → length widths ≤ length values
    → put_fields bytes p widths (values ++ extra) ≡ put_fields bytes p widths values
unfolding put_fields
put_extra bytes p [] values extra h = refl
put_extra bytes p (w ∷ widths) [] extra h = absurd (omega arith)
put_extra bytes p (w ∷ widths) (v ∷ values) extra h = put_extra (put_field bytes p w v) (p + w) widths values extra (omega arith)

pub put_take : (bytes : List ℕ) (p : ℕ) (widths values : List ℕ) (n : ℕ) → length widths ≤ n → n ≤ length values
    → put_fields bytes p widths (take n values) ≡ put_fields bytes p widths values
put_take bytes p widths values n h room =
    sym (put_extra bytes p widths (take n values) (drop n values) (rw length-take-le h)) ∙ ap (put_fields bytes p widths) (take-append-drop n values)

-- fields one after the other, with as many values as widths in the first part
pub put_parts : (bytes : List ℕ) (p : ℕ) (a b va vb : List ℕ) → length a ≡ length va
    → put_fields bytes p (a ++ b) (va ++ vb) ≡ put_fields (put_fields bytes p a va) (p + total a) b vb
put_parts bytes p a b va vb same =
    put_append bytes p a b (va ++ vb) (omega (arith, length-append va vb))
    ∙ ap (λ (s : List ℕ). put_fields s (p + total a) b (drop (length a) (va ++ vb))) (put_extra bytes p a va vb (omega arith))
    ∙ ap (put_fields (put_fields bytes p a va) (p + total a) b) (drop_at va vb (length a) (sym same))

-- the head, then the rows, then zero in the unused bits: that is the table
pub table_written : (bytes head widths vhead values : List ℕ) (count : ℕ) → length head ≡ length vhead → count * length widths ≤ length values
    → let end = total head + total (rows count widths) in
    put_field (put_fields (put_fields bytes 0 head vhead) (total head) (rows count widths) values) end (unused_bits end) 0
    ≡ write_table bytes head widths count (vhead ++ take (count * length widths) values)
unfolding write_table table_widths field_widths
table_written bytes head widths vhead values count same room =
    sym
    (put_parts bytes 0 (head ++ rows count widths) _ (vhead ++ take (count * length widths) values) (0 ∷ []) long
    ∙ ap₂ (λ (s : List ℕ) (n : ℕ). put_fields s (0 + n) (unused_bits n ∷ []) (0 ∷ [])) inner (total_append head (rows count widths))
    ∙ (unfold put_fields in (rw zero-add)))
  where
    long : length (head ++ rows count widths) ≡ length (vhead ++ take (count * length widths) values)
    long =
        length-append head (rows count widths)
        ∙ omega (arith, length_rows count widths, same, length-take-le (count * length widths) values room)
        ∙ sym (length-append vhead (take (count * length widths) values))

    inner : put_fields bytes 0 (head ++ rows count widths) (vhead ++ take (count * length widths) values)
        ≡ put_fields (put_fields bytes 0 head vhead) (total head) (rows count widths) values
    inner =
        put_parts bytes 0 head (rows count widths) vhead (take (count * length widths) values) same
        ∙ rw zero-add (put_take (put_fields bytes 0 head vhead) (total head) (rows count widths) values (count * length widths) (omega (arith, length_rows count widths)) room)

-- the same, as the writer goes: each step says where it ends and what it leaves
pub table_steps : (bytes head widths vhead values : List ℕ) (count : ℕ) → length head ≡ length vhead → count * length widths ≤ length values
    → (one two three : List ℕ) (end₁ end₂ unused : ℕ)
    → end₁ ≡ 0 + total head → one ≡ put_fields bytes 0 head vhead
    → end₂ ≡ end₁ + total (rows count widths) → two ≡ put_fields one end₁ (rows count widths) values
    → unused ≡ unused_bits end₂ → three ≡ put_field two end₂ unused 0
    → three ≡ write_table bytes head widths count (vhead ++ take (count * length widths) values)
table_steps bytes head widths vhead values count same room one two three end₁ end₂ unused a b d e f g =
    let first : end₁ ≡ total head = omega arith in
    let second : end₂ ≡ total head + total (rows count widths) = omega arith in
    g ∙ rw (f, e, b, second, first) (table_written bytes head widths vhead values count same room)
