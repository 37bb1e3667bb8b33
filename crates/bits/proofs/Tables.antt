-- Laws of tables, over any widths: what is written is read back, and what is read is written again. Both go field by field. Assumes nothing.
use Prim.Native.Nat.{ℕ, zero, suc, ◌+◌, ◌-◌, ◌*◌, ◌%◌, ◌<◌, ◌≤◌}
use mathlib.Core.Path.{◌≡◌, refl, sym, ap, ap₂, ◌∙◌}
use mathlib.Core.List.{List, [], ◌∷◌, ◌++◌}
use native.Mathlib.Omega.{arith}
use native.Mathlib.Nat.{add-zero, zero-add, add_assoc}
use native.Mathlib.Decide.{dec_le}
use lib.ListN.{length, get_or, take, drop, length-append}
use lib.Seq.{take_at, get_or_at}
use lib.Pow.{pow_pos}
use Rattle.bits.specs.Field.{bit, field_at, put_field, Bytes}
use Rattle.bits.specs.Table.{total, rows, fields_at, put_fields, unused_bits, field_widths, table_widths, table_bytes, read_table, unused_at, write_table, Fit}
use Rattle.bits.proofs.Splices.{splice_low, splice_high, splice_bytes, length_splice, same_back, same_front}
use Rattle.bits.proofs.Fields.{bit_inside, bit_before, bit_behind, length_put, put_bytes, put_get, field_same, digit_field, same_bits}

-- ---- widths

pub total_append : (a b : List ℕ) → total (a ++ b) ≡ total a + total b
unfolding total
total_append [] b = omega arith
total_append (w ∷ a) b = omega (arith, total_append a b)

pub total_rows : (n : ℕ) (row : List ℕ) → total (rows n row) ≡ n * total row
unfolding rows total
total_rows zero row = omega arith
total_rows (suc n) row = total_append row (rows n row) ∙ omega (arith, total_rows n row)

pub length_rows : (n : ℕ) (row : List ℕ) → length (rows n row) ≡ n * length row
unfolding rows
length_rows zero row = omega arith
length_rows (suc n) row = length-append row (rows n row) ∙ omega (arith, length_rows n row)

-- ---- fields that follow one another

pub length_fields : (bytes : List ℕ) (p : ℕ) (widths : List ℕ) → length (fields_at bytes p widths) ≡ length widths
unfolding fields_at
length_fields bytes p [] = refl
length_fields bytes p (w ∷ widths) = ap suc (length_fields bytes (p + w) widths)

pub fields_append : (bytes : List ℕ) (p : ℕ) (a b : List ℕ) → fields_at bytes p (a ++ b) ≡ fields_at bytes p a ++ fields_at bytes (p + total a) b
unfolding fields_at total
fields_append bytes p [] b = rw add-zero
fields_append bytes p (w ∷ a) b = ap (λ (l : List ℕ). field_at bytes p w ∷ l) (fields_append bytes (p + w) a b ∙ rw add_assoc)

-- rows with the same bits have the same fields
pub fields_same : (a b : List ℕ) (p : ℕ) (widths : List ℕ) → ((i : ℕ) → p ≤ i → i < p + total widths → bit a i ≡ bit b i) → fields_at a p widths ≡ fields_at b p widths
unfolding fields_at total
fields_same a b p [] same = refl
fields_same a b p (w ∷ widths) same =
    ap₂ ◌∷◌
    (field_same a b p w (λ i lo hi. same i lo (omega arith)))
    (fields_same a b (p + w) widths (λ i lo hi. same i (omega arith) (omega arith)))

pub length_put_fields : (bytes : List ℕ) (p : ℕ) (widths values : List ℕ) → length (put_fields bytes p widths values) ≡ length bytes
unfolding put_fields
length_put_fields bytes p [] values = refl
length_put_fields bytes p (w ∷ widths) [] = refl
length_put_fields bytes p (w ∷ widths) (v ∷ values) = length_put_fields (put_field bytes p w v) (p + w) widths values ∙ length_put bytes p w v

pub put_fields_bytes : (bytes : List ℕ) (p : ℕ) (widths values : List ℕ) → Bytes bytes → Bytes (put_fields bytes p widths values)
unfolding put_fields
put_fields_bytes bytes p [] values small = small
put_fields_bytes bytes p (w ∷ widths) [] small = small
put_fields_bytes bytes p (w ∷ widths) (v ∷ values) small = put_fields_bytes (put_field bytes p w v) (p + w) widths values (put_bytes bytes p w v)

-- fields put before and behind a bit leave it
pub put_fields_before : (bytes : List ℕ) (p : ℕ) (widths values : List ℕ) (i : ℕ) → i < p → i < 8 * length bytes → bit (put_fields bytes p widths values) i ≡ bit bytes i
unfolding put_fields
put_fields_before bytes p [] values i before h = refl
put_fields_before bytes p (w ∷ widths) [] i before h = refl
put_fields_before bytes p (w ∷ widths) (v ∷ values) i before h =
    put_fields_before (put_field bytes p w v) (p + w) widths values i (omega arith) (rw length_put h) ∙ bit_before bytes p w v i before h

pub put_fields_behind : (bytes : List ℕ) (p : ℕ) (widths values : List ℕ) (i : ℕ) → p + total widths ≤ i → i < 8 * length bytes
    → bit (put_fields bytes p widths values) i ≡ bit bytes i
unfolding put_fields total
put_fields_behind bytes p [] values i behind h = refl
put_fields_behind bytes p (w ∷ widths) [] i behind h = refl
put_fields_behind bytes p (w ∷ widths) (v ∷ values) i behind h =
    put_fields_behind (put_field bytes p w v) (p + w) widths values i (omega arith) (rw length_put h) ∙ bit_behind bytes p w v i (omega arith) h

-- ---- the two round trips

-- what is written is read back
pub put_fields_get : (bytes : List ℕ) (p : ℕ) (widths values : List ℕ) → p + total widths ≤ 8 * length bytes → Fit widths values
    → fields_at (put_fields bytes p widths values) p widths ≡ values
unfolding put_fields fields_at total
put_fields_get bytes p [] [] room fit = refl
put_fields_get bytes p [] (v ∷ values) room fit = absurd fit
put_fields_get bytes p (w ∷ widths) [] room fit = absurd fit
put_fields_get bytes p (w ∷ widths) (v ∷ values) room fit =
    let one = put_field bytes p w v in
    let long : length one ≡ length bytes = length_put bytes p w v in
    ap₂ ◌∷◌
    (field_same (put_fields one (p + w) widths values) one p w (λ i lo hi. put_fields_before one (p + w) widths values i hi (omega arith))
    ∙ put_get bytes p w v (omega arith) fit.0)
    (put_fields_get one (p + w) widths values (omega arith) fit.1)

-- what is read from one row of bytes and written into another gives that the bits that were read
pub get_put_fields : (from into : List ℕ) (p : ℕ) (widths : List ℕ) → p + total widths ≤ 8 * length into
    → (i : ℕ) → p ≤ i → i < p + total widths → bit (put_fields into p widths (fields_at from p widths)) i ≡ bit from i
unfolding put_fields fields_at total
get_put_fields from into p [] room i lo hi = absurd (omega arith)
get_put_fields from into p (w ∷ widths) room i lo hi = go (get_put_fields from one (p + w) widths (rw length_put (omega arith)) i) (dec_le (p + w) i)
  where
    one : List ℕ
    one = put_field into p w (field_at from p w)

    go : (p + w ≤ i → i < p + w + total widths → bit (put_fields one (p + w) widths (fields_at from (p + w) widths)) i ≡ bit from i)
        → Dec (p + w ≤ i) → bit (put_fields one (p + w) widths (fields_at from (p + w) widths)) i ≡ bit from i
    go later (yes behind) = later behind (omega arith)
    go later (no here) =
        put_fields_before one (p + w) widths (fields_at from (p + w) widths) i (omega arith) (rw length_put (omega arith))
        ∙ bit_inside into p w (field_at from p w) i lo (omega arith) (omega arith)
        ∙ digit_field from p w (p + w - 1 - i) (omega arith)
        ∙ ap (bit from) (omega arith)

-- ---- tables

-- a table fills its bytes exactly
pub table_total : (head row : List ℕ) (n : ℕ) → total (table_widths head row n) ≡ 8 * table_bytes head row n
unfolding table_widths table_bytes
table_total head row n =
    let w = total (field_widths head row n) in
    total_append (field_widths head row n) ((8 - w % 8) % 8 ∷ []) ∙ (unfold total in (omega arith))

-- head and rows, and the unused bits behind them
pub table_parts : (head row : List ℕ) (n : ℕ)
    → (total (field_widths head row n) ≡ total head + total (rows n row)) × (total head + total (rows n row) + unused_bits (total head + total (rows n row)) ≡ 8 * table_bytes head row n)
unfolding table_bytes field_widths
table_parts head row n =
    let e = total_append head (rows n row) in
    (e, rw e (omega arith))

-- a list with one more at its end is known by its front and by that one
snoc_same : (a b : List ℕ) (x y : ℕ) → length a ≡ length b → a ++ x ∷ [] ≡ b ++ y ∷ [] → (a ≡ b) × (x ≡ y)
snoc_same a b x y long same = (
  sym (take_at a (x ∷ []) (length b) long) ∙ ap (take (length b)) same ∙ take_at b (y ∷ []) (length b) refl,
  sym (get_or_at a x [] 0 (length b) long) ∙ ap (λ (l : List ℕ). get_or l (length b) 0) same ∙ get_or_at b y [] 0 (length b) refl,
)

-- values that fit, with zero behind them
fit_snoc : (widths values : List ℕ) (u : ℕ) → Fit widths values → Fit (widths ++ u ∷ []) (values ++ 0 ∷ [])
fit_snoc [] [] u fit = (pow_pos u, tt)
fit_snoc [] (v ∷ values) u fit = absurd fit
fit_snoc (w ∷ widths) [] u fit = absurd fit
fit_snoc (w ∷ widths) (v ∷ values) u fit = (fit.0, fit_snoc widths values u fit.1)

pub fit_length : (widths values : List ℕ) → Fit widths values → length widths ≡ length values
fit_length [] [] fit = refl
fit_length [] (v ∷ values) fit = absurd fit
fit_length (w ∷ widths) [] fit = absurd fit
fit_length (w ∷ widths) (v ∷ values) fit = ap suc (fit_length widths values fit.1)

-- One table: head and row widths, n rows.
module _ (head row : List ℕ) (n : ℕ) where
  -- all its fields, the unused bits among them
  all_fields : (bytes : List ℕ) → fields_at bytes 0 (table_widths head row n) ≡ read_table bytes head row n ++ unused_at bytes head row n ∷ []
  unfolding table_widths read_table unused_at
  all_fields bytes = fields_append bytes 0 (field_widths head row n) _ ∙ (unfold fields_at in (rw zero-add))

  length_table : (bytes : List ℕ) → length (read_table bytes head row n) ≡ length (field_widths head row n)
  unfolding read_table
  length_table bytes = length_fields bytes 0 (field_widths head row n)

  -- what is read with zero in the unused bits, written again, is all its fields put back
  written_again : (from into : List ℕ) → unused_at from head row n ≡ 0
      → write_table into head row n (read_table from head row n) ≡ put_fields into 0 (table_widths head row n) (fields_at from 0 (table_widths head row n))
  unfolding write_table
  written_again from into unused = rw (all_fields from, unused)

  -- written and read back: the same values, and zero in the unused bits
  pub write_read : (bytes values : List ℕ) → table_bytes head row n ≤ length bytes → Fit (field_widths head row n) values
      → (read_table (write_table bytes head row n values) head row n ≡ values) × (unused_at (write_table bytes head row n values) head row n ≡ 0)
  unfolding write_table table_widths
  write_read bytes values room fit =
      snoc_same _ values _ 0 long
      (sym (all_fields (write_table bytes head row n values))
      ∙ put_fields_get bytes 0 (table_widths head row n) (values ++ 0 ∷ []) (omega (arith, table_total head row n))
      (fit_snoc (field_widths head row n) values _ fit))
    where
      long : length (read_table (write_table bytes head row n values) head row n) ≡ length values
      long = length_table (write_table bytes head row n values) ∙ fit_length (field_widths head row n) values fit

  -- what the written bytes are: as many as before, bytes again, and behind the table as they were
  pub length_write : (bytes values : List ℕ) → length (write_table bytes head row n values) ≡ length bytes
  unfolding write_table
  length_write bytes values = length_put_fields bytes 0 (table_widths head row n) (values ++ 0 ∷ [])

  pub write_bytes : (bytes values : List ℕ) → Bytes bytes → Bytes (write_table bytes head row n values)
  unfolding write_table
  write_bytes bytes values small = put_fields_bytes bytes 0 (table_widths head row n) (values ++ 0 ∷ []) small

  write_behind_bit : (bytes values : List ℕ) (i : ℕ) → 8 * table_bytes head row n ≤ i → i < 8 * length bytes → bit (write_table bytes head row n values) i ≡ bit bytes i
  unfolding write_table
  write_behind_bit bytes values i behind h =
      put_fields_behind bytes 0 (table_widths head row n) (values ++ 0 ∷ []) i (omega (arith, table_total head row n)) h

  pub write_behind : (bytes values : List ℕ) → Bytes bytes → table_bytes head row n ≤ length bytes
      → drop (table_bytes head row n) (write_table bytes head row n values) ≡ drop (table_bytes head row n) bytes
  write_behind bytes values small room =
      same_back (write_table bytes head row n values) bytes (table_bytes head row n) (write_bytes bytes values small) small (length_write bytes values)
      (rw length_write room) (λ i behind h. write_behind_bit bytes values i behind (rw length_write at h))

  -- read and written again: the same bytes in front, and behind them what stood there
  pub read_write : (from into : List ℕ) → Bytes from → Bytes into → table_bytes head row n ≤ length from → table_bytes head row n ≤ length into
      → unused_at from head row n ≡ 0
      → write_table into head row n (read_table from head row n) ≡ take (table_bytes head row n) from ++ drop (table_bytes head row n) into
  read_write from into small_from small_into long room unused =
      same_bits written spliced (write_bytes into _ small_into) (splice_bytes from into used long small_from small_into)
      (length_write into _ ∙ sym (length_splice from into used long room))
      (λ i h. go i (rw length_write at h) (dec_le (8 * used) i))
    where
      used : ℕ
      used = table_bytes head row n

      written : List ℕ
      written = write_table into head row n (read_table from head row n)

      spliced : List ℕ
      spliced = take used from ++ drop used into

      go : (i : ℕ) → i < 8 * length into → Dec (8 * used ≤ i) → bit written i ≡ bit spliced i
      go i h (yes behind) = write_behind_bit into _ i behind h ∙ sym (splice_high from into used long i behind)
      go i h (no front) =
          ap (λ (l : List ℕ). bit l i) (written_again from into unused)
          ∙ get_put_fields from into 0 (table_widths head row n) (omega (arith, table_total head row n)) i (omega arith) (omega (arith, table_total head row n))
          ∙ sym (splice_low from into used long i (omega arith))

  -- what stands behind a table has no part in what is read
  pub read_front : (a b : List ℕ) → take (table_bytes head row n) a ≡ take (table_bytes head row n) b
      → (read_table a head row n ≡ read_table b head row n) × (unused_at a head row n ≡ unused_at b head row n)
  read_front a b front =
      snoc_same _ _ _ _ (length_table a ∙ sym (length_table b))
      (sym (all_fields a)
      ∙ fields_same a b 0 (table_widths head row n) (λ i lo hi. same_front a b (table_bytes head row n) front i (omega (arith, table_total head row n)))
      ∙ all_fields b)
