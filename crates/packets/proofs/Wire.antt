-- Laws of a table on the wire, for any widths: what passing the tests of its bytes tells, that a table which is written passes them, and that what stands
-- behind a table has no influence; then those of its rows: where they fit, and how far their tests look. A list and a plan are two instances. All stand on the table laws of the bits layer. Assumes nothing.
use Prim.Native.Nat.{ℕ, zero, suc, ◌+◌, ◌*◌, ◌<◌, ◌≤◌, ◌^◌}
use mathlib.Core.Path.{◌≡◌, refl, sym, ap, ap₂, subst, ◌∙◌}
use mathlib.Core.List.{List, [], ◌∷◌, ◌++◌}
use native.Mathlib.Omega.{arith}
use native.Mathlib.Nat.{zero-add, mul-le-mul_left}
use lib.ListN.{length, get_or, take, drop, length-drop, take-append-drop, get_or-append}
use lib.Seq.{sets, sets-eq, get_or-take, get_or-drop, length-take-le}
use lib.Dec.{eqb, ltb}
use borrow.Author.Tests.{eqb-false, ltb-false, eq-eqb, ne_eqb, lt-ltb, le-ltb}
use Rattle.bits.specs.Table.{total, rows, fields_at, field_widths, table_bytes, read_table, unused_at, write_table, Fit}
use Rattle.bits.proofs.Tables.{total_append, total_rows, length_rows, length_fields, write_read, length_write, read_front}
use Rattle.packets.specs.Outcome.{Outcome, gives, refuses, ◌when◌else◌, ◌then◌, ◌given◌else◌, in_order, number_of}
use Rattle.packets.specs.Wire.{Form, head_of, rows_on, numbers_on, count_at, count_tests, table_tests, table_outcome}
use Rattle.packets.proofs.Outcomes.{when_gives, then_gives, three_then, given_leaves, in_order_same, in_order_none}

-- ---- what passing tells

-- bytes that hold a whole table, with zero in its unused bits
pub record Whole (head row : List ℕ) (most : ℕ) (bytes : List ℕ) : Type 0 where
  pub some : 0 < count_at bytes head
  pub few : count_at bytes head ≤ most
  pub held : table_bytes head row (count_at bytes head) ≤ length bytes
  pub clear : unused_at bytes head row (count_at bytes head) ≡ 0

-- One table: the widths of its count, of the rest of its head and of a row, the most rows, and the refusals of no rows and of too many.
module _ (w : ℕ) (more row : List ℕ) (most none many : ℕ) where
  pub wire_whole : (bytes values : List ℕ) → table_tests (w ∷ more) row most none many bytes ≡ gives values → (values ≡ []) × Whole (w ∷ more) row most bytes
  unfolding table_tests
  wire_whole bytes values h =
      let a = when_gives 1 0 (eqb (length bytes) 0) refl h in
      let b = when_gives none 0 (eqb (count_at bytes (w ∷ more)) 0) refl a.1 in
      let d = when_gives many 0 (ltb most (count_at bytes (w ∷ more))) refl b.1 in
      let e = when_gives 1 0 (ltb (length bytes) (table_bytes (w ∷ more) row (count_at bytes (w ∷ more)))) refl d.1 in
      let f = when_gives 7 0 (ltb 0 (unused_at bytes (w ∷ more) row (count_at bytes (w ∷ more)))) refl e.1 in
      let z : count_at bytes (w ∷ more) ≡ 0 → ⊥ = eqb-false _ _ b.0 in
      let u : unused_at bytes (w ∷ more) row (count_at bytes (w ∷ more)) ≤ 0 = ltb-false _ _ f.0 in
      let v : gives [] ≡ gives values = f.1 in
      (cc, record { some = omega arith; few = ltb-false _ _ d.0; held = ltb-false _ _ e.0; clear = omega arith })

  -- a table whose count has a bit takes a byte at least
  table_some : 0 < w → (n : ℕ) → 0 < table_bytes (w ∷ more) row n
  unfolding table_bytes field_widths total
  table_some wide n = omega arith

  pub whole_wire : 0 < w → (bytes : List ℕ) → Whole (w ∷ more) row most bytes → table_tests (w ∷ more) row most none many bytes ≡ gives []
  unfolding table_tests ◌when◌else◌
  whole_wire wide bytes whole =
      let used = table_some wide (count_at bytes (w ∷ more)) in
      let held = whole.held in
      let z : length bytes ≡ 0 → ⊥ = λ (e : length bytes ≡ 0). omega arith in
      let y : count_at bytes (w ∷ more) ≡ 0 → ⊥ = λ (e : count_at bytes (w ∷ more) ≡ 0). omega (arith, whole.some) in
      let u : unused_at bytes (w ∷ more) row (count_at bytes (w ∷ more)) ≤ 0 = omega (arith, whole.clear) in
      simp (ne_eqb _ _ z, ne_eqb _ _ y, le-ltb _ _ whole.few, le-ltb _ _ held, le-ltb _ _ u)

  -- ---- written and read back

  -- a table that is written is whole: its count, then the rest of its values
  pub written_whole : (count : ℕ) (rest lent : List ℕ) → Fit (field_widths (w ∷ more) row count) (count ∷ rest) → table_bytes (w ∷ more) row count ≤ length lent
      → 0 < count → count ≤ most
      → (count_at (write_table lent (w ∷ more) row count (count ∷ rest)) (w ∷ more) ≡ count)
      × Whole (w ∷ more) row most (write_table lent (w ∷ more) row count (count ∷ rest))
  unfolding read_table field_widths fields_at
  written_whole count rest lent fits long some few =
      let back = write_read (w ∷ more) row count lent (count ∷ rest) long fits in
      let n : count_at (write_table lent (w ∷ more) row count (count ∷ rest)) (w ∷ more) ≡ count = cc back.0 in
      (n, record { some = rw n some; few = rw n few; held = rw (n, length_write) long; clear = rw n back.1 })

  -- ---- what stands behind a table

  -- bytes that agree as far as a whole table goes have the same count, the same values, and the same answer of the tests
  pub front_same : 0 < w → (a b : List ℕ)
      → table_bytes (w ∷ more) row (count_at a (w ∷ more)) ≤ length a → table_bytes (w ∷ more) row (count_at a (w ∷ more)) ≤ length b
      → take (table_bytes (w ∷ more) row (count_at a (w ∷ more))) a ≡ take (table_bytes (w ∷ more) row (count_at a (w ∷ more))) b
      → (count_at b (w ∷ more) ≡ count_at a (w ∷ more))
      × (read_table a (w ∷ more) row (count_at a (w ∷ more)) ≡ read_table b (w ∷ more) row (count_at a (w ∷ more)))
      × (table_tests (w ∷ more) row most none many a ≡ table_tests (w ∷ more) row most none many b)
  unfolding table_tests ◌when◌else◌
  front_same wide a b long_a long_b front =
      let same = read_front (w ∷ more) row (count_at a (w ∷ more)) a b front in
      let n : count_at b (w ∷ more) ≡ count_at a (w ∷ more) = (unfold read_table field_widths fields_at in (cc same.0)) in
      let used = table_some wide (count_at a (w ∷ more)) in
      let z : length a ≡ 0 → ⊥ = λ (e : length a ≡ 0). omega arith in
      let y : length b ≡ 0 → ⊥ = λ (e : length b ≡ 0). omega arith in
      (n, same.0, rw (n, same.1) (simp (ne_eqb _ _ z, ne_eqb _ _ y, le-ltb _ _ long_a, le-ltb _ _ long_b)))

-- ---- the tests one by one, as code makes them

-- Some bytes, and the count that was read from their front.
module _ (w : ℕ) (more row : List ℕ) (most none many : ℕ) (bytes : List ℕ) (count : ℕ) (n : count ≡ count_at bytes (w ∷ more)) (any : length bytes ≡ 0 → ⊥) where
  pub no_rows : count ≡ 0 → refuses none 0 ≡ table_tests (w ∷ more) row most none many bytes
  unfolding table_tests ◌when◌else◌
  no_rows zero_count = rw (← n) (simp (ne_eqb _ _ any, eq-eqb _ _ zero_count))

  pub many_rows : (count ≡ 0 → ⊥) → most < count → refuses many 0 ≡ table_tests (w ∷ more) row most none many bytes
  unfolding table_tests ◌when◌else◌
  many_rows some above = rw (← n) (simp (ne_eqb _ _ any, ne_eqb _ _ some, lt-ltb _ _ above))

  pub few_bytes : (count ≡ 0 → ⊥) → count ≤ most → length bytes < table_bytes (w ∷ more) row count → refuses 1 0 ≡ table_tests (w ∷ more) row most none many bytes
  unfolding table_tests ◌when◌else◌
  few_bytes some few short = rw (← n) (simp (ne_eqb _ _ any, ne_eqb _ _ some, le-ltb _ _ few, lt-ltb _ _ short))

  pub unused_bit : (count ≡ 0 → ⊥) → count ≤ most → table_bytes (w ∷ more) row count ≤ length bytes → 0 < unused_at bytes (w ∷ more) row count
      → refuses 7 0 ≡ table_tests (w ∷ more) row most none many bytes
  unfolding table_tests ◌when◌else◌
  unused_bit some few held set = rw (← n) (simp (ne_eqb _ _ any, ne_eqb _ _ some, le-ltb _ _ few, le-ltb _ _ held, lt-ltb _ _ set))

  pub no_fault : (count ≡ 0 → ⊥) → count ≤ most → table_bytes (w ∷ more) row count ≤ length bytes → unused_at bytes (w ∷ more) row count ≤ 0
      → gives [] ≡ table_tests (w ∷ more) row most none many bytes
  unfolding table_tests ◌when◌else◌
  no_fault some few held clear = rw (← n) (simp (ne_eqb _ _ any, ne_eqb _ _ some, le-ltb _ _ few, le-ltb _ _ held, le-ltb _ _ clear))

-- ---- rows

-- rows fit their widths where each number is below 2 to the width of its field
fit_each : (widths values : List ℕ) → length values ≡ length widths → ((j : ℕ) → j < length widths → get_or values j 0 < 2 ^ get_or widths j 0) → Fit widths values
fit_each [] [] long each = tt
fit_each [] (v ∷ values) long each = absurd (omega arith)
fit_each (w ∷ widths) [] long each = absurd (omega arith)
fit_each (w ∷ widths) (v ∷ values) long each = (each 0 (omega arith), fit_each widths values (omega arith) (λ j h. each (suc j) (omega arith)))

fit_append : (a b x y : List ℕ) → Fit a x → Fit b y → Fit (a ++ b) (x ++ y)
fit_append [] b [] y p q = q
fit_append [] b (v ∷ x) y p q = absurd p
fit_append (w ∷ a) b [] y p q = absurd p
fit_append (w ∷ a) b (v ∷ x) y p q = (p.0, fit_append a b x y p.1 q)

fit_all : (row : List ℕ) (n : ℕ) (values : List ℕ) → length values ≡ length row * n
    → ((i j : ℕ) → i < n → j < length row → get_or values (length row * i + j) 0 < 2 ^ get_or row j 0) → Fit (rows n row) values
unfolding rows
fit_all row zero [] long each = tt
fit_all row zero (v ∷ values) long each = absurd (omega arith)
fit_all row (suc n) values long each =
    subst (Fit (row ++ rows n row)) (take-append-drop (length row) values)
    (fit_append row (rows n row) (take (length row) values) (drop (length row) values)
    (fit_each row (take (length row) values) (length-take-le (length row) values (omega arith)) first)
    (fit_all row n (drop (length row) values) (omega (arith, length-drop (length row) values)) later))
  where
    first : (j : ℕ) → j < length row → get_or (take (length row) values) j 0 < 2 ^ get_or row j 0
    first j h =
        let e : length row * 0 + j ≡ j = omega arith in
        rw (get_or-take (length row) values j 0 h) (rw e at (each 0 j (omega arith) h))

    later : (i j : ℕ) → i < n → j < length row → get_or (drop (length row) values) (length row * i + j) 0 < 2 ^ get_or row j 0
    later i j within h =
        let e : length row * suc i + j ≡ length row + (length row * i + j) = omega arith in
        rw (get_or-drop (length row) values (length row * i + j) 0) (rw e at (each (suc i) j (omega arith) h))

pub fit_rows : (row : List ℕ) (n : ℕ) (values : List ℕ) → length row * n ≤ length values
    → ((i j : ℕ) → i < n → j < length row → get_or values (length row * i + j) 0 < 2 ^ get_or row j 0) → Fit (rows n row) (take (length row * n) values)
fit_rows row n values held each = fit_all row n (take (length row * n) values) (length-take-le (length row * n) values held) first
  where
    first : (i j : ℕ) → i < n → j < length row → get_or (take (length row * n) values) (length row * i + j) 0 < 2 ^ get_or row j 0
    first i j within h = rw (get_or-take (length row * n) values (length row * i + j) 0 (omega (arith, mul-le-mul_left (length row) within))) (each i j within h)

-- values stored at the front of a longer buffer stand before what stood behind them
stored_front : (values buffer : List ℕ) → length values ≤ length buffer → sets buffer 0 values ≡ values ++ drop (length values) buffer
stored_front values buffer room = let placed = sets-eq values buffer 0 (omega arith) in rw zero-add at placed

-- and that is what a call leaves where it gives values
pub stored_given : {outcome : Outcome} {own : List ℕ} (values lent : List ℕ) → gives own ≡ outcome → length values ≤ length lent
    → sets lent 0 values ≡ (values ++ drop (length values) lent given outcome else lent)
stored_given values lent e room = stored_front values lent room ∙ sym (given_leaves _ _ e)

-- Rows of `size` numbers, and a test that looks at no row but its own.
module _ (size : ℕ) (test : List ℕ → ℕ → Outcome)
    (own : (a b : List ℕ) (i : ℕ) → ((j : ℕ) → j < size → get_or a (size * i + j) 0 ≡ get_or b (size * i + j) 0) → test a i ≡ test b i) where
  -- rows that agree as far as the tests look come to the same
  pub rows_same : (n i : ℕ) (a b : List ℕ) → ((k : ℕ) → k < size * (i + n) → get_or a k 0 ≡ get_or b k 0) → in_order (test a) n i ≡ in_order (test b) n i
  rows_same n i a b same =
      in_order_same (test a) (test b) n i (λ k lo hi. own a b k (λ j h. same (size * k + j) (omega (arith, mul-le-mul_left size hi))))

  -- rows past the count have no influence
  pub rows_past : (count : ℕ) (values extra : List ℕ) → size * count ≤ length values → in_order (test (values ++ extra)) count 0 ≡ in_order (test values) count 0
  rows_past count values extra held = rows_same count 0 (values ++ extra) values (λ k h. get_or-append values extra 0 k (omega arith))

  -- the same of rows that were stored at the front of a longer buffer
  pub rows_stored : (count : ℕ) (buffer values : List ℕ) → size * count ≤ length values → length values ≤ length buffer
      → in_order (test (sets buffer 0 values)) count 0 ≡ in_order (test values) count 0
  rows_stored count buffer values held room =
      ap (λ (l : List ℕ). in_order (test l) count 0) (stored_front values buffer room) ∙ rows_past count values _ held

  -- and of the rows up to the count
  pub rows_first : (count : ℕ) (values : List ℕ) → size * count ≤ length values → in_order (test (take (size * count) values)) count 0 ≡ in_order (test values) count 0
  rows_first count values held =
      sym (rows_past count (take (size * count) values) (drop (size * count) values) (omega (arith, length-take-le (size * count) values held)))
      ∙ ap (λ (l : List ℕ). in_order (test l) count 0) (take-append-drop (size * count) values)

-- ---- the bits of a table

-- a table's bits are those of its head and those of its rows
pub parts_total : (head row : List ℕ) (n : ℕ) → total (field_widths head row n) ≡ total head + total row * n
unfolding field_widths
parts_total head row n = total_append head (rows n row) ∙ rw total_rows (omega arith)

-- the tests of rows that were read to the front of a buffer are those of the rows on the wire
pub rows_read : (head row : List ℕ) (test : List ℕ → ℕ → Outcome)
    → ((a b : List ℕ) (i : ℕ) → ((j : ℕ) → j < length row → get_or a (length row * i + j) 0 ≡ get_or b (length row * i + j) 0) → test a i ≡ test b i)
    → (bytes buffer : List ℕ) (count at : ℕ) → count ≡ count_at bytes head → at ≡ total head → length row * count ≤ length buffer
    → in_order (test (sets buffer 0 (fields_at bytes at (rows count row)))) count 0
    ≡ in_order (test (fields_at bytes (total head) (rows (count_at bytes head) row))) (count_at bytes head) 0
rows_read head row test own bytes buffer count at n h held =
    let long : length (fields_at bytes at (rows count row)) ≡ length row * count = length_fields bytes at (rows count row) ∙ length_rows count row ∙ omega arith in
    rows_stored (length row) test own count buffer (fields_at bytes at (rows count row)) (omega arith) (omega arith)
    ∙ ap₂ (λ (m : ℕ) (l : List ℕ). in_order (test l) m 0) n (rw (n, h))

-- the head and the rows of a whole table lie inside the bytes
pub whole_bits : (head row : List ℕ) (most : ℕ) (bytes : List ℕ) (count : ℕ) → Whole head row most bytes → count ≡ count_at bytes head
    → total head + total (rows count row) ≤ 8 * length bytes
unfolding table_bytes field_widths
whole_bits head row most bytes count whole n =
    let held = rw (← n) at whole.held in
    let bits = total_append head (rows count row) in
    omega arith

-- ---- what an outcome that gives values tells

-- a table that is read: whole, its rows pass, and there is room for them
pub record Readable (form : Form) (bytes : List ℕ) (room : ℕ) : Type 0 where
  pub whole : Whole (head_of form) form.row form.most bytes
  pub sound : in_order (form.row_test (numbers_on form bytes)) (rows_on form bytes) 0 ≡ gives []
  pub held : length form.row * rows_on form bytes ≤ room

pub table_readable : (form : Form) (bytes : List ℕ) (room : ℕ) (values own : List ℕ) → table_outcome form bytes room values ≡ gives own → (own ≡ values) × Readable form bytes room
unfolding table_outcome
table_readable form bytes room values own h =
    let a = then_gives _ _ h in
    let b = then_gives _ _ a.2 in
    let d = when_gives 8 0 (ltb room (length form.row * rows_on form bytes)) refl b.2 in
    let e : gives values ≡ gives own = d.1 in
    (cc, record { whole = (wire_whole _ _ _ _ _ _ bytes a.0 a.1).1; sound = in_order_none _ _ _ b.1; held = ltb-false _ _ d.0 })

-- ---- counts in memory

-- the tests of a table in memory are those of its count, then the others
pub count_parts : (form : Form) (count numbers : ℕ) (next : Outcome)
    → (refuses (number_of form.none) 0 when eqb count 0 else
    refuses (number_of form.many) 0 when ltb form.most count else
    refuses 1 0 when ltb numbers (length form.row * count) else
    next)
    ≡ (count_tests form count numbers then next)
unfolding count_tests
count_parts form count numbers next = three_then _ _ _ _ _ _ _ _ _ _

-- rows whose count passes are lent
pub count_held : (form : Form) (count numbers : ℕ) → gives [] ≡ count_tests form count numbers → length form.row * count ≤ numbers
unfolding count_tests
count_held form count numbers h =
    let a = when_gives (number_of form.none) 0 (eqb count 0) refl (sym h) in
    let b = when_gives (number_of form.many) 0 (ltb form.most count) refl a.1 in
    ltb-false _ _ (when_gives 1 0 (ltb numbers (length form.row * count)) refl b.1).0
