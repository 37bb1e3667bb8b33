-- A table on the wire (document 01, "Bits on the wire" and "Refusal numbers and their order"): a list and a plan are tables whose head begins with the
-- count of their rows. Here is what reading either tests of the bytes alone, for any widths of head and row. Widths are in bits. Assumes nothing.
use Rattle.std.specs.Prelude.{ℕ, ◌+◌, ◌*◌, ◌^◌, ◌<◌, ◌≤◌, ◌≡◌, List, [], ◌∷◌, length, get_or, eqb, ltb}
use Rattle.bits.specs.Field.{field_at}
use Rattle.bits.specs.Table.{AtMost, total, rows, fields_at, table_bytes, unused_at}
use Rattle.packets.specs.Outcome.{Outcome, gives, refuses, ◌when◌else◌, ◌then◌, in_order, number_of, place_of}
use Rattle.packets.specs.declared.refusal.Refusal.{Refusal}

-- the count at the front of the bytes: the first field of the head (rows)
abbrev pub count_at : List ℕ → List ℕ → ℕ
count_at bytes head = field_at bytes 0 (get_or head 0 0)

-- the tests of the bytes alone, for a table of at most `most` rows: no bytes (1), no rows (`none`), too many rows (`many`), fewer bytes than the table takes
-- (1), a nonzero unused bit (7)
unfoldable pub table_tests : List ℕ → List ℕ → ℕ → ℕ → ℕ → List ℕ → Outcome
table_tests head row most none many bytes =
    refuses 1 0 when eqb (length bytes) 0 else
    refuses none 0 when eqb (count_at bytes head) 0 else
    refuses many 0 when ltb most (count_at bytes head) else
    refuses 1 0 when ltb (length bytes) (table_bytes head row (count_at bytes head)) else
    refuses 7 0 when ltb 0 (unused_at bytes head row (count_at bytes head)) else
    gives []

-- ---- forms

-- what tells one table from another: the width of its count and of the rest of its head, the widths of a row, the most rows, the refusals of no rows and of
-- too many, and the test of a row by the numbers of all rows and the row's place
pub record Form : Type 0 where
  pub count_width : ℕ
  pub head_rest : List ℕ
  pub row : List ℕ
  pub most : ℕ
  pub none : Refusal
  pub many : Refusal
  pub row_test : List ℕ → ℕ → Outcome

-- the widths of the head
abbrev pub head_of : Form → List ℕ
head_of form = form.count_width ∷ form.head_rest

-- the tests of the bytes alone
abbrev pub form_tests : Form → List ℕ → Outcome
form_tests form bytes = table_tests (head_of form) form.row form.most (number_of form.none) (number_of form.many) bytes

-- the count of rows on the wire, and the numbers of the rows behind the head
abbrev pub rows_on : Form → List ℕ → ℕ
rows_on form bytes = count_at bytes (head_of form)

abbrev pub numbers_on : Form → List ℕ → List ℕ
numbers_on form bytes = fields_at bytes (total (head_of form)) (rows (rows_on form bytes) form.row)

-- reading a table into lent room for so many numbers: the bytes, the rows in order, then the room (8); a table that is read gives these values
unfoldable pub table_outcome : Form → List ℕ → ℕ → List ℕ → Outcome
table_outcome form bytes room values =
    form_tests form bytes then
    in_order (form.row_test (numbers_on form bytes)) (rows_on form bytes) 0 then
    refuses 8 0 when ltb room (length form.row * rows_on form bytes) else
    gives values

-- the tests of a count of rows in memory: no rows, too many rows, fewer numbers lent than the count calls for (1)
unfoldable pub count_tests : Form → ℕ → ℕ → Outcome
count_tests form count numbers =
    refuses (number_of form.none) 0 when eqb count 0 else
    refuses (number_of form.many) 0 when ltb form.most count else
    refuses 1 0 when ltb numbers (length form.row * count) else
    gives []

-- what each form keeps: its count and its most rows fit a byte, a row's fields are not wider than 64 bits, bits and numbers are few enough to count, its two
-- refusals have no place, and the test of a row looks at no row but its own
pub record FormLaws (form : Form) : Type 0 where
  pub count_fits : form.count_width ≤ 8
  pub most_fits : form.most < 256
  pub narrow : AtMost 64 form.row
  pub bits_fit : total (head_of form) + total form.row * 256 < 2 ^ 32
  pub numbers_fit : length form.row * form.most < 2 ^ 32
  pub none_placeless : place_of form.none ≡ 0
  pub many_placeless : place_of form.many ≡ 0
  pub own : (a b : List ℕ) (i : ℕ) → ((j : ℕ) → j < length form.row → get_or a (length form.row * i + j) 0 ≡ get_or b (length form.row * i + j) 0)
      → form.row_test a i ≡ form.row_test b i
