-- The numbers of entries written one after another to the front of what was lent. Assumes nothing.
use Prim.Native.Nat.{ℕ, ◌+◌, ◌-◌, ◌*◌, ◌<◌, ◌≤◌}
use mathlib.Core.Path.{◌≡◌, refl, sym, ap, ap₂, ◌∙◌}
use mathlib.Core.List.{List, [], ◌∷◌, ◌++◌, map, map-append, append_assoc, append-nil}
use native.Mathlib.Omega.{arith}
use native.Mathlib.Numerals.{add-one}
use borrow.Rule.Slice.PartMut.{put_mid}
use lib.ListN.{length, get_or, take, drop, length-map, length-append}
use lib.Seq.{take-suc, take_at, drop_at, length-take-le}
use Rattle.std.proofs.lemmas.List.{drop-drop}
use Rattle.policy.specs.Answer.{overwritten}
use Rattle.timetable.specs.declared.entry.Entry as Made
use Rattle.timetable.specs.Entries.{Entry, numbers_of}
use Rattle.timetable.specs.Steps.{entry_of, first_numbers, row_of}

-- ---- how many numbers, and those of one entry more

numbers_more : (n : ℕ) (entries : List Entry) (e : Made.Entry) → first_numbers n (entries ++ (entry_of e ∷ [])) ≡ first_numbers n entries ++ take n (row_of e)
unfolding first_numbers entry_of
numbers_more n [] e = append-nil (take n (row_of e))
numbers_more n (f ∷ entries) e =
    ap (λ (l : List ℕ). take n (f.packet ∷ f.start ∷ f.R ∷ f.D ∷ f.from ∷ f.to ∷ f.N ∷ []) ++ l) (numbers_more n entries e)
    ∙ sym (append_assoc (take n (f.packet ∷ f.start ∷ f.R ∷ f.D ∷ f.from ∷ f.to ∷ f.N ∷ [])) (first_numbers n entries) (take n (row_of e)))

pub numbers_long : (n : ℕ) (entries : List Entry) → n ≤ 7 → length (first_numbers n entries) ≡ n * length entries
unfolding first_numbers
numbers_long n [] few = omega arith
numbers_long n (e ∷ entries) few =
    length-append (take n (e.packet ∷ e.start ∷ e.R ∷ e.D ∷ e.from ∷ e.to ∷ e.N ∷ [])) (first_numbers n entries)
    ∙ ap₂ ◌+◌ (length-take-le n (e.packet ∷ e.start ∷ e.R ∷ e.D ∷ e.from ∷ e.to ∷ e.N ∷ []) few) (numbers_long n entries few) ∙ omega arith

-- the seven numbers of each entry are all of them
pub numbers_all : (entries : List Entry) → first_numbers 7 entries ≡ numbers_of entries
unfolding first_numbers numbers_of
numbers_all [] = refl
numbers_all (e ∷ entries) = ap (λ (l : List ℕ). e.packet ∷ e.start ∷ e.R ∷ e.D ∷ e.from ∷ e.to ∷ e.N ∷ l) (numbers_all entries)

-- ---- written one after another

module _ (n : ℕ) (few : n ≤ 7) (made : List Made.Entry) (lent₀ : List ℕ) where
  numbers : ℕ → List ℕ
  numbers i = first_numbers n (map entry_of (take i made))

  pub written_first : lent₀ ≡ overwritten (first_numbers n (map entry_of [])) lent₀
  unfolding overwritten first_numbers
  written_first = refl

  next_numbers : (i : ℕ) (d : Made.Entry) → i < length made → numbers (i + 1) ≡ numbers i ++ take n (row_of (get_or made i d))
  unfolding numbers
  next_numbers i d h =
      ap (λ (l : List Made.Entry). first_numbers n (map entry_of l)) (ap (λ (k : ℕ). take k made) (add-one i) ∙ take-suc made i d h) ∙
      ap (first_numbers n) (map-append entry_of (take i made) (get_or made i d ∷ [])) ∙
      numbers_more n (map entry_of (take i made)) (get_or made i d)

  long : (i : ℕ) → i ≤ length made → length (numbers i) ≡ n * i
  unfolding numbers
  long i h = numbers_long n (map entry_of (take i made)) few ∙ ap (λ (k : ℕ). n * k) (length-map (take i made) entry_of ∙ length-take-le i made h)

  pub written_next : (i : ℕ) (d : Made.Entry) (lent row : List ℕ) → i < length made → lent ≡ overwritten (first_numbers n (map entry_of (take i made))) lent₀
      → row ≡ take n (row_of (get_or made i d)) → put_mid (n * i) (n * i + n - n * i) lent row ≡ overwritten (first_numbers n (map entry_of (take (i + 1) made))) lent₀
  unfolding overwritten numbers
  written_next i d lent row h so_far r =
      ap₂ (λ (l m : List ℕ). l ++ (row ++ m)) front rest ∙ sym (append_assoc (numbers i) row (drop (n * (i + 1)) lent₀)) ∙ ap (λ (l : List ℕ). (numbers i ++ l) ++ drop (n * (i + 1)) lent₀) r ∙
      ap (λ (l : List ℕ). l ++ drop (n * (i + 1)) lent₀) (sym (next_numbers i d h)) ∙
      ap (λ (m : ℕ). numbers (i + 1) ++ drop m lent₀) (sym (long (i + 1) (omega arith)))
    where
      here : length (numbers i) ≡ n * i
      here = long i (omega arith)

      before : lent ≡ numbers i ++ drop (n * i) lent₀
      before = so_far ∙ ap (λ (m : ℕ). numbers i ++ drop m lent₀) here

      front : take (n * i) lent ≡ numbers i
      front = ap (take (n * i)) before ∙ take_at (numbers i) (drop (n * i) lent₀) (n * i) here

      rest : drop (n * i + n - n * i) (drop (n * i) lent) ≡ drop (n * (i + 1)) lent₀
      rest =
          ap (λ (l : List ℕ). drop (n * i + n - n * i) (drop (n * i) l)) before ∙
          ap (drop (n * i + n - n * i)) (drop_at (numbers i) (drop (n * i) lent₀) (n * i) here) ∙ drop-drop (n * i + n - n * i) (n * i) lent₀ ∙
          ap (λ (m : ℕ). drop m lent₀) (omega arith)
