-- The form of a plan as a table on the wire, and what it keeps. Widths are in bits. Assumes nothing.
use Rattle.std.specs.Prelude.{ℕ, ◌<◌, ◌≡◌, List, [], ◌∷◌, zero, suc, refl}
use Rattle.std.proofs.Common.{arith}
use Rattle.bits.specs.Table.{AtMost, total}
use Rattle.packets.specs.declared.refusal.Refusal.TheVariants.{EntryCount}
use Rattle.packets.specs.Wire.{Form, FormLaws}
use Rattle.plan.specs.Entries.{most_entries, entry_numbers, entry_widths, field_of, entry_at}
use Rattle.plan.specs.Frame.{count_width, cost_width}

-- a plan is an entry count and a cost, and a row for each entry
abbrev pub plan_form : Form
plan_form =
    record {
      count_width = count_width;
      head_rest = cost_width ∷ [];
      row = entry_widths;
      most = most_entries;
      none = EntryCount;
      many = EntryCount;
      row_test = entry_at;
    }

-- no field of an entry is wider than 64 bits
pub entry_narrow : AtMost 64 entry_widths
entry_narrow zero = omega arith
entry_narrow (suc zero) = omega arith
entry_narrow (suc (suc zero)) = omega arith
entry_narrow (suc (suc (suc zero))) = omega arith
entry_narrow (suc (suc (suc (suc zero)))) = omega arith
entry_narrow (suc (suc (suc (suc (suc zero))))) = omega arith
entry_narrow (suc (suc (suc (suc (suc (suc i)))))) = omega arith

-- the test of an entry looks at its own numbers
pub entry_own : (a b : List ℕ) (i : ℕ) → ((j : ℕ) → j < entry_numbers → field_of a i j ≡ field_of b i j) → entry_at a i ≡ entry_at b i
unfolding entry_at
entry_own a b i same =
    rw (same 0 (omega arith), same 1 (omega arith), same 2 (omega arith), same 3 (omega arith), same 4 (omega arith), same 5 (omega arith))

pub plan_laws : FormLaws plan_form
unfolding total
plan_laws =
    record {
      count_fits = omega arith;
      most_fits = omega arith;
      narrow = entry_narrow;
      bits_fit = omega arith;
      numbers_fit = omega arith;
      none_placeless = refl;
      many_placeless = refl;
      own = entry_own;
    }
