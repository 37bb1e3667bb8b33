-- The form of a list as a table on the wire, and what it keeps. Widths are in bits. Assumes nothing.
use Rattle.std.specs.Prelude.{ℕ, ◌+◌, ◌*◌, ◌<◌, ◌≡◌, List, [], get_or, zero, suc, refl}
use Rattle.std.proofs.Common.{arith, add-zero}
use Rattle.bits.specs.Table.{AtMost, total}
use Rattle.packets.specs.Limits.{most_packets}
use Rattle.packets.specs.declared.refusal.Refusal.TheVariants.{NoPackets, TooManyPackets}
use Rattle.packets.specs.Records.{record_numbers, record_at, size_of, arrival_of, deadline_of}
use Rattle.packets.specs.List.{count_width, record_widths}
use Rattle.packets.specs.Wire.{Form, FormLaws}

-- a list is a count and a record for each packet
abbrev pub list_form : Form
list_form =
    record {
      count_width = count_width;
      head_rest = [];
      row = record_widths;
      most = most_packets;
      none = NoPackets;
      many = TooManyPackets;
      row_test = record_at;
    }

-- no field of a record is wider than 64 bits
pub record_narrow : AtMost 64 record_widths
record_narrow zero = omega arith
record_narrow (suc zero) = omega arith
record_narrow (suc (suc zero)) = omega arith
record_narrow (suc (suc (suc i))) = omega arith

-- the test of a record looks at its own numbers
pub record_own : (a b : List ℕ) (i : ℕ) → ((j : ℕ) → j < record_numbers → get_or a (record_numbers * i + j) 0 ≡ get_or b (record_numbers * i + j) 0) → record_at a i ≡ record_at b i
unfolding record_at size_of arrival_of deadline_of
record_own a b i same = rw (rw add-zero at (same 0 (omega arith)), same 1 (omega arith), same 2 (omega arith))

pub list_laws : FormLaws list_form
unfolding total
list_laws =
    record {
      count_fits = omega arith;
      most_fits = omega arith;
      narrow = record_narrow;
      bits_fit = omega arith;
      numbers_fit = omega arith;
      none_placeless = refl;
      many_placeless = refl;
      own = record_own;
    }
