-- Lists worked by hand (document 01), A to J, as one table over the definitions: from a list's bytes to its rates, rounds, entries and cost, or to its refusal
-- with the place. Sizes are in bytes, times in seconds, rates in bytes per second, costs in bytes per second, squared, times seconds. Assumes nothing.
use Prim.Native.Nat.{ℕ, ◌*◌}
use mathlib.Core.Path.{◌≡◌, refl}
use mathlib.Core.List.{List, [], ◌∷◌}
use lib.ListN.{length, replicate}
use Rattle.bits.specs.Field.{digit, bit, spelt, field_at, bytes_from, replaced, put_field}
use Rattle.bits.specs.Table.{total, rows, fields_at, put_fields, field_widths, table_widths, table_bytes, unused_at, write_table}
use Rattle.packets.specs.Limits.{air_bytes}
use Rattle.packets.specs.Outcome.{Outcome, gives, refuses, ◌when◌else◌, ◌then◌, in_order, ◌given◌else◌}
use Rattle.packets.specs.Wire.{table_tests}
use Rattle.packets.specs.Records.{size_of, arrival_of, deadline_of, record_test, record_at, record_tests, memory_tests}
use Rattle.packets.specs.List.{records_on, write_outcome, bytes_after}
use Rattle.fractions.specs.Fraction.{euclid, gcd, lowest_n, lowest_d}
use Rattle.policy.specs.Windows.{assign, choose, inside, left, only_if, sum, unassigned}
use Rattle.policy.specs.Points.{epochs_of, packets_of, points_of, with_point}
use Rattle.policy.specs.Rounds.{after, at_first, beats, best_from, best_of, better, day_of, give_rate, leads, len, load, outcome_of, pick, round, round_of, taken}
use Rattle.policy.specs.Carried.{carries, in_units, price_of, priced}
use Rattle.policy.specs.Answer.{epoch_count, epoch_rows, rates_of, shown_d, shown_n}
use Rattle.timetable.specs.Setting.{setting}
use Rattle.timetable.specs.Entries.{begun, candidate, earliest, eligible, entries_of, filled, less, next_in, sent, sheet_at, sooner, turn_of, turns, units_in, units_of}
use Rattle.timetable.specs.Costs.{common_d, cost_of, exact_cost_d, exact_cost_in, exact_cost_n, product, radio_cost}
use Rattle.plan.specs.Frame.{frame_bytes}
use Rattle.planner.specs.Whole.{plan_numbers, packets_outcome, plan_outcome}

-- ---- the table

-- a list: its packets (three numbers each) and its bytes; what planning it comes to; the start, N and D of each epoch; packet, start, R, D, from and to of
-- each entry
pub record Case : Type 0 where
  pub count : ℕ
  pub records : List ℕ
  pub bytes : List ℕ
  pub outcome : Outcome
  pub rates : List ℕ
  pub entries : List ℕ

-- three packets, three rates
abbrev pub A : Case
A =
    record {
      count = 3;
      records = 30 ∷ 0 ∷ 10 ∷ 40 ∷ 2 ∷ 6 ∷ 9 ∷ 8 ∷ 14 ∷ [];
      bytes =
          0x06 ∷ 0x00 ∷ 0x3c ∷ 0x00 ∷ 0x00 ∷ 0x00 ∷ 0x05 ∷ 0x00 ∷ 0x14 ∷ 0x00 ∷
          0x00 ∷ 0x80 ∷ 0x00 ∷ 0xc0 ∷ 0x01 ∷ 0x20 ∷ 0x00 ∷ 0x80 ∷ 0x00 ∷ 0x70 ∷ [];
      outcome = gives (3 ∷ 5 ∷ 577 ∷ []);
      rates = 0 ∷ 5 ∷ 1 ∷ 2 ∷ 10 ∷ 1 ∷ 6 ∷ 5 ∷ 1 ∷ 8 ∷ 5 ∷ 1 ∷ 10 ∷ 9 ∷ 4 ∷ [];
      entries =
          0 ∷ 0 ∷ 5 ∷ 1 ∷ 0 ∷ 10 ∷
          1 ∷ 2 ∷ 10 ∷ 1 ∷ 0 ∷ 40 ∷
          0 ∷ 6 ∷ 5 ∷ 1 ∷ 0 ∷ 10 ∷
          0 ∷ 8 ∷ 5 ∷ 1 ∷ 0 ∷ 10 ∷
          2 ∷ 10 ∷ 3 ∷ 4 ∷ 0 ∷ 36 ∷ [];
    }

-- one packet of one byte in one second
abbrev pub B : Case
B =
    record {
      count = 1;
      records = 1 ∷ 0 ∷ 1 ∷ [];
      bytes = 0x02 ∷ 0x00 ∷ 0x02 ∷ 0x00 ∷ 0x00 ∷ 0x00 ∷ 0x00 ∷ 0x80 ∷ [];
      outcome = gives (1 ∷ 1 ∷ 1 ∷ []);
      rates = 0 ∷ 1 ∷ 1 ∷ [];
      entries = 0 ∷ 0 ∷ 1 ∷ 1 ∷ 0 ∷ 1 ∷ [];
    }

-- two packets of one window: rate 2, the lower number first
abbrev pub C : Case
C =
    record {
      count = 2;
      records = 3 ∷ 0 ∷ 4 ∷ 5 ∷ 0 ∷ 4 ∷ [];
      bytes = 0x04 ∷ 0x00 ∷ 0x06 ∷ 0x00 ∷ 0x00 ∷ 0x00 ∷ 0x02 ∷ 0x00 ∷ 0x02 ∷ 0x80 ∷ 0x00 ∷ 0x00 ∷ 0x00 ∷ 0x80 ∷ [];
      outcome = gives (1 ∷ 2 ∷ 16 ∷ []);
      rates = 0 ∷ 2 ∷ 1 ∷ [];
      entries = 0 ∷ 0 ∷ 2 ∷ 1 ∷ 0 ∷ 3 ∷ 1 ∷ 0 ∷ 2 ∷ 1 ∷ 3 ∷ 8 ∷ [];
    }

-- rates 1/5 and 2
abbrev pub D : Case
D =
    record {
      count = 2;
      records = 1 ∷ 0 ∷ 10 ∷ 10 ∷ 5 ∷ 10 ∷ [];
      bytes = 0x04 ∷ 0x00 ∷ 0x02 ∷ 0x00 ∷ 0x00 ∷ 0x00 ∷ 0x05 ∷ 0x00 ∷ 0x05 ∷ 0x00 ∷ 0x01 ∷ 0x40 ∷ 0x01 ∷ 0x40 ∷ [];
      outcome = gives (2 ∷ 2 ∷ 21 ∷ []);
      rates = 0 ∷ 1 ∷ 5 ∷ 5 ∷ 2 ∷ 1 ∷ [];
      entries = 0 ∷ 0 ∷ 1 ∷ 5 ∷ 0 ∷ 5 ∷ 1 ∷ 5 ∷ 2 ∷ 1 ∷ 0 ∷ 10 ∷ [];
    }

-- two rounds of one rate, and seconds 2 to 5 silent
abbrev pub E : Case
E =
    record {
      count = 2;
      records = 10 ∷ 0 ∷ 2 ∷ 10 ∷ 5 ∷ 7 ∷ [];
      bytes = 0x04 ∷ 0x00 ∷ 0x14 ∷ 0x00 ∷ 0x00 ∷ 0x00 ∷ 0x01 ∷ 0x00 ∷ 0x05 ∷ 0x00 ∷ 0x01 ∷ 0x40 ∷ 0x00 ∷ 0xe0 ∷ [];
      outcome = gives (2 ∷ 2 ∷ 100 ∷ []);
      rates = 0 ∷ 5 ∷ 1 ∷ 2 ∷ 0 ∷ 1 ∷ 5 ∷ 5 ∷ 1 ∷ [];
      entries = 0 ∷ 0 ∷ 5 ∷ 1 ∷ 0 ∷ 10 ∷ 1 ∷ 5 ∷ 5 ∷ 1 ∷ 0 ∷ 10 ∷ [];
    }

-- the largest packet over the whole day: rate 4369/5760
abbrev pub F : Case
F =
    record {
      count = 1;
      records = 65535 ∷ 0 ∷ 86400 ∷ [];
      bytes = 0x03 ∷ 0xff ∷ 0xfe ∷ 0x00 ∷ 0x00 ∷ 0xa8 ∷ 0xc0 ∷ 0x00 ∷ [];
      outcome = gives (1 ∷ 1 ∷ 65535 ∷ []);
      rates = 0 ∷ 4369 ∷ 5760 ∷ [];
      entries = 0 ∷ 0 ∷ 1 ∷ 5760 ∷ 0 ∷ 377481600 ∷ [];
    }

-- what a planned list comes to: its bytes when it is written, the answer, the rates and the entries
abbrev pub Planned : Case → Type 0
Planned x =
    (bytes_after x.count x.records (replicate (length x.bytes) 0xff) ≡ x.bytes)
    × (plan_outcome x.bytes 3357 ≡ x.outcome)
    × (rates_of x.count x.records ≡ x.rates)
    × (plan_numbers (entries_of x.count x.records) ≡ x.entries)

-- the refused lists: G has size 0, H arrives at its deadline, I is due past the last second, and J is the single byte 00
abbrev pub refused : List Outcome
refused =
    plan_outcome (0x02 ∷ 0x00 ∷ 0x00 ∷ 0x00 ∷ 0x00 ∷ 0x00 ∷ 0x00 ∷ 0x80 ∷ []) 3357 ∷
    plan_outcome (0x02 ∷ 0x00 ∷ 0x02 ∷ 0x00 ∷ 0x05 ∷ 0x00 ∷ 0x02 ∷ 0x80 ∷ []) 3357 ∷
    plan_outcome (0x02 ∷ 0x00 ∷ 0x02 ∷ 0x00 ∷ 0x00 ∷ 0xa8 ∷ 0xc0 ∷ 0x80 ∷ []) 3357 ∷
    plan_outcome (0x00 ∷ []) 3357 ∷ []

-- the least cost of A is 2281/4
abbrev pub LeastA : Type 0
LeastA =
    exact_cost_n (day_of 3 A.records) (outcome_of 3 A.records) * 4
    ≡ 2281 * exact_cost_d (day_of 3 A.records) (outcome_of 3 A.records)

pub cases : Planned A × Planned B × Planned C × Planned D × Planned E × Planned F
    × (refused ≡ refuses 4 0 ∷ refuses 6 0 ∷ refuses 5 0 ∷ refuses 2 0 ∷ [])
    × LeastA
unfolding digit bit spelt field_at bytes_from replaced put_field total rows fields_at put_fields field_widths table_widths table_bytes unused_at write_table air_bytes ◌when◌else◌ ◌then◌ in_order ◌given◌else◌ size_of arrival_of deadline_of record_test record_at record_tests memory_tests table_tests records_on write_outcome bytes_after euclid gcd lowest_n lowest_d assign choose inside left only_if sum unassigned epochs_of packets_of points_of with_point after at_first beats best_from best_of better day_of give_rate leads len load outcome_of pick round round_of taken carries in_units price_of priced epoch_count epoch_rows rates_of shown_d shown_n setting begun candidate earliest eligible entries_of filled less next_in sent sheet_at sooner turn_of turns units_in units_of common_d cost_of exact_cost_d exact_cost_in exact_cost_n product radio_cost frame_bytes plan_numbers packets_outcome plan_outcome
cases = (
  (refl, refl, refl, refl),
  (refl, refl, refl, refl),
  (refl, refl, refl, refl),
  (refl, refl, refl, refl),
  (refl, refl, refl, refl),
  (refl, refl, refl, refl),
  refl,
  refl,
)
