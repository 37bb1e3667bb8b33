-- Laws of the tests of packets in memory: what passing every test means, and how far the tests look. Assumes nothing.
use Prim.Native.Nat.{ℕ, ◌+◌, ◌*◌, ◌<◌, ◌≤◌}
use mathlib.Core.Path.{◌≡◌, refl}
use mathlib.Core.List.{List, [], ◌++◌}
use native.Mathlib.Omega.{arith}
use lib.ListN.{length, get_or, take}
use lib.Seq.{sets}
use lib.Dec.{eqb, ltb, leb}
use borrow.Author.Tests.{eqb-false, ltb-false, leb-false, ne_eqb, le-ltb, lt-leb}
use Rattle.packets.specs.Limits.{most_packets, largest_size, last_second}
use Rattle.packets.specs.Outcome.{gives, ◌when◌else◌}
use Rattle.packets.specs.Records.{size_of, arrival_of, deadline_of, record_test, record_at, record_tests, memory_tests, record_numbers, Sound, Accepted}
use Rattle.packets.specs.Forms.{record_own}
use Rattle.packets.proofs.Outcomes.{when_gives, in_order_pass, in_order_each, in_order_none}
use Rattle.packets.proofs.Wire.{rows_same, rows_past, rows_stored, rows_first}

-- ---- one record

-- a record that is not refused is sound
pub record_sound : (i size arrival deadline : ℕ) (values : List ℕ) → record_test i size arrival deadline ≡ gives values → Sound size arrival deadline
unfolding record_test
record_sound i size arrival deadline values h =
    let a = when_gives 4 i (eqb size 0) refl h in
    let b = when_gives 4 i (ltb largest_size size) refl a.1 in
    let d = when_gives 5 i (ltb last_second deadline) refl b.1 in
    let f = when_gives 6 i (leb deadline arrival) refl d.1 in
    let z : size ≡ 0 → ⊥ = eqb-false _ _ a.0 in
    record { some = omega arith; small = ltb-false _ _ b.0; early = leb-false _ _ f.0; today = ltb-false _ _ d.0 }

-- a sound record gives no refusal
pub sound_record : (i size arrival deadline : ℕ) → Sound size arrival deadline → record_test i size arrival deadline ≡ gives []
unfolding record_test ◌when◌else◌
sound_record i size arrival deadline s =
    let z : size ≡ 0 → ⊥ = λ (e : size ≡ 0). omega arith in
    simp (ne_eqb _ _ z, le-ltb _ _ s.small, le-ltb _ _ s.today, lt-leb _ _ s.early)

-- ---- all records

-- where the tests of n records from record i on give values, each of these records is sound
pub records_sound : (n i : ℕ) (records values : List ℕ) → record_tests n i records ≡ gives values
    → (k : ℕ) → i ≤ k → k < i + n → Sound (size_of records k) (arrival_of records k) (deadline_of records k)
unfolding record_tests record_at
records_sound n i records values h k lo hi =
    let each = in_order_each (record_at records) n i values h k lo hi in
    record_sound k (size_of records k) (arrival_of records k) (deadline_of records k) each.0 each.1

-- where each of them is sound, their tests pass
pub sound_records : (n i : ℕ) (records : List ℕ)
    → ((k : ℕ) → i ≤ k → k < i + n → Sound (size_of records k) (arrival_of records k) (deadline_of records k))
    → record_tests n i records ≡ gives []
unfolding record_tests record_at
sound_records n i records sound = in_order_pass (record_at records) n i (λ k lo hi. sound_record k _ _ _ (sound k lo hi))

pub tests_pass : (n i : ℕ) (records values : List ℕ) → record_tests n i records ≡ gives values → record_tests n i records ≡ gives []
unfolding record_tests
tests_pass n i records values h = in_order_none (record_at records) n i h

-- packets pass every test exactly where they are accepted
pub memory_accepted : (count : ℕ) (records : List ℕ) → memory_tests count records ≡ gives [] → Accepted count records
unfolding memory_tests
memory_accepted count records h =
    let a = when_gives 2 0 (eqb count 0) refl h in
    let b = when_gives 3 0 (ltb most_packets count) refl a.1 in
    let d = when_gives 1 0 (ltb (length records) (record_numbers * count)) refl b.1 in
    let z : count ≡ 0 → ⊥ = eqb-false _ _ a.0 in
    record {
      some = omega arith;
      few = ltb-false _ _ b.0;
      held = ltb-false _ _ d.0;
      sound = λ i within. records_sound count 0 records [] d.1 i (omega arith) (omega arith);
    }

pub accepted_memory : (count : ℕ) (records : List ℕ) → Accepted count records → memory_tests count records ≡ gives []
unfolding memory_tests ◌when◌else◌
accepted_memory count records a =
    let z : count ≡ 0 → ⊥ = λ (e : count ≡ 0). omega (arith, a.some) in
    simp (ne_eqb _ _ z, le-ltb _ _ a.few, le-ltb _ _ a.held)
    (sound_records count 0 records (λ k low high. a.sound k (omega arith)))

-- ---- what the tests look at

-- records that agree as far as the tests look come to the same
pub tests_same : (n i : ℕ) (a b : List ℕ) → ((k : ℕ) → k < record_numbers * (i + n) → get_or a k 0 ≡ get_or b k 0) → record_tests n i a ≡ record_tests n i b
unfolding record_tests
tests_same = rows_same record_numbers record_at record_own

-- records past the count have no influence
pub tests_past : (count : ℕ) (records extra : List ℕ) → record_numbers * count ≤ length records
    → record_tests count 0 (records ++ extra) ≡ record_tests count 0 records
unfolding record_tests
tests_past = rows_past record_numbers record_at record_own

-- the same of records that were stored at the front of a longer buffer, and of the records up to the count
pub tests_stored : (count : ℕ) (buffer records : List ℕ) → record_numbers * count ≤ length records → length records ≤ length buffer
    → record_tests count 0 (sets buffer 0 records) ≡ record_tests count 0 records
unfolding record_tests
tests_stored = rows_stored record_numbers record_at record_own

pub tests_first : (count : ℕ) (records : List ℕ) → record_numbers * count ≤ length records
    → record_tests count 0 (take (record_numbers * count) records) ≡ record_tests count 0 records
unfolding record_tests
tests_first = rows_first record_numbers record_at record_own
