-- Laws of the tests of entries: what passing them means, and how far they look. Assumes nothing.
use Prim.Native.Nat.{ℕ, ◌+◌, ◌*◌, ◌<◌, ◌≤◌, ◌^◌}
use mathlib.Core.Path.{◌≡◌, refl}
use mathlib.Core.List.{List, [], ◌++◌}
use native.Mathlib.Omega.{arith}
use native.Mathlib.Nat.{add-zero}
use lib.ListN.{length, get_or, take}
use lib.Seq.{sets}
use lib.Dec.{eqb, ltb, leb}
use borrow.Author.Tests.{eqb-false, ltb-false, leb-false, ne_eqb, le-ltb, lt-leb}
use Rattle.packets.specs.Limits.{last_second}
use Rattle.packets.specs.Outcome.{gives, ◌when◌else◌}
use Rattle.packets.proofs.Outcomes.{when_gives, in_order_pass, in_order_each, in_order_none}
use Rattle.packets.proofs.Wire.{rows_past, rows_stored, rows_first}
use Rattle.plan.specs.Forms.{entry_own}
use Rattle.plan.specs.Entries.{entry_numbers, field_of, entry_test, entry_at, entry_tests, Sound}

-- ---- one entry

-- an entry that is not refused is sound
pub entry_sound : (i packet start r d from to : ℕ) (values : List ℕ) → entry_test i packet start r d from to ≡ gives values → Sound packet start r d from to
unfolding entry_test
entry_sound i packet start r d from to values h =
    let a = when_gives 10 i (leb (2 ^ 6) packet) refl h in
    let b = when_gives 10 i (leb last_second start) refl a.1 in
    let e = when_gives 10 i (eqb r 0) refl b.1 in
    let f = when_gives 10 i (leb (2 ^ 22) r) refl e.1 in
    let g = when_gives 10 i (eqb d 0) refl f.1 in
    let k = when_gives 10 i (ltb last_second d) refl g.1 in
    let l = when_gives 10 i (leb to from) refl k.1 in
    let m = when_gives 10 i (leb (2 ^ 39) to) refl l.1 in
    let r_not : r ≡ 0 → ⊥ = eqb-false _ _ e.0 in
    let d_not : d ≡ 0 → ⊥ = eqb-false _ _ g.0 in
    record {
      packet_fits = leb-false _ _ a.0;
      start_fits = leb-false _ _ b.0;
      r_some = omega arith;
      r_fits = leb-false _ _ f.0;
      d_some = omega arith;
      d_fits = ltb-false _ _ k.0;
      rising = leb-false _ _ l.0;
      to_fits = leb-false _ _ m.0;
    }

-- a sound entry gives no refusal
pub sound_entry : (i packet start r d from to : ℕ) → Sound packet start r d from to → entry_test i packet start r d from to ≡ gives []
unfolding entry_test ◌when◌else◌
sound_entry i packet start r d from to s =
    let y : r ≡ 0 → ⊥ = λ (e : r ≡ 0). omega arith in
    let z : d ≡ 0 → ⊥ = λ (e : d ≡ 0). omega arith in
    simp (
      lt-leb _ _ s.packet_fits,
      lt-leb _ _ s.start_fits,
      ne_eqb _ _ y,
      lt-leb _ _ s.r_fits,
      ne_eqb _ _ z,
      le-ltb _ _ s.d_fits,
      lt-leb _ _ s.rising,
      lt-leb _ _ s.to_fits,
    )

-- ---- all entries

-- entry i of the list is sound
abbrev pub SoundAt : List ℕ → ℕ → Type 0
SoundAt entries i =
    Sound (field_of entries i 0) (field_of entries i 1) (field_of entries i 2) (field_of entries i 3) (field_of entries i 4) (field_of entries i 5)

pub entries_sound : (n i : ℕ) (entries values : List ℕ) → entry_tests n i entries ≡ gives values → (k : ℕ) → i ≤ k → k < i + n → SoundAt entries k
unfolding entry_tests entry_at
entries_sound n i entries values h k lo hi =
    let each = in_order_each (entry_at entries) n i values h k lo hi in
    entry_sound k _ _ _ _ _ _ each.0 each.1

pub sound_entries : (n i : ℕ) (entries : List ℕ) → ((k : ℕ) → i ≤ k → k < i + n → SoundAt entries k) → entry_tests n i entries ≡ gives []
unfolding entry_tests entry_at
sound_entries n i entries sound = in_order_pass (entry_at entries) n i (λ k lo hi. sound_entry k _ _ _ _ _ _ (sound k lo hi))

pub tests_pass : (n i : ℕ) (entries values : List ℕ) → entry_tests n i entries ≡ gives values → entry_tests n i entries ≡ gives []
unfolding entry_tests
tests_pass n i entries values h = in_order_none (entry_at entries) n i h

-- ---- what the tests look at

-- entries past the count have no influence
pub tests_past : (count : ℕ) (entries extra : List ℕ) → entry_numbers * count ≤ length entries → entry_tests count 0 (entries ++ extra) ≡ entry_tests count 0 entries
unfolding entry_tests
tests_past = rows_past entry_numbers entry_at entry_own

-- the same of entries that were stored at the front of a longer buffer, and of the entries up to the count
pub tests_stored : (count : ℕ) (buffer entries : List ℕ) → entry_numbers * count ≤ length entries → length entries ≤ length buffer
    → entry_tests count 0 (sets buffer 0 entries) ≡ entry_tests count 0 entries
unfolding entry_tests
tests_stored = rows_stored entry_numbers entry_at entry_own

pub tests_first : (count : ℕ) (entries : List ℕ) → entry_numbers * count ≤ length entries
    → entry_tests count 0 (take (entry_numbers * count) entries) ≡ entry_tests count 0 entries
unfolding entry_tests
tests_first = rows_first entry_numbers entry_at entry_own

-- the tests of entry i, which stands at number `at`
pub test_at : (entries : List ℕ) (i at : ℕ) → at ≡ entry_numbers * i
    → entry_test i (get_or entries at 0) (get_or entries (at + 1) 0) (get_or entries (at + 2) 0) (get_or entries (at + 3) 0) (get_or entries (at + 4) 0) (get_or entries (at + 5) 0)
    ≡ entry_at entries i
unfolding entry_at
test_at entries i at place = rw (place, add-zero)
