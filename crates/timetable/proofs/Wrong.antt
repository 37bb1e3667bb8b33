-- Answers of wrong programs that the promise does not admit, each refuted on one small list. Assumes nothing.
use Prim.Native.Nat.{ℕ}
use mathlib.Core.Path.{◌≡◌, sym, ap, ◌∙◌}
use lib.ListN.{get_or}
use native.Mathlib.Omega.{arith}
use mathlib.Core.List.{List, [], ◌∷◌}
use Rattle.std.specs.Prelude.{Result, Ok, Err}
use Rattle.packets.specs.Limits.{air_bytes}
use Rattle.packets.specs.Outcome.{◌given◌else◌, ◌then◌, ◌when◌else◌, in_order}
use Rattle.packets.specs.Records.{arrival_of, deadline_of, memory_tests, record_at, record_test, record_tests, size_of}
use Rattle.packets.specs.declared.refusal.Refusal.{Refusal}
use Rattle.packets.proofs.Answers.{refusal_gives}
use Rattle.fractions.specs.Fraction.{euclid, gcd, lowest_n, lowest_d}
use Rattle.policy.specs.Windows.{assign, choose, inside, left, only_if, sum, unassigned}
use Rattle.policy.specs.Points.{epochs_of, packets_of, points_of, with_point}
use Rattle.policy.specs.Rounds.{after, at_first, beats, best_from, best_of, better, day_of, give_rate, leads, len, load, outcome_of, pick, round, round_of, taken}
use Rattle.policy.specs.Carried.{carries, price_of, priced}
use Rattle.policy.specs.Answer.{epoch_count, overwritten, shown_d}
use Rattle.timetable.specs.Setting.{setting}
use Rattle.timetable.specs.Entries.{begun, candidate, earliest, eligible, entries_of, filled, less, next_in, numbers_of, sent, sheet_at, sooner, turn_of, turns, units_in, units_of}
use Rattle.timetable.specs.Costs.{cost_of, radio_cost}
use Rattle.timetable.specs.declared.Timetable.{Timetable}
use Rattle.timetable.specs.Answer.{Timetabled, entries_after, timetables_outcome}

-- room for three entries
abbrev room : List ℕ
room = 0 ∷ 0 ∷ 0 ∷ 0 ∷ 0 ∷ 0 ∷ 0 ∷ 0 ∷ 0 ∷ 0 ∷ 0 ∷ 0 ∷ 0 ∷ 0 ∷ 0 ∷ 0 ∷ 0 ∷ 0 ∷ 0 ∷ 0 ∷ 0 ∷ []

-- 2 bytes from 0 to 3 seconds, and 1 byte from 1 to 2 seconds: three epochs of rate 1, and the second packet has to overtake
abbrev overtaking : List ℕ
overtaking = 2 ∷ 0 ∷ 3 ∷ 1 ∷ 1 ∷ 2 ∷ []

-- neighbouring epochs of one rate merged: the second packet would be late
not_merged : (answer : Result Timetable Refusal)
    → Timetabled 2 overtaking room answer (0 ∷ 0 ∷ 1 ∷ 1 ∷ 0 ∷ 2 ∷ 1 ∷ 1 ∷ 0 ∷ 1 ∷ 1 ∷ 2 ∷ 3 ∷ 1 ∷ 0 ∷ 0 ∷ 0 ∷ 0 ∷ 0 ∷ 0 ∷ 0 ∷ []) → ⊥
unfolding air_bytes size_of arrival_of deadline_of euclid gcd lowest_n lowest_d assign choose inside left only_if sum unassigned epochs_of packets_of points_of with_point after at_first beats best_from best_of better day_of give_rate leads len load outcome_of pick round round_of taken carries price_of priced epoch_count shown_d setting begun candidate earliest eligible entries_of filled less next_in numbers_of sent sheet_at sooner turn_of turns units_in units_of cost_of radio_cost ◌when◌else◌ ◌then◌ ◌given◌else◌ in_order memory_tests record_at record_test record_tests timetables_outcome entries_after overwritten
not_merged answer p = let z : ◌≡◌ {A = ℕ} 2 1 = ap (λ (l : List ℕ). get_or l 5 0) p.exit_is in omega arith

-- 9 bytes from 0 to 4 seconds, at 9/4 and so at setting 3 (bytes per second)
abbrev uneven : List ℕ
uneven = 9 ∷ 0 ∷ 4 ∷ []

-- any cost but the setting's 27, as the exact rate's 81/4 rounded to 20 or to 21
not_exact_cost : (cost : ℕ) (exit : List ℕ) → (cost ≡ 27 → ⊥) → Timetabled 1 uneven room (Ok (record { rounds = 1; entries = 1; cost = cost })) exit → ⊥
unfolding air_bytes size_of arrival_of deadline_of euclid gcd lowest_n lowest_d assign choose inside left only_if sum unassigned epochs_of packets_of points_of with_point after at_first beats best_from best_of better day_of give_rate leads len load outcome_of pick round round_of taken carries price_of priced epoch_count shown_d setting begun candidate earliest eligible entries_of filled less next_in numbers_of sent sheet_at sooner turn_of turns units_in units_of cost_of radio_cost ◌when◌else◌ ◌then◌ ◌given◌else◌ in_order memory_tests record_at record_test record_tests timetables_outcome
not_exact_cost cost exit other p = let e = p.answer_is in other cc

-- R rounded down: 9/4 is not sent at setting 2 (bytes per second)
not_rounded_down : (answer : Result Timetable Refusal) (exit : List ℕ) → Timetabled 1 uneven room answer exit → get_or exit 2 0 ≡ 2 → ⊥
unfolding air_bytes size_of arrival_of deadline_of euclid gcd lowest_n lowest_d assign choose inside left only_if sum unassigned epochs_of packets_of points_of with_point after at_first beats best_from best_of better day_of give_rate leads len load outcome_of pick round round_of taken carries price_of priced epoch_count shown_d setting begun candidate earliest eligible entries_of filled less next_in numbers_of sent sheet_at sooner turn_of turns units_in units_of cost_of radio_cost ◌when◌else◌ ◌then◌ ◌given◌else◌ in_order memory_tests record_at record_test record_tests timetables_outcome entries_after overwritten
not_rounded_down answer exit p down =
    let z : ◌≡◌ {A = ℕ} 2 3 = sym down ∙ ap (λ (l : List ℕ). get_or l 2 0) p.exit_is in
    omega arith

-- a packet sent before it has arrived: the second packet is due first, and the first entry, from 0 seconds on, is not its own
not_before_arrival : (answer : Result Timetable Refusal) (exit : List ℕ) → Timetabled 2 overtaking room answer exit → get_or exit 0 0 ≡ 1 → ⊥
unfolding air_bytes size_of arrival_of deadline_of euclid gcd lowest_n lowest_d assign choose inside left only_if sum unassigned epochs_of packets_of points_of with_point after at_first beats best_from best_of better day_of give_rate leads len load outcome_of pick round round_of taken carries price_of priced epoch_count shown_d setting begun candidate earliest eligible entries_of filled less next_in numbers_of sent sheet_at sooner turn_of turns units_in units_of cost_of radio_cost ◌when◌else◌ ◌then◌ ◌given◌else◌ in_order memory_tests record_at record_test record_tests timetables_outcome entries_after overwritten
not_before_arrival answer exit p early =
    let z : ◌≡◌ {A = ℕ} 1 0 = sym early ∙ ap (λ (l : List ℕ). get_or l 0 0) p.exit_is in
    omega arith

-- one that refuses everything, whatever its refusal
not_refused : (refusal : Refusal) (exit : List ℕ) → Timetabled 1 uneven room (Err refusal) exit → ⊥
unfolding air_bytes size_of arrival_of deadline_of euclid gcd lowest_n lowest_d assign choose inside left only_if sum unassigned epochs_of packets_of points_of with_point after at_first beats best_from best_of better day_of give_rate leads len load outcome_of pick round round_of taken carries price_of priced epoch_count shown_d setting begun candidate earliest eligible entries_of filled less next_in numbers_of sent sheet_at sooner turn_of turns units_in units_of cost_of radio_cost ◌when◌else◌ ◌then◌ ◌given◌else◌ in_order memory_tests record_at record_test record_tests timetables_outcome
not_refused refusal exit p = refusal_gives refusal (1 ∷ 1 ∷ 27 ∷ []) p.answer_is

-- one that writes nothing: the first entry's R is 3 (bytes per second), and the room had 0 there
not_nothing : (answer : Result Timetable Refusal) → Timetabled 1 uneven room answer room → ⊥
unfolding air_bytes size_of arrival_of deadline_of euclid gcd lowest_n lowest_d assign choose inside left only_if sum unassigned epochs_of packets_of points_of with_point after at_first beats best_from best_of better day_of give_rate leads len load outcome_of pick round round_of taken carries price_of priced epoch_count shown_d setting begun candidate earliest eligible entries_of filled less next_in numbers_of sent sheet_at sooner turn_of turns units_in units_of cost_of radio_cost ◌when◌else◌ ◌then◌ ◌given◌else◌ in_order memory_tests record_at record_test record_tests timetables_outcome entries_after overwritten
not_nothing answer p = let z : ◌≡◌ {A = ℕ} 0 3 = ap (λ (l : List ℕ). get_or l 2 0) p.exit_is in omega arith
