-- Lists on which wrong planners are refuted: A and D of document 01, and two more, go through the definitions: epochs and rounds, then start, N and D of each epoch.
-- Assumes nothing.
use Prim.Native.Nat.{ℕ}
use mathlib.Core.Path.{◌≡◌, refl}
use mathlib.Core.List.{List, [], ◌∷◌}
use Rattle.packets.specs.Limits.{air_bytes}
use Rattle.packets.specs.Outcome.{Outcome, gives, ◌when◌else◌, ◌then◌, in_order}
use Rattle.packets.specs.Records.{size_of, arrival_of, deadline_of, record_test, record_at, record_tests, memory_tests}
use Rattle.fractions.specs.Fraction.{euclid, gcd, lowest_n, lowest_d}
use Rattle.policy.specs.Windows.{assign, choose, inside, left, only_if, sum, unassigned}
use Rattle.policy.specs.Points.{epochs_of, packets_of, points_of, with_point}
use Rattle.policy.specs.Rounds.{after, at_first, beats, best_from, best_of, better, day_of, give_rate, leads, len, load, outcome_of, pick, round, round_of, taken}
use Rattle.policy.specs.Answer.{epoch_count, epoch_rows, rates_of, rates_outcome, shown_d, shown_n}

-- a list, what its call gives with room for `room` numbers, and the rows that are written
pub record Case : Type 0 where
  pub count : ℕ
  pub records : List ℕ
  pub room : ℕ
  pub answer : Outcome
  pub rows : List ℕ

abbrev pub Holds : Case → Type 0
Holds x = (rates_outcome x.count x.records x.room ≡ x.answer) × (rates_of x.count x.records ≡ x.rows)

-- 3 packets, 5 epochs, 3 rounds
abbrev pub A : Case
A =
    record {
      count = 3;
      records = 30 ∷ 0 ∷ 10 ∷ 40 ∷ 2 ∷ 6 ∷ 9 ∷ 8 ∷ 14 ∷ [];
      room = 15;
      answer = gives (5 ∷ 3 ∷ []);
      rows = 0 ∷ 5 ∷ 1 ∷ 2 ∷ 10 ∷ 1 ∷ 6 ∷ 5 ∷ 1 ∷ 8 ∷ 5 ∷ 1 ∷ 10 ∷ 9 ∷ 4 ∷ [];
    }

-- rates 1/5 and 2
abbrev pub D : Case
D =
    record {
      count = 2;
      records = 1 ∷ 0 ∷ 10 ∷ 10 ∷ 5 ∷ 10 ∷ [];
      room = 6;
      answer = gives (2 ∷ 2 ∷ []);
      rows = 0 ∷ 1 ∷ 5 ∷ 5 ∷ 2 ∷ 1 ∷ [];
    }

-- a tie: each packet by itself and both together have one density, 1 byte per second; one round
abbrev pub Tied : Case
Tied =
    record {
      count = 2;
      records = 1 ∷ 0 ∷ 1 ∷ 1 ∷ 1 ∷ 2 ∷ [];
      room = 6;
      answer = gives (2 ∷ 1 ∷ []);
      rows = 0 ∷ 1 ∷ 1 ∷ 1 ∷ 1 ∷ 1 ∷ [];
    }

-- densities 4,166 and 25,000/6 bytes per second, which whole numbers would not tell apart
abbrev pub Close : Case
Close =
    record {
      count = 2;
      records = 4166 ∷ 0 ∷ 1 ∷ 25000 ∷ 1 ∷ 7 ∷ [];
      room = 6;
      answer = gives (2 ∷ 2 ∷ []);
      rows = 0 ∷ 4166 ∷ 1 ∷ 1 ∷ 12500 ∷ 3 ∷ [];
    }

pub worked : Holds A × Holds D × Holds Tied × Holds Close
unfolding air_bytes ◌when◌else◌ ◌then◌ in_order record_at size_of arrival_of deadline_of record_test record_tests memory_tests euclid gcd lowest_n lowest_d assign choose inside left only_if sum unassigned epochs_of packets_of points_of with_point after at_first beats best_from best_of better day_of give_rate leads len load outcome_of pick round round_of taken epoch_count epoch_rows rates_of rates_outcome shown_d shown_n
worked = ((refl, refl), (refl, refl), (refl, refl), (refl, refl))
