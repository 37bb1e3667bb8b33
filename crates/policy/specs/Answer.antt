-- What the call for the rates of all epochs gives, and what it writes (document 01, "Epochs and rates" and "Refusal numbers and their order").
-- Assumes nothing.
use Rattle.std.specs.Prelude.{ℕ, zero, suc, ◌*◌, ◌≡◌, List, [], ◌∷◌, ◌++◌, length, get_or, drop, ltb, Result, Option, Some, None, slice_index_or}
use Rattle.packets.specs.Outcome.{Outcome, gives, refuses, ◌when◌else◌, ◌then◌, ◌given◌else◌, answer_of}
use Rattle.packets.specs.Records.{memory_tests}
use Rattle.packets.specs.declared.refusal.Refusal.{Refusal}
use Rattle.policy.specs.declared.RatesSize.{RatesSize}
use Rattle.policy.specs.declared.EpochRate.{EpochRate}
use Rattle.policy.specs.declared.EpochRate.TheVariants.{Silent, Carries}
use Rattle.fractions.specs.declared.Rate.{Rate}
use Rattle.policy.specs.Windows.{Given, none, rate}
use Rattle.policy.specs.Points.{points_of, epochs_of}
use Rattle.policy.specs.Rounds.{outcome_of}

-- the values of an answer: the epochs and the rounds, or the refusal
abbrev pub rates_answer_of : Result RatesSize Refusal → Outcome
rates_answer_of answer = answer_of (λ (size : RatesSize). size.epochs ∷ size.rounds ∷ []) answer

-- what a packet or an epoch was given: nothing, or its rate
abbrev pub given_of : Option Rate → Given
given_of None = none
given_of (Some carried) = rate carried.n carried.d

-- what N and D say: a D of 0 is no rate
unfoldable pub given_by : ℕ → ℕ → Given
given_by n zero = none
given_by n (suc d) = rate n (suc d)

-- what an epoch was given: nothing where it is silent, else its rate
abbrev pub epoch_rate_of : EpochRate → Given
epoch_rate_of Silent = none
epoch_rate_of (Carries carried) = rate carried.n carried.d

-- what number i of a list was given
abbrev pub given_at : List (Option Rate) → ℕ → Given
given_at rates i = given_of (slice_index_or rates i None)

-- the numbers that are written for an epoch: its start (seconds), N and D (bytes per second)
abbrev pub epoch_numbers : ℕ
epoch_numbers = 3

-- N as it is shown: a silent epoch shows 0/1
unfoldable pub shown_n : Given → ℕ
shown_n none = 0
shown_n (rate n d) = n

-- D as it is shown
unfoldable pub shown_d : Given → ℕ
shown_d none = 1
shown_d (rate n d) = d

-- start, N and D of the first n epochs, in time order
unfoldable pub epoch_rows : List ℕ → (ℕ → Given) → ℕ → List ℕ
epoch_rows points has zero = []
epoch_rows points has (suc n) =
    epoch_rows points has n ++ (get_or points n 0 ∷ shown_n (has n) ∷ shown_d (has n) ∷ [])

-- the number of epochs of a list
unfoldable pub epoch_count : ℕ → List ℕ → ℕ
epoch_count count records = (epochs_of (points_of count records)).count

-- the rows of all epochs of a list
unfoldable pub rates_of : ℕ → List ℕ → List ℕ
rates_of count records = epoch_rows (points_of count records) (outcome_of count records).epoch (epoch_count count records)

-- 2, 3, 1, the records, then 8; else the number of epochs and of rounds
unfoldable pub rates_outcome : ℕ → List ℕ → ℕ → Outcome
rates_outcome count records room =
    memory_tests count records then
    refuses 8 0 when ltb room (epoch_numbers * epoch_count count records) else
    gives (epoch_count count records ∷ (outcome_of count records).rounds ∷ [])

-- the rows stand at the front of what was lent, and the rest stays
unfoldable pub overwritten : List ℕ → List ℕ → List ℕ
overwritten rows lent = rows ++ drop (length rows) lent

-- the lent room at the end of the call: a refusal writes nothing
unfoldable pub rates_after : ℕ → List ℕ → List ℕ → List ℕ
rates_after count records lent = overwritten (rates_of count records) lent given rates_outcome count records (length lent) else lent

-- what the call promises: its answer, and what the lent room holds at the end
pub record EpochsRated (count : ℕ) (records lent : List ℕ) (answer : Result RatesSize Refusal) (exit : List ℕ) : Type 0 where
  pub answer_is : rates_answer_of answer ≡ rates_outcome count records (length lent)
  pub exit_is : exit ≡ rates_after count records lent
