-- What the call for both timetables gives, and what it writes (document 01, "The two timetables" and "Refusal numbers and their order").
-- Assumes nothing.
use Rattle.std.specs.Prelude.{ℕ, ◌*◌, ◌≡◌, List, [], ◌∷◌, length, ltb, Result}
use Rattle.packets.specs.Outcome.{Outcome, gives, refuses, ◌when◌else◌, ◌then◌, ◌given◌else◌, answer_of}
use Rattle.packets.specs.declared.refusal.Refusal.{Refusal}
use Rattle.packets.specs.Records.{memory_tests}
use Rattle.policy.specs.Rounds.{outcome_of}
use Rattle.policy.specs.Answer.{overwritten}
use Rattle.timetable.specs.declared.Timetable.{Timetable}
use Rattle.timetable.specs.Entries.{entries_of, entry_numbers, numbers_of}
use Rattle.timetable.specs.Costs.{cost_of}

-- the values of an answer: the rounds, the entries and the radio cost, or the refusal
abbrev pub timetable_answer_of : Result Timetable Refusal → Outcome
timetable_answer_of answer = answer_of (λ (made : Timetable). made.rounds ∷ made.entries ∷ made.cost ∷ []) answer

-- 2, 3, 1, the records, then 8; else the number of rounds, the number of entries and the radio cost
unfoldable pub timetables_outcome : ℕ → List ℕ → ℕ → Outcome
timetables_outcome count records room =
    memory_tests count records then
    refuses 8 0 when ltb room (entry_numbers * length (entries_of count records)) else
    gives ((outcome_of count records).rounds ∷ length (entries_of count records) ∷ cost_of count records ∷ [])

-- the lent room at the end of the call: the entries stand at its front and the rest stays; a refusal writes nothing
unfoldable pub entries_after : ℕ → List ℕ → List ℕ → List ℕ
entries_after count records lent =
    overwritten (numbers_of (entries_of count records)) lent given timetables_outcome count records (length lent) else lent

-- what the call promises: its answer, and what the lent room holds at the end
pub record Timetabled (count : ℕ) (records lent : List ℕ) (answer : Result Timetable Refusal) (exit : List ℕ) : Type 0 where
  pub answer_is : timetable_answer_of answer ≡ timetables_outcome count records (length lent)
  pub exit_is : exit ≡ entries_after count records lent
