-- What a call comes to: the values that it gives, or the refusal's number and place (document 01, "Refusal numbers and their order").
-- An answer is a result: `answer_of` tells its values or its refusal, and `verdict_of` and the like say which values each call's answer has. Assumes nothing.
use Rattle.std.specs.Prelude.{ℕ, zero, suc, List, [], ◌∷◌, Bool, true, false, Result, Ok, Err}
use Rattle.packets.specs.declared.refusal.Refusal.{Refusal}
use Rattle.packets.specs.declared.refusal.Refusal.TheVariants.{Short, NoPackets, TooManyPackets, Size, Deadline, Arrival, UnusedBit, NoRoom, EntryCount, Entry, Cost}
use Rattle.packets.specs.declared.list.ListSize.{ListSize}

pub data Outcome : Type 0 where
  -- the call gives these values
  gives : List ℕ → Outcome
  -- the call refuses, with this number and this place
  refuses : ℕ → ℕ → Outcome

infixr 20 ◌when◌else◌
-- the first outcome where the test holds, and what follows where it does not
unfoldable pub ◌when◌else◌ : Outcome → Bool → Outcome → Outcome
◌when◌else◌ refusal true rest = refusal
◌when◌else◌ refusal false rest = rest

infixr 15 ◌then◌
-- the tests of the second come after those of the first: a refusal of the first stands
unfoldable pub ◌then◌ : Outcome → Outcome → Outcome
◌then◌ (gives values) next = next
◌then◌ (refuses number place) next = refuses number place

-- n tests in order, from number i on: the first refusal, or no values where there is none
unfoldable pub in_order : (ℕ → Outcome) → ℕ → ℕ → Outcome
in_order test zero i = gives []
in_order test (suc n) i = test i then in_order test n (suc i)

infix 10 ◌given◌else◌
-- the first where the outcome gives values, and the second where it refuses
unfoldable pub ◌given◌else◌ : {A : Type 0} → A → Outcome → A → A
◌given◌else◌ accepted (gives values) refused = accepted
◌given◌else◌ accepted (refuses number place) refused = refused

-- the number of a refusal
abbrev pub number_of : Refusal → ℕ
number_of Short = 1
number_of NoPackets = 2
number_of TooManyPackets = 3
number_of (Size i) = 4
number_of (Deadline i) = 5
number_of (Arrival i) = 6
number_of UnusedBit = 7
number_of NoRoom = 8
number_of EntryCount = 9
number_of (Entry i) = 10
number_of Cost = 11

-- its place: the index of the record or entry at fault, else 0
abbrev pub place_of : Refusal → ℕ
place_of Short = 0
place_of NoPackets = 0
place_of TooManyPackets = 0
place_of (Size i) = i
place_of (Deadline i) = i
place_of (Arrival i) = i
place_of UnusedBit = 0
place_of NoRoom = 0
place_of EntryCount = 0
place_of (Entry i) = i
place_of Cost = 0

-- the number and the place of a refusal
abbrev pub refusal_of : Refusal → Outcome
refusal_of refusal = refuses (number_of refusal) (place_of refusal)

-- what an answer comes to: the values of what it gives, or its refusal
abbrev pub answer_of : {T : Type 0} → (T → List ℕ) → Result T Refusal → Outcome
answer_of values (Ok answer) = gives (values answer)
answer_of values (Err refusal) = refusal_of refusal

-- what has no values to tell
abbrev pub no_values : {T : Type 0} → T → List ℕ
no_values answer = []

-- a verdict that passes gives no values
abbrev pub verdict_of : Result (Unit {0}) Refusal → Outcome
verdict_of verdict = answer_of no_values verdict

-- a list that is read gives its packets and the bytes that it takes
abbrev pub list_answer_of : Result ListSize Refusal → Outcome
list_answer_of answer = answer_of (λ (size : ListSize). size.count ∷ size.bytes ∷ []) answer

-- a list that is written gives the bytes that it takes
abbrev pub written_answer_of : Result ℕ Refusal → Outcome
written_answer_of answer = answer_of (λ (bytes : ℕ). bytes ∷ []) answer
