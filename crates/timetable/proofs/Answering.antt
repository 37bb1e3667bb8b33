-- The outcome of the call, case by case, and that its promise admits one answer only: the outcome gives the answer, and the records and the lent room
-- give what is in the lent room at the end. Assumes nothing.
use Prim.Native.Nat.{ℕ, ◌*◌, ◌<◌, ◌≤◌}
use mathlib.Core.Path.{◌≡◌, sym, ap, ap₂, subst₂, ◌∙◌}
use mathlib.Core.List.{List, [], ◌∷◌, map}
use native.Mathlib.Omega.{arith}
use lib.ListN.{length, take}
use Rattle.std.specs.Prelude.{Result, Ok, Err}
use Rattle.packets.specs.declared.refusal.Refusal.{Refusal}
use Rattle.packets.specs.declared.refusal.Refusal.TheVariants.{NoRoom}
use Rattle.packets.specs.Outcome.{gives, refusal_of}
use Rattle.packets.specs.Records.{memory_tests, Accepted}
use Rattle.packets.proofs.Records.{accepted_memory}
use Rattle.packets.proofs.Outcomes.{refused_then, refused_leaves, given_leaves, no_room, has_room}
use Rattle.packets.proofs.Answers.{answer_one}
use Rattle.policy.specs.Rounds.{outcome_of}
use Rattle.policy.specs.Answer.{overwritten}
use Rattle.timetable.specs.declared.Timetable.{Timetable}
use Rattle.timetable.specs.declared.entry.Entry as Made
use Rattle.timetable.specs.Entries.{Entry, entries_of, entry_numbers, numbers_of}
use Rattle.timetable.specs.Costs.{cost_of}
use Rattle.timetable.specs.Right.{most_entries}
use Rattle.timetable.specs.Steps.{Planned, entry_of}
use Rattle.timetable.specs.Answer.{Timetabled, entries_after, timetable_answer_of, timetables_outcome}
use Rattle.timetable.proofs.Lists.{timetable}

-- ## The cases

-- the tests refuse
pub tests_refuse : (count : ℕ) (records lent : List ℕ) (refusal : Refusal) → refusal_of refusal ≡ memory_tests count records
    → Timetabled count records lent (Err refusal) lent
unfolding entries_after timetables_outcome
tests_refuse count records lent refusal h =
    let e : refusal_of refusal ≡ timetables_outcome count records (length lent) = sym (refused_then refusal _ h) in
    record { answer_is = e; exit_is = sym (refused_leaves refusal (overwritten (numbers_of (entries_of count records)) lent) lent e) }

-- what holds of packets that are kept as they were lent
pub kept_timetabled : {count count' : ℕ} {records records' lent exit : List ℕ} {answer : Result Timetable Refusal} → (count' ≡ count) × (records' ≡ records)
    → Timetabled count' records' lent answer exit → Timetabled count records lent answer exit
kept_timetabled {lent = lent} {exit = exit} {answer = answer} kept t = subst₂ (λ (n : ℕ) (l : List ℕ). Timetabled n l lent answer exit) kept.0 kept.1 t

module _ (count : ℕ) (records : List ℕ) (accepted : Accepted count records) (lent : List ℕ) (entries : List Made.Entry) (made : Timetable)
    (p : Planned count records entries made) where
  -- the entries fit the array
  pub made_few : made.entries ≤ most_entries
  made_few = omega (arith, p.count_is, (timetable count records accepted).few)

  -- too little room
  pub short_of_room : length lent < entry_numbers * made.entries → Timetabled count records lent (Err NoRoom) lent
  unfolding entries_after
  short_of_room h = record { answer_is = short; exit_is = sym (refused_leaves NoRoom (overwritten (numbers_of (entries_of count records)) lent) lent short) }
    where
      short : refusal_of NoRoom ≡ timetables_outcome count records (length lent)
      short = unfold timetables_outcome in no_room _ _ _ (sym (accepted_memory count records accepted)) (omega (arith, h, p.count_is))

  -- room enough
  pub room_enough : (exit : List ℕ) → entry_numbers * made.entries ≤ length lent → exit ≡ overwritten (numbers_of (map entry_of (take made.entries entries))) lent
      → Timetabled count records lent (Ok made) exit
  unfolding entries_after
  room_enough exit h x =
      record {
        answer_is = enough;
        exit_is =
            x ∙ ap (λ (l : List Entry). overwritten (numbers_of l) lent) p.entries_are ∙
            sym (given_leaves (overwritten (numbers_of (entries_of count records)) lent) lent enough);
      }
    where
      values : gives (made.rounds ∷ made.entries ∷ made.cost ∷ [])
          ≡ gives ((outcome_of count records).rounds ∷ length (entries_of count records) ∷ cost_of count records ∷ [])
      values = cc (p.rounds_are, p.count_is, p.cost_is)

      enough : gives (made.rounds ∷ made.entries ∷ made.cost ∷ []) ≡ timetables_outcome count records (length lent)
      enough = values ∙ unfold timetables_outcome in has_room _ _ _ (sym (accepted_memory count records accepted)) (omega (arith, h, p.count_is))

-- ## One answer only

same_made : (a b : Timetable) → a.rounds ≡ b.rounds → a.entries ≡ b.entries → a.cost ≡ b.cost → a ≡ b
same_made a b f g h =
    ap₂ (λ (rounds n : ℕ). record { rounds = rounds; entries = n; cost = a.cost }) f g ∙
    ap (λ (cost : ℕ). record { rounds = b.rounds; entries = b.entries; cost = cost }) h

-- an answer is known by its values
pub timetable_answer_one : (a b : Result Timetable Refusal) → timetable_answer_of a ≡ timetable_answer_of b → a ≡ b
timetable_answer_one = answer_one _ (λ (a : Timetable) (b : Timetable) e. same_made a b (cc) (cc) (cc))

-- the promise of the call admits one answer, and one content of the lent room
pub timetabled_once : (count : ℕ) (records lent : List ℕ) (a b : Result Timetable Refusal) (x y : List ℕ)
    → Timetabled count records lent a x → Timetabled count records lent b y → (a ≡ b) × (x ≡ y)
timetabled_once count records lent a b x y p q =
    (timetable_answer_one a b (p.answer_is ∙ sym q.answer_is), p.exit_is ∙ sym q.exit_is)

-- a refusal changes nothing in the lent room
pub timetables_undone : (count : ℕ) (records lent exit : List ℕ) (refusal : Refusal) → Timetabled count records lent (Err refusal) exit → exit ≡ lent
unfolding entries_after
timetables_undone count records lent exit refusal p = p.exit_is ∙ refused_leaves refusal _ lent p.answer_is
