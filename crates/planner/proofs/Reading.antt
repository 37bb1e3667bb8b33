-- What the plan reader reads from a frame that the whole call filled: the entries of the list and their cost. Assumes nothing.
use Prim.Native.Nat.{ℕ, ◌*◌, ◌≤◌}
use mathlib.Core.Path.{◌≡◌, refl, sym, ap, subst, ◌∙◌}
use mathlib.Core.List.{List, [], ◌∷◌, ◌++◌, append-nil}
use native.Mathlib.Omega.{arith}
use lib.ListN.{length, take, drop}
use lib.Seq.{take_all}
use lib.Dec.{ltb}
use borrow.Author.Tests.{ltb-false}
use Rattle.packets.specs.Outcome.{gives}
use Rattle.packets.specs.Records.{Accepted, record_tests}
use Rattle.packets.specs.List.{count_on, records_on, wire_tests}
use Rattle.packets.proofs.Outcomes.{then_gives, when_gives, given_leaves}
use Rattle.packets.proofs.Lists.{packets_accepted}
use Rattle.timetable.specs.Entries.{entries_of}
use Rattle.timetable.specs.Costs.{cost_of}
use Rattle.policy.specs.Rounds.{outcome_of}
use Rattle.plan.specs.Entries.{entry_numbers}
use Rattle.plan.specs.Frame as plan
use Rattle.plan.specs.Frame.{frame_bytes, head_bytes}
use Rattle.plan.proofs.Framing.{Fitting, fitting_memory, write_gives}
use Rattle.plan.proofs.Trips.{write_read_plan}
use Rattle.planner.specs.Whole.{plan_numbers, packets_outcome, packets_framed, plan_outcome, frame_after}
use Rattle.planner.proofs.Passing.{fitting, length_numbers}

-- a list that is planned: its packets are accepted, the frame has room, and the values are the rounds, the entries and the cost
pub record Plans (bytes : List ℕ) (room : ℕ) (values : List ℕ) : Type 0 where
  pub accepted : Accepted (count_on bytes) (records_on bytes)
  pub held : frame_bytes (length (entries_of (count_on bytes) (records_on bytes))) ≤ room
  pub told : values
      ≡ (outcome_of (count_on bytes) (records_on bytes)).rounds
      ∷ length (entries_of (count_on bytes) (records_on bytes))
      ∷ cost_of (count_on bytes) (records_on bytes) ∷ []

pub plans : (bytes : List ℕ) (room : ℕ) (values : List ℕ) → plan_outcome bytes room ≡ gives values → Plans bytes room values
unfolding plan_outcome packets_outcome
plans bytes room values h =
    let a = then_gives (wire_tests bytes) _ h in
    let b = then_gives (record_tests (count_on bytes) 0 (records_on bytes)) _ a.2 in
    let d = when_gives 8 0 (ltb room (frame_bytes (length (entries_of (count_on bytes) (records_on bytes))))) refl b.2 in
    record {
      accepted = packets_accepted bytes a.0 b.0 a.1 b.1;
      held = ltb-false _ _ d.0;
      told = let e = d.1 in cc;
    }

-- the plan reader gives the entries and the cost back, into any room that holds them
pub plan_reads : (bytes frame values lent : List ℕ) → plan_outcome bytes (length frame) ≡ gives values
    → entry_numbers * length (entries_of (count_on bytes) (records_on bytes)) ≤ length lent
    → (plan.read_outcome (drop head_bytes (frame_after bytes frame)) (length lent)
    ≡ gives (length (entries_of (count_on bytes) (records_on bytes)) ∷ cost_of (count_on bytes) (records_on bytes) ∷ []))
    × (plan.entries_after (drop head_bytes (frame_after bytes frame)) lent
    ≡ plan_numbers (entries_of (count_on bytes) (records_on bytes)) ++ drop (entry_numbers * length (entries_of (count_on bytes) (records_on bytes))) lent)
unfolding frame_after packets_framed
plan_reads bytes frame values lent h held = (ap (λ (f : List ℕ). plan.read_outcome (drop head_bytes f) (length lent)) same ∙ back.0, ap (λ (f : List ℕ). plan.entries_after (drop head_bytes f) lent) same ∙ back.1 ∙ rw own)
  where
    p : Plans bytes (length frame) values
    p = plans bytes (length frame) values h

    n : ℕ
    n = length (entries_of (count_on bytes) (records_on bytes))

    numbers : List ℕ
    numbers = plan_numbers (entries_of (count_on bytes) (records_on bytes))

    cost : ℕ
    cost = cost_of (count_on bytes) (records_on bytes)

    own : take (entry_numbers * n) numbers ≡ numbers
    own = take_all (entry_numbers * n) numbers (omega (arith, length_numbers (entries_of (count_on bytes) (records_on bytes))))

    fit : Fitting n numbers cost
    fit = subst (λ (l : List ℕ). Fitting n l cost) (append-nil numbers) (fitting (count_on bytes) (records_on bytes) [] p.accepted)

    same : frame_after bytes frame ≡ plan.frame_after n numbers cost frame
    same =
        given_leaves _ _ (sym h)
        ∙ sym (unfold plan.frame_after in (given_leaves _ _ (write_gives n numbers cost (length frame) (sym (fitting_memory n numbers cost fit)) p.held)))

    back : (plan.read_outcome (drop head_bytes (plan.frame_after n numbers cost frame)) (length lent) ≡ gives (n ∷ cost ∷ []))
        × (plan.entries_after (drop head_bytes (plan.frame_after n numbers cost frame)) lent ≡ take (entry_numbers * n) numbers ++ drop (entry_numbers * n) lent)
        × (take head_bytes (plan.frame_after n numbers cost frame) ≡ take head_bytes frame)
    back = write_read_plan n numbers cost frame fit p.held lent held
