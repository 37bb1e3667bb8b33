-- The whole call's promise admits one answer and one frame only, a refusal leaves the frame as it was, and a frame of 3,357 bytes always suffices. Assumes nothing.
use Prim.Native.Nat.{ℕ, ◌≤◌}
use mathlib.Core.Path.{◌≡◌, sym, ap₂, ◌∙◌}
use mathlib.Core.List.{List}
use native.Mathlib.Omega.{arith}
use lib.ListN.{length}
use Rattle.packets.specs.Records.{Accepted}
use Rattle.packets.specs.declared.refusal.Refusal.{Refusal}
use Rattle.packets.proofs.Outcomes.{refused_leaves}
use Rattle.packets.proofs.Answers.{answer_one}
use Rattle.timetable.specs.Entries.{entries_of}
use Rattle.timetable.proofs.Lists.{timetable}
use Rattle.plan.specs.Frame.{frame_bytes}
use Rattle.plan.proofs.Framing.{plan_bytes_is}
use Rattle.std.specs.Prelude.{Result, Err}
use Rattle.timetable.specs.declared.Timetable.{Timetable}
use Rattle.planner.specs.Whole.{plan_answer_of, frame_after, Whole}

pub plan_answer_one : (a b : Result Timetable Refusal) → plan_answer_of a ≡ plan_answer_of b → a ≡ b
plan_answer_one = answer_one _ (λ (a : Timetable) (b : Timetable) e. let f : a.rounds ≡ b.rounds = cc in let g : a.entries ≡ b.entries = cc in let h : a.cost ≡ b.cost = cc in ap₂ (λ (k : ℕ → Timetable) (cost : ℕ). k cost) (ap₂ made f g) h)
  where
    made : ℕ → ℕ → ℕ → Timetable
    made rounds entries cost = record { rounds = rounds; entries = entries; cost = cost }

-- one answer, and one content of every byte of the frame
pub whole_once : (list frame : List ℕ) (a b : Result Timetable Refusal) (after after' : List ℕ) → Whole list frame a after → Whole list frame b after' → (a ≡ b) × (after ≡ after')
whole_once list frame a b after after' p q = (plan_answer_one a b (p.0 ∙ sym q.0), p.1 ∙ sym q.1)

-- a refusal changes no byte of the frame
pub whole_undone : (list frame after : List ℕ) (refusal : Refusal) → Whole list frame (Err refusal) after → after ≡ frame
unfolding frame_after
whole_undone list frame after refusal w = w.1 ∙ refused_leaves refusal _ frame w.0

-- 3,357 bytes hold the plan of any accepted packets
pub frame_suffices : (count : ℕ) (records : List ℕ) → Accepted count records → frame_bytes (length (entries_of count records)) ≤ 3357
unfolding frame_bytes
frame_suffices count records accepted =
    let few = (timetable count records accepted).few in
    omega (arith, plan_bytes_is (length (entries_of count records)))
