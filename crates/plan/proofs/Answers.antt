-- Each promise admits one answer only, and a refusal leaves what was lent as it was: an answer is known by its number and values, and what is left in a lent buffer is stated as an equation.
-- Assumes nothing.
use Prim.Native.Nat.{ℕ}
use mathlib.Core.Path.{◌≡◌, sym, ap₂, ◌∙◌}
use Rattle.std.specs.Prelude.{Result, Err}
use Rattle.plan.specs.declared.frame.PlanHead.{PlanHead}
use mathlib.Core.List.{List}
use Rattle.packets.specs.declared.refusal.Refusal.{Refusal}
use Rattle.packets.proofs.Answers.{answer_one}
use Rattle.packets.proofs.Outcomes.{refused_leaves}
use Rattle.plan.specs.Frame.{read_answer_of, entries_after, frame_answer_of, frame_after, PlanRead, PlanWritten}

pub read_answer_one : (a b : Result PlanHead Refusal) → read_answer_of a ≡ read_answer_of b → a ≡ b
read_answer_one = answer_one _ (λ (a : PlanHead) (b : PlanHead) e. let f : a.entries ≡ b.entries = cc in let g : a.cost ≡ b.cost = cc in ap₂ (λ (entries : ℕ) (cost : ℕ). record { entries = entries; cost = cost }) f g)

pub frame_answer_one : (a b : Result ℕ Refusal) → frame_answer_of a ≡ frame_answer_of b → a ≡ b
frame_answer_one = answer_one _ (λ a b e. cc)

pub plan_read_once : (frame lent : List ℕ) (a b : Result PlanHead Refusal) (after after' : List ℕ) → PlanRead frame lent a after → PlanRead frame lent b after'
    → (a ≡ b) × (after ≡ after')
plan_read_once frame lent a b after after' p q = (read_answer_one a b (p.0 ∙ sym q.0), p.1 ∙ sym q.1)

pub plan_written_once : (count : ℕ) (entries : List ℕ) (cost : ℕ) (frame : List ℕ) (a b : Result ℕ Refusal) (after after' : List ℕ)
    → PlanWritten count entries cost frame a after → PlanWritten count entries cost frame b after' → (a ≡ b) × (after ≡ after')
plan_written_once count entries cost frame a b after after' p q = (frame_answer_one a b (p.0 ∙ sym q.0), p.1 ∙ sym q.1)

-- ---- a refusal changes nothing that was lent

pub plan_read_undone : (frame lent after : List ℕ) (refusal : Refusal) → PlanRead frame lent (Err refusal) after → after ≡ lent
unfolding entries_after
plan_read_undone frame lent after refusal p = p.1 ∙ refused_leaves refusal _ lent p.0

pub plan_written_undone : (count : ℕ) (entries : List ℕ) (cost : ℕ) (frame after : List ℕ) (refusal : Refusal)
    → PlanWritten count entries cost frame (Err refusal) after → after ≡ frame
unfolding frame_after
plan_written_undone count entries cost frame after refusal p = p.1 ∙ refused_leaves refusal _ frame p.0
