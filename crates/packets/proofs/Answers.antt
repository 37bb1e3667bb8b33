-- Each promise admits one answer only, and a refusal leaves what was lent as it was. An answer is known by its number and values, since `decoded` gives it back from them; what is left in a lent
-- buffer is stated as an equation. Assumes nothing.
use Prim.Native.Nat.{ℕ}
use mathlib.Core.Path.{◌≡◌, refl, sym, ap, ap₂, ◌∙◌}
use native.Mathlib.Omega.{arith}
use mathlib.Core.List.{List}
use mathlib.Core.Bool.{Bool, true, false}
use lib.Dec.{eqb}
use lib.ListN.{length}
use Rattle.std.specs.Prelude.{Result, Ok, Err}
use Rattle.packets.specs.declared.refusal.Refusal.{Refusal}
use Rattle.packets.specs.declared.refusal.Refusal.TheVariants.{Short, NoPackets, TooManyPackets, Size, Deadline, Arrival, UnusedBit, NoRoom, EntryCount, Entry, Cost}
use Rattle.packets.specs.declared.list.ListSize.{ListSize}
use Rattle.packets.specs.Outcome.{Outcome, gives, refuses, refusal_of, answer_of, no_values, verdict_of, list_answer_of, written_answer_of}
use Rattle.packets.specs.Records.{memory_tests}
use Rattle.packets.specs.List.{read_outcome, records_after, rest_after, bytes_after, ListJudged, ListRead, ListWritten}
use Rattle.packets.proofs.Outcomes.{refused_leaves}

-- ---- refusals

choose : Bool → Refusal → Refusal → Refusal
choose true a b = a
choose false a b = b

-- the refusal of a number and a place
refusal_at : ℕ → ℕ → Refusal
refusal_at number place =
    choose (eqb number 1) Short
    (choose (eqb number 2) NoPackets
    (choose (eqb number 3) TooManyPackets
    (choose (eqb number 4) (Size place)
    (choose (eqb number 5) (Deadline place)
    (choose (eqb number 6) (Arrival place)
    (choose (eqb number 7) UnusedBit
    (choose (eqb number 8) NoRoom
    (choose (eqb number 9) EntryCount
    (choose (eqb number 10) (Entry place) Cost)))))))))

decoded : Outcome → Refusal
decoded (gives values) = Cost
decoded (refuses number place) = refusal_at number place

refusal_decoded : (refusal : Refusal) → decoded (refusal_of refusal) ≡ refusal
unfolding decoded refusal_at choose
refusal_decoded Short = refl
refusal_decoded NoPackets = refl
refusal_decoded TooManyPackets = refl
refusal_decoded (Size i) = refl
refusal_decoded (Deadline i) = refl
refusal_decoded (Arrival i) = refl
refusal_decoded UnusedBit = refl
refusal_decoded NoRoom = refl
refusal_decoded EntryCount = refl
refusal_decoded (Entry i) = refl
refusal_decoded Cost = refl

-- two refusals of one number and place are one
pub refusal_one : (a b : Refusal) → refusal_of a ≡ refusal_of b → a ≡ b
refusal_one a b e = sym (refusal_decoded a) ∙ ap decoded e ∙ refusal_decoded b

-- a refusal gives no values
pub refusal_gives : {A : Type 0} (refusal : Refusal) (values : List ℕ) → refusal_of refusal ≡ gives values → A
refusal_gives refusal values e =
    let z : ◌≡◌ {A = ℕ} 0 1 = cc in
    absurd (omega arith)

-- ---- answers

-- two answers that come to the same are one, where the values tell what is given apart
pub answer_one : {T : Type 0} (values : T → List ℕ) → ((a b : T) → values a ≡ values b → a ≡ b)
    → (a b : Result T Refusal) → answer_of values a ≡ answer_of values b → a ≡ b
answer_one values one (Ok x) (Ok y) e = let f : values x ≡ values y = cc in ap Ok (one x y f)
answer_one values one (Ok x) (Err s) e = refusal_gives s _ (sym e)
answer_one values one (Err r) (Ok y) e = refusal_gives r _ e
answer_one values one (Err r) (Err s) e = ap Err (refusal_one r s e)

pub verdict_one : (a b : Result (Unit {0}) Refusal) → verdict_of a ≡ verdict_of b → a ≡ b
verdict_one = answer_one no_values (λ a b e. refl)

pub list_answer_one : (a b : Result ListSize Refusal) → list_answer_of a ≡ list_answer_of b → a ≡ b
list_answer_one = answer_one _ (λ (a : ListSize) (b : ListSize) e. let f : a.count ≡ b.count = cc in let g : a.bytes ≡ b.bytes = cc in ap₂ (λ (count : ℕ) (bytes : ℕ). record { count = count; bytes = bytes }) f g)

pub written_answer_one : (a b : Result ℕ Refusal) → written_answer_of a ≡ written_answer_of b → a ≡ b
written_answer_one = answer_one _ (λ a b e. cc)

-- ---- promises: each admits one answer, one part handed back and one content of each lent buffer

pub judged_once : (count : ℕ) (records : List ℕ) (a b : Result (Unit {0}) Refusal) → verdict_of a ≡ memory_tests count records → verdict_of b ≡ memory_tests count records → a ≡ b
judged_once count records a b p q = verdict_one a b (p ∙ sym q)

pub list_judged_once : (bytes : List ℕ) (room : ℕ) (a b : Result ListSize Refusal) → ListJudged bytes room a → ListJudged bytes room b → a ≡ b
list_judged_once bytes room a b p q = list_answer_one a b (p ∙ sym q)

pub list_read_once : (bytes lent : List ℕ) (rest rest' after after' : List ℕ) → ListRead bytes lent rest after → ListRead bytes lent rest' after'
    → (rest ≡ rest') × (after ≡ after')
list_read_once bytes lent rest rest' after after' p q = (p.0 ∙ sym q.0, p.1 ∙ sym q.1)

pub list_written_once : (count : ℕ) (records lent : List ℕ) (a b : Result ℕ Refusal) (after after' : List ℕ)
    → ListWritten count records lent a after → ListWritten count records lent b after' → (a ≡ b) × (after ≡ after')
list_written_once count records lent a b after after' p q = (written_answer_one a b (p.0 ∙ sym q.0), p.1 ∙ sym q.1)

-- ---- a refusal changes nothing that was lent

pub list_read_undone : (bytes lent rest after : List ℕ) (refusal : Refusal) → refusal_of refusal ≡ read_outcome bytes (length lent) → ListRead bytes lent rest after
    → (rest ≡ bytes) × (after ≡ lent)
unfolding rest_after records_after
list_read_undone bytes lent rest after refusal e p = (p.0 ∙ refused_leaves refusal _ bytes e, p.1 ∙ refused_leaves refusal _ lent e)

pub list_written_undone : (count : ℕ) (records lent after : List ℕ) (refusal : Refusal) → ListWritten count records lent (Err refusal) after → after ≡ lent
unfolding bytes_after
list_written_undone count records lent after refusal p = p.1 ∙ refused_leaves refusal _ lent p.0
