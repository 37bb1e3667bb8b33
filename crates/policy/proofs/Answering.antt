-- The outcome of the call, case by case, and that its promise admits one answer only: the outcome gives the answer, and the records and the lent room
-- give what is in the lent room at the end. Assumes nothing.
use Prim.Native.Nat.{ℕ, zero, suc, pred, ◌-◌, ◌*◌, ◌<◌, ◌≤◌}
use mathlib.Core.Path.{◌≡◌, refl, sym, ap, ap₂, subst₂, ◌∙◌}
use mathlib.Core.List.{List, [], ◌∷◌}
use native.Mathlib.Omega.{arith}
use native.Mathlib.Numerals.{sub-one}
use lib.ListN.{length}
use Rattle.std.specs.Prelude.{Result, Ok, Err}
use Rattle.packets.specs.declared.refusal.Refusal.{Refusal}
use Rattle.packets.specs.declared.refusal.Refusal.TheVariants.{NoRoom}
use Rattle.packets.specs.Outcome.{gives, refusal_of}
use Rattle.packets.specs.Records.{memory_tests, Accepted}
use Rattle.packets.proofs.Records.{accepted_memory}
use Rattle.packets.proofs.Outcomes.{refused_then, refused_leaves, given_leaves, no_room, has_room}
use Rattle.packets.proofs.Answers.{answer_one}
use Rattle.policy.specs.declared.RatesSize.{RatesSize}
use Rattle.policy.specs.declared.rates.Rates.{Rates}
use Rattle.policy.specs.Points.{points_of, epochs_of}
use Rattle.policy.specs.Windows.{rate}
use Rattle.policy.specs.Rounds.{outcome_of}
use Rattle.policy.specs.Answer.{epoch_rate_of, given_at, given_by, rates_answer_of, epoch_numbers, epoch_rows, epoch_count, rates_of, rates_outcome, overwritten, rates_after, EpochsRated}
use Rattle.policy.specs.declared.EpochRate.{EpochRate}
use Rattle.policy.specs.declared.EpochRate.TheVariants.{Silent, Carries}
use Rattle.policy.specs.Steps.{Rated}
use Rattle.policy.proofs.Rows.{rows_same}
use Rattle.policy.proofs.Turning.{point_at}

-- ## N and D

-- a D above 0 gives the rate
pub given_rate : (n d : ℕ) → 0 < d → given_by n d ≡ rate n d
unfolding given_by
given_rate n zero h = absurd (omega (arith, h))
given_rate n (suc d) h = refl

-- ## The cases

-- the tests refuse
pub tests_refuse : (count : ℕ) (records lent : List ℕ) (refusal : Refusal) → refusal_of refusal ≡ memory_tests count records
    → EpochsRated count records lent (Err refusal) lent
unfolding rates_after rates_outcome
tests_refuse count records lent refusal h =
    let e : refusal_of refusal ≡ rates_outcome count records (length lent) = sym (refused_then refusal _ h) in
    record { answer_is = e; exit_is = sym (refused_leaves refusal (overwritten (rates_of count records) lent) lent e) }

-- what holds of packets that are kept as they were lent
pub kept_rated : {count count' : ℕ} {records records' lent exit : List ℕ} {answer : Result RatesSize Refusal} → (count' ≡ count) × (records' ≡ records)
    → EpochsRated count' records' lent answer exit → EpochsRated count records lent answer exit
kept_rated {lent = lent} {exit = exit} {answer = answer} kept r = subst₂ (λ (n : ℕ) (l : List ℕ). EpochsRated n l lent answer exit) kept.0 kept.1 r

module _ (count : ℕ) (records : List ℕ) (accepted : Accepted count records) (lent : List ℕ) where
  -- too little room
  pub short_of_room : length lent < epoch_numbers * epoch_count count records → EpochsRated count records lent (Err NoRoom) lent
  unfolding rates_after
  short_of_room h = record { answer_is = short; exit_is = sym (refused_leaves NoRoom (overwritten (rates_of count records) lent) lent short) }
    where
      short : refusal_of NoRoom ≡ rates_outcome count records (length lent)
      short = unfold rates_outcome in no_room _ _ _ (sym (accepted_memory count records accepted)) h

  -- room enough
  pub room_enough : (epochs rounds : ℕ) (exit : List ℕ) → epochs ≡ epoch_count count records → rounds ≡ (outcome_of count records).rounds
      → epoch_numbers * epochs ≤ length lent → exit ≡ overwritten (rates_of count records) lent
      → EpochsRated count records lent (Ok (record { epochs = epochs; rounds = rounds })) exit
  unfolding rates_after
  room_enough epochs rounds exit p q h e =
      record { answer_is = enough; exit_is = e ∙ sym (given_leaves (overwritten (rates_of count records) lent) lent enough) }
    where
      enough : gives (epochs ∷ rounds ∷ []) ≡ rates_outcome count records (length lent)
      enough =
          ap₂ (λ (x y : ℕ). gives (x ∷ y ∷ [])) p q ∙
          unfold rates_outcome in has_room _ _ _ (sym (accepted_memory count records accepted)) (omega (arith, h, p))

-- the rows in the arrays are the rows of the list
pub rows_are : (count : ℕ) (records : List ℕ) → Accepted count records → (rates : Rates) → Rated count records rates
    → (rates.points.count - 1 ≡ epoch_count count records) × (epoch_rows rates.points.at (given_at rates.epochs) (rates.points.count - 1) ≡ rates_of count records)
unfolding epoch_count epochs_of rates_of
rows_are count records accepted rates r = (
  count_is,
  rows_same rates.points.at (points_of count records) (given_at rates.epochs) (outcome_of count records).epoch (rates.points.count - 1)
      (λ i h. point_at count records accepted rates.points.count rates.points.at r.points_are r.n_is i (omega (arith, h)))
      (λ i h. r.epochs_are i (omega (arith, h))) ∙
      ap (epoch_rows (points_of count records) (outcome_of count records).epoch) count_is,
)
  where
    count_is : rates.points.count - 1 ≡ pred (length (points_of count records))
    count_is = sub-one rates.points.count ∙ ap pred r.n_is

-- ## One answer only

-- an answer is known by its values
pub rates_answer_one : (a b : Result RatesSize Refusal) → rates_answer_of a ≡ rates_answer_of b → a ≡ b
rates_answer_one = answer_one _ (λ (a : RatesSize) (b : RatesSize) e. let f : a.epochs ≡ b.epochs = cc in let g : a.rounds ≡ b.rounds = cc in ap₂ (λ (epochs : ℕ) (rounds : ℕ). record { epochs = epochs; rounds = rounds }) f g)

-- the promise of the call admits one answer, and one content of the lent room
pub epochs_rated_once : (count : ℕ) (records lent : List ℕ) (a b : Result RatesSize Refusal) (x y : List ℕ)
    → EpochsRated count records lent a x → EpochsRated count records lent b y → (a ≡ b) × (x ≡ y)
epochs_rated_once count records lent a b x y p q =
    (rates_answer_one a b (p.answer_is ∙ sym q.answer_is), p.exit_is ∙ sym q.exit_is)

-- a refusal changes nothing in the lent room
pub rates_undone : (count : ℕ) (records lent exit : List ℕ) (refusal : Refusal) → EpochsRated count records lent (Err refusal) exit → exit ≡ lent
unfolding rates_after
rates_undone count records lent exit refusal p = p.exit_is ∙ refused_leaves refusal _ lent p.answer_is

-- an epoch's rate is known by what was given
pub epoch_rate_one : (a b : EpochRate) → epoch_rate_of a ≡ epoch_rate_of b → a ≡ b
epoch_rate_one Silent Silent e = refl
epoch_rate_one Silent (Carries y) e = let z : ◌≡◌ {A = ℕ} 0 1 = cc in absurd (omega arith)
epoch_rate_one (Carries x) Silent e = let z : ◌≡◌ {A = ℕ} 0 1 = cc in absurd (omega arith)
epoch_rate_one (Carries x) (Carries y) e =
    let f : x.n ≡ y.n = cc in
    let g : x.d ≡ y.d = cc in
    λ i. Carries (record { n = f i; d = g i })
