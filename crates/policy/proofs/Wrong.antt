-- Answers of wrong programs that the promise does not admit, each refuted on one worked list. Assumes nothing.
use Prim.Native.Nat.{ℕ}
use mathlib.Core.Path.{◌≡◌, refl, sym, ap, ◌∙◌}
use mathlib.Core.List.{List, [], ◌∷◌, ◌++◌}
use native.Mathlib.Omega.{arith}
use lib.ListN.{length, get_or, drop}
use Rattle.packets.specs.declared.refusal.Refusal.{Refusal}
use Rattle.packets.specs.Outcome.{gives}
use Rattle.packets.proofs.Answers.{refusal_gives}
use Rattle.packets.proofs.Outcomes.{given_leaves}
use Rattle.std.specs.Prelude.{Result, Ok, Err}
use Rattle.policy.specs.declared.RatesSize.{RatesSize}
use Rattle.policy.specs.Answer.{rates_of, rates_outcome, rates_after, overwritten, EpochsRated}
use Rattle.policy.proofs.Worked.{Case, Holds, A, D, Tied, Close, worked}

-- the rows that are shown at the end of a worked call
module _ (x : Case) (holds : Holds x) (lent : List ℕ) (room : length lent ≡ x.room) (answer : Result RatesSize Refusal) (exit : List ℕ) (p : EpochsRated x.count x.records lent answer exit) where
  gave : (values : List ℕ) → x.answer ≡ gives values → gives values ≡ rates_outcome x.count x.records (length lent)
  gave values e = sym e ∙ sym holds.0 ∙ ap (rates_outcome x.count x.records) (sym room)

  shows : (values : List ℕ) → x.answer ≡ gives values → exit ≡ x.rows ++ drop (length x.rows) lent
  unfolding rates_after overwritten
  shows values e =
      p.exit_is ∙ given_leaves (overwritten (rates_of x.count x.records) lent) lent (gave values e) ∙
      ap (λ (rows : List ℕ). rows ++ drop (length rows) lent) holds.1

-- a planner that compares whole numbers: 25,000/6 and 4,166 bytes per second would be one density, and both packets one round
not_whole_numbers : (lent exit : List ℕ) → length lent ≡ 6 → EpochsRated 2 Close.records lent (Ok (record { epochs = 2; rounds = 1 })) exit → ⊥
not_whole_numbers lent exit room p =
    let e : gives (2 ∷ 1 ∷ []) ≡ gives (2 ∷ 2 ∷ []) = p.answer_is ∙ sym (gave Close worked.3 lent room (Ok (record { epochs = 2; rounds = 1 })) exit p (2 ∷ 2 ∷ []) refl) in
    let z : ◌≡◌ {A = ℕ} 1 2 = cc in
    omega arith

-- a planner that gives a tie to the later start: two rounds
not_later_start : (lent exit : List ℕ) → length lent ≡ 6 → EpochsRated 2 Tied.records lent (Ok (record { epochs = 2; rounds = 2 })) exit → ⊥
not_later_start lent exit room p =
    let e : gives (2 ∷ 2 ∷ []) ≡ gives (2 ∷ 1 ∷ []) = p.answer_is ∙ sym (gave Tied worked.2 lent room (Ok (record { epochs = 2; rounds = 2 })) exit p (2 ∷ 1 ∷ []) refl) in
    let z : ◌≡◌ {A = ℕ} 2 1 = cc in
    omega arith

-- a planner that takes deadline less arrival as the length in every round: packet 0 of list A, and its first epoch, would have 30/10 bytes per second
not_first_length : (lent : List ℕ) (answer : Result RatesSize Refusal) (exit : List ℕ) → length lent ≡ 15 → EpochsRated 3 A.records lent answer exit → get_or exit 1 0 ≡ 3 → ⊥
not_first_length lent answer exit room p h =
    let e = ap (λ (l : List ℕ). get_or l 1 0) (shows A worked.0 lent room answer exit p (5 ∷ 3 ∷ []) refl) in
    omega (arith, e, h)

-- a planner that counts every packet that touches an interval: list A from 2 to 6 seconds would have 70 bytes in 4 seconds
not_touching : (lent : List ℕ) (answer : Result RatesSize Refusal) (exit : List ℕ) → length lent ≡ 15 → EpochsRated 3 A.records lent answer exit → get_or exit 4 0 ≡ 35 → ⊥
not_touching lent answer exit room p h =
    let e = ap (λ (l : List ℕ). get_or l 4 0) (shows A worked.0 lent room answer exit p (5 ∷ 3 ∷ []) refl) in
    omega (arith, e, h)

-- a planner that rounds rates up: the first epoch of list D would have 1 byte per second, and not 1/5
not_rounded_up : (lent : List ℕ) (answer : Result RatesSize Refusal) (exit : List ℕ) → length lent ≡ 6 → EpochsRated 2 D.records lent answer exit → get_or exit 2 0 ≡ 1 → ⊥
not_rounded_up lent answer exit room p h =
    let e = ap (λ (l : List ℕ). get_or l 2 0) (shows D worked.1 lent room answer exit p (2 ∷ 2 ∷ []) refl) in
    omega (arith, e, h)

-- a planner that refuses list A
not_refused : (lent exit : List ℕ) (refusal : Refusal) → length lent ≡ 15 → EpochsRated 3 A.records lent (Err refusal) exit → ⊥
not_refused lent exit refusal room p =
    refusal_gives refusal (5 ∷ 3 ∷ []) (p.answer_is ∙ sym (gave A worked.0 lent room (Err refusal) exit p (5 ∷ 3 ∷ []) refl))

-- a planner that writes nothing
not_nothing : (lent : List ℕ) (answer : Result RatesSize Refusal) → length lent ≡ 15 → get_or lent 1 0 ≡ 0 → EpochsRated 3 A.records lent answer lent → ⊥
not_nothing lent answer room h p =
    let e = ap (λ (l : List ℕ). get_or l 1 0) (shows A worked.0 lent room answer lent p (5 ∷ 3 ∷ []) refl) in
    omega (arith, e, h)
