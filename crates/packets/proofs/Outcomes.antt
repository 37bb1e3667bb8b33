-- Laws of outcomes: tests one after the other, what a refusal leaves, and a turn over tests in order. Assumes nothing.
use Prim.Native.Nat.{ℕ, zero, suc, ◌+◌, ◌-◌, ◌<◌, ◌≤◌}
use mathlib.Core.Path.{◌≡◌, refl, sym, ap, ap₂, ◌∙◌}
use mathlib.Core.List.{List, []}
use mathlib.Core.Bool.{Bool, true, false}
use native.Mathlib.Omega.{arith}
use native.Mathlib.Nat.{sub-zero}
use native.Mathlib.Numerals.{add-one}
use native.Mathlib.Decide.{dec_le}
use lib.Dec.{ltb}
use borrow.Author.Tests.{lt-ltb, le-ltb}
use Rattle.packets.specs.Outcome.{Outcome, gives, refuses, ◌when◌else◌, ◌then◌, ◌given◌else◌, in_order, number_of, place_of, refusal_of}
use Rattle.packets.specs.declared.refusal.Refusal.{Refusal}
use Rattle.packets.specs.declared.refusal.Refusal.TheVariants.{NoRoom}

-- ---- one test after another

-- an outcome that gives values is no refusal that a test chose
pub when_gives : {refused rest : Outcome} {values : List ℕ} (n p : ℕ) (test : Bool) → refused ≡ refuses n p → (refused when test else rest) ≡ gives values → (test ≡ false) × (rest ≡ gives values)
unfolding ◌when◌else◌
when_gives n p true e h = let z : ◌≡◌ {A = ℕ} 0 1 = cc in absurd (omega arith)
when_gives n p false e h = (refl, h)

-- tests one after the other give values only where each does
pub then_gives : (first next : Outcome) {values : List ℕ} → (first then next) ≡ gives values
    → (own : List ℕ) × (first ≡ gives own) × (next ≡ gives values)
unfolding ◌then◌
then_gives (gives own) next h = (own, refl, h)
then_gives (refuses n p) next h = let z : ◌≡◌ {A = ℕ} 0 1 = cc in absurd (omega arith)

-- ---- what a refusal leaves

-- a refusal stands, whatever is tested after it
pub refusal_stands : (refusal : Refusal) (next : Outcome) → (refusal_of refusal then next) ≡ refusal_of refusal
unfolding ◌then◌
refusal_stands refusal next = refl

-- what a call leaves where its tests refuse, and where they give values
pub refused_leaves : {A : Type 0} {tests : Outcome} (refusal : Refusal) (accepted refused : A) → refusal_of refusal ≡ tests → (accepted given tests else refused) ≡ refused
unfolding ◌given◌else◌
refused_leaves refusal accepted refused e = rw (← e)

pub given_leaves : {A : Type 0} {tests : Outcome} {values : List ℕ} (accepted refused : A) → gives values ≡ tests → (accepted given tests else refused) ≡ accepted
unfolding ◌given◌else◌
given_leaves accepted refused e = rw (← e)

-- tests that pass leave what comes after them
pub passed_then : {tests : Outcome} (next : Outcome) → gives [] ≡ tests → (tests then next) ≡ next
unfolding ◌then◌
passed_then next e = rw (← e)

-- tests that refuse make the whole refuse
pub refused_then : {tests : Outcome} (refusal : Refusal) (next : Outcome) → refusal_of refusal ≡ tests → (tests then next) ≡ refusal_of refusal
refused_then refusal next e = rw (← e) (refusal_stands refusal next)

-- a refusal is told, and leaves what was lent as it was
pub refused_all : {A : Type 0} {tests : Outcome} (refusal : Refusal) (accepted lent : A) → refusal_of refusal ≡ tests
    → (refusal_of refusal ≡ tests) × (lent ≡ (accepted given tests else lent))
refused_all refusal accepted lent e = (e, sym (refused_leaves refusal accepted lent e))

-- after tests that pass, the room decides: 8 where it is short, and the values where it is not
pub no_room : {tests : Outcome} (values : List ℕ) (need room : ℕ) → gives [] ≡ tests → room < need
    → refusal_of NoRoom ≡ (tests then refuses 8 0 when ltb room need else gives values)
unfolding ◌when◌else◌
no_room values need room e short = rw (passed_then _ e) (simp (lt-ltb _ _ short))

pub has_room : {tests : Outcome} (values : List ℕ) (need room : ℕ) → gives [] ≡ tests → need ≤ room
    → gives values ≡ (tests then refuses 8 0 when ltb room need else gives values)
unfolding ◌when◌else◌
has_room values need room e held = rw (passed_then _ e) (simp (le-ltb _ _ held))

-- a refusal that has no place is told by its number
pub placeless : (refusal named : Refusal) → refusal ≡ named → place_of named ≡ 0 → refusal_of refusal ≡ refuses (number_of named) 0
placeless refusal named same none = rw (same, none)

-- what comes after three tests stands behind the last of them
pub three_then : (n p m q k r : ℕ) (a b d : Bool) (next : Outcome)
    → (refuses n p when a else refuses m q when b else refuses k r when d else next) ≡ ((refuses n p when a else refuses m q when b else refuses k r when d else gives []) then next)
unfolding ◌when◌else◌ ◌then◌
three_then n p m q k r true b d next = refl
three_then n p m q k r false true d next = refl
three_then n p m q k r false false true next = refl
three_then n p m q k r false false false next = refl

-- ---- tests in order

-- the tests from number i on are that of number i and then those from the next on
in_order_next : (test : ℕ → Outcome) (count i : ℕ) → i < count → in_order test (count - i) i ≡ (test i then in_order test (count - (i + 1)) (i + 1))
unfolding in_order
in_order_next test count i h =
    let e : count - i ≡ suc (count - suc i) = omega arith in
    rw (e, add-one)

-- the tests from number 0 on are all of them
pub in_order_first : (test : ℕ → Outcome) (count : ℕ) → in_order test (count - 0) 0 ≡ in_order test count 0
in_order_first test count = rw sub-zero

-- past the last no test is left
pub in_order_last : (test : ℕ → Outcome) (count i : ℕ) → count ≤ i → in_order test (count - i) i ≡ in_order test count 0 → gives [] ≡ in_order test count 0
unfolding in_order
in_order_last test count i h all = let e : count - i ≡ 0 = omega arith in rw e at all

-- One turn over tests in order: those from number i on come to what all come to.
module _ (test : ℕ → Outcome) (count i : ℕ) (within : i < count) (all : in_order test (count - i) i ≡ in_order test count 0) where
  pub turn_passes : gives [] ≡ test i → in_order test (count - (i + 1)) (i + 1) ≡ in_order test count 0
  turn_passes e = sym (passed_then _ e) ∙ sym (in_order_next test count i within) ∙ all

  pub turn_refuses : (refusal : Refusal) → refusal_of refusal ≡ test i → refusal_of refusal ≡ in_order test count 0
  turn_refuses refusal e = sym (refused_then refusal _ e) ∙ sym (in_order_next test count i within) ∙ all

-- tests that agree come to the same
pub in_order_same : (f g : ℕ → Outcome) (n i : ℕ) → ((k : ℕ) → i ≤ k → k < i + n → f k ≡ g k) → in_order f n i ≡ in_order g n i
unfolding in_order
in_order_same f g zero i same = refl
in_order_same f g (suc n) i same = ap₂ ◌then◌ (same i (omega arith) (omega arith)) (in_order_same f g n (suc i) (λ k lo hi. same k (omega arith) (omega arith)))

-- where each passes, all pass
pub in_order_pass : (test : ℕ → Outcome) (n i : ℕ) → ((k : ℕ) → i ≤ k → k < i + n → test k ≡ gives []) → in_order test n i ≡ gives []
unfolding in_order
in_order_pass test zero i each = refl
in_order_pass test (suc n) i each =
    passed_then _ (sym (each i (omega arith) (omega arith))) ∙ in_order_pass test n (suc i) (λ k lo hi. each k (omega arith) (omega arith))

-- and where all give values, each does
pub in_order_each : (test : ℕ → Outcome) (n i : ℕ) (values : List ℕ) → in_order test n i ≡ gives values
    → (k : ℕ) → i ≤ k → k < i + n → (own : List ℕ) × (test k ≡ gives own)
unfolding in_order
in_order_each test zero i values h k lo hi = absurd (omega arith)
in_order_each test (suc n) i values h k lo hi =
    let a = then_gives (test i) _ h in
    go a.0 a.1 (in_order_each test n (suc i) values a.2 k) (dec_le (suc i) k)
  where
    go : (own : List ℕ) → test i ≡ gives own → (suc i ≤ k → k < suc i + n → (more : List ℕ) × (test k ≡ gives more)) → Dec (suc i ≤ k) → (more : List ℕ) × (test k ≡ gives more)
    go own one later (yes above) = later above (omega arith)
    go own one later (no not_above) = let e : k ≡ i = omega arith in (own, rw e one)

-- and none has values of its own
pub in_order_none : (test : ℕ → Outcome) (n i : ℕ) {values : List ℕ} → in_order test n i ≡ gives values → in_order test n i ≡ gives []
unfolding in_order
in_order_none test n i h = h ∙ ap gives (none n i h)
  where
    none : (n i : ℕ) {values : List ℕ} → in_order test n i ≡ gives values → values ≡ []
    none zero i h = cc
    none (suc n) i h = none n (suc i) (then_gives (test i) _ h).2
