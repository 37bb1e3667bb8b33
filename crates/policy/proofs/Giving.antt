-- What a round's gift leaves, packet by packet and epoch by epoch. Assumes nothing.
use Prim.Native.Nat.{ℕ, ◌≤◌}
use mathlib.Core.Path.{◌≡◌, refl, ap, ◌∙◌}
use mathlib.Core.Bool.{Bool, true, false, not}
use native.Mathlib.Omega.{arith}
use Rattle.std.specs.Prelude.{Option, Some, None, is_some}
use Rattle.fractions.specs.declared.Rate.{Rate}
use Rattle.policy.specs.declared.spans.Span.{Span}
use Rattle.policy.specs.Windows.{unassigned, choose}
use Rattle.policy.specs.Answer.{given_of}
use Rattle.policy.specs.Steps.{left_over, lies_inside, after_gift}
use Rattle.policy.proofs.Left.{only_if_most}

-- what is left of a weight is at most the weight
pub left_over_most : (had : Option Rate) (weight left most : ℕ) → left ≡ left_over had weight → weight ≤ most → left ≤ most
unfolding left_over
left_over_most had weight left most e h = omega (arith, e, h, only_if_most (unassigned (given_of had)) weight)

module _ (span : Span) (s e : ℕ) (rate : Rate) where
  -- the rate is given where there was none
  pub gift_taken : (had : Option Rate) {free : Bool} → is_some had ≡ not free → free ≡ true → lies_inside span s e ≡ true → Some rate ≡ after_gift span had s e rate
  unfolding after_gift unassigned choose
  gift_taken None n t i = rw i refl
  gift_taken (Some x) n t i = let z : true ≡ false = n ∙ ap not t in let y : ◌≡◌ {A = ℕ} 0 1 = cc in absurd (omega arith)

  -- what lies outside stays, and so does what had a rate
  pub gift_outside : (had : Option Rate) → lies_inside span s e ≡ false → had ≡ after_gift span had s e rate
  unfolding after_gift unassigned choose
  gift_outside None i = rw i refl
  gift_outside (Some x) i = refl

  pub gift_held : (had : Option Rate) {free : Bool} → is_some had ≡ not free → free ≡ false → had ≡ after_gift span had s e rate
  unfolding after_gift unassigned choose
  gift_held None n t = let z : false ≡ true = n ∙ ap not t in let y : ◌≡◌ {A = ℕ} 0 1 = cc in absurd (omega arith)
  gift_held (Some x) n t = refl
