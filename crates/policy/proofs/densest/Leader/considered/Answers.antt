-- `policy::densest::Leader::considered` meets its contract: each return goes by the tests that led there. Assumes nothing.
use Rattle.std.proofs.Common.{◌∙◌, ap, sym}
use Rattle.policy.specs.Steps.{leader_ahead}
use Rattle.policy.proofs.Sweeping.{unmarked_loses, empty_loses, first_leads, ahead_leads, behind_loses}
use Rattle.policy.proofs.densest.Leader.considered.Goals as goal
use Rattle.policy.proofs.densest.Leader.considered.Goals.{then-not-last-via-then-not-last, then-not-last-via-else-not-last+then-self-eq0}

pub returns-then-not-last : goal.returns-then-not-last
returns-then-not-last c =
    elim c.then-not-last.branch [
      | then-not-last-via-then-not-last w ↦ unmarked_loses _ _ _ w.if-not-last.true
      | then-not-last-via-else-not-last+then-self-eq0 w ↦ empty_loses _ _ _ w.if-self-eq0.true
    ]

pub returns-in-Some : goal.returns-in-Some
returns-in-Some c =
    rw c.in-Some.is
    (behind_loses _ _ _ c.if-not-last.false c.if-self-eq0.false (ap (leader_ahead _) (sym c.in-Some.leader-is) ∙ sym c.if-not-comes_before.ensures))

pub returns-in_default : goal.returns-in_default
returns-in_default c =
    rw c.in-Some.is
    (ahead_leads _ _ _ c.if-not-last.false c.if-self-eq0.false (ap (leader_ahead _) (sym c.in-Some.leader-is) ∙ sym c.if-not-comes_before.ensures))

pub returns-in_default-2 : goal.returns-in_default-2
returns-in_default-2 c = rw c.in_default.is (first_leads _ _ c.if-not-last.false c.if-self-eq0.false)
