-- `timetable::assigned::Assigned::next` meets its contract: by the room that is left, and then what the chain picks: the keys are in the
-- deadlines' order, and of two with one deadline the lower number stays. Assumes nothing.
use Rattle.std.proofs.Common.{arith, refl, rules, tests}
use native.Mathlib.Nat.{sub-zero}
use borrow.Author.Tests.{lt-ltb, le-ltb}
use Rattle.std.proofs.lemmas.Iterator.{YieldsList-from_range}
use Rattle.std.proofs.lemmas.Iterator.Consumers.{YieldsList-from_filter, YieldsList-at}
use Rattle.packets.specs.Records.{deadline_of}
use Rattle.policy.specs.Windows.{choose}
use Rattle.timetable.specs.Steps.{among, number_of, next_of}
use Rattle.timetable.proofs.Picking.{picks_earliest}
use Rattle.timetable.proofs.assigned.Assigned.next.Goals as goal

pub returns-then-full-x-clause-choice : goal.returns-then-full-x-clause-choice
unfolding next_of choose number_of
returns-then-full-x-clause-choice c = rw (le-ltb c.args.x c.args.full c.if-full-x.true) refl

pub returns-clause-choice : goal.returns-clause-choice
unfolding next_of choose among
returns-clause-choice c =
    rw (lt-ltb c.args.x c.args.full c.if-full-x.false)
    (picks_earliest _ _ _ (deadline_of c.args.self.now.packets.records.now) _ (λ x k q h. search rules)
    -- one deadline: the lower number
    (λ p x k l a e h i. grind arith)
    -- two deadlines: the earlier
    (λ p x k l e h i. grind arith) c.filter.result c.min_by_key.result _ c.min_by_key.ensures.ran
    (YieldsList-from_filter _ (λ i. among c.args.self.now.packets.records.now c.args.self.now.rates.now c.args.epoch c.args.unsent.now i) (YieldsList-at c.filter.ensures.source (YieldsList-from_range 0 c.args.self.now.packets.count _ refl (sub-zero _))) c.filter.ensures.closure (λ x r q k. search (rules, tests))))
