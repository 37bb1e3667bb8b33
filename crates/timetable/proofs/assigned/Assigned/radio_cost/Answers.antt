-- `timetable::assigned::Assigned::radio_cost` meets its contract: what the chain adds up is the cost of the definitions, and that fits. Assumes nothing.
use Rattle.std.proofs.Common.{◌∙◌, refl, rules}
use native.Mathlib.Nat.{sub-zero}
use Rattle.std.proofs.lemmas.Iterator.{YieldsList-from_map, YieldsList-from_range}
use Rattle.std.proofs.lemmas.Iterator.Consumers.{YieldsList-at, fits_from_yields_list, sum_from_yields_List}
use Rattle.timetable.specs.Steps.{cost_at}
use Rattle.timetable.proofs.Assigning.{costs_are, costs_fit}
use Rattle.timetable.proofs.assigned.Assigned.radio_cost.Goals as goal

pub sum-requires-clause-fits : goal.sum-requires-clause-fits
sum-requires-clause-fits c =
    fits_from_yields_list c.map.result _
    (YieldsList-from_map _ (λ i. cost_at c.args.self.now.packets.count c.args.self.now.packets.records.now i) (YieldsList-at c.map.ensures.source (YieldsList-from_range 0 c.args.self.now.packets.count _ refl (sub-zero _))) c.map.ensures.closure (λ x r q k. search rules))
    (costs_fit _ _ c.args.self.now.packets.accepted)

pub returns : goal.returns
returns c =
    sum_from_yields_List c.map.result _ c.sum.ensures.ran
    (YieldsList-from_map _ (λ i. cost_at c.args.self.now.packets.count c.args.self.now.packets.records.now i) (YieldsList-at c.map.ensures.source (YieldsList-from_range 0 c.args.self.now.packets.count _ refl (sub-zero _))) c.map.ensures.closure (λ x r q k. search rules)) ∙
    costs_are _ _
