-- `timetable::assigned::Assigned::is_sendable` meets its contract: each test in turn. Where all hold, each is asked for by what it compares. Assumes nothing.
use Rattle.std.proofs.Common.{◌∙◌, sym, ap}
use lib.Dec.{leb}
use Rattle.timetable.proofs.Choosing.{tests_pass, other_rate, arrives_later, due_earlier}
use Rattle.timetable.proofs.assigned.Assigned.is_sendable.Goals as goal
use Rattle.timetable.proofs.assigned.Assigned.is_sendable.Goals.{then-eq, else-eq, then-arrival-epoch, else-arrival-epoch}

pub returns-then-epoch-deadline : goal.returns-then-epoch-deadline
returns-then-epoch-deadline c =
    elim c.if-eq.branch [
      | then-eq w ↦ elim c.if-arrival-epoch.branch [
        | then-arrival-epoch v ↦
            tests_pass _ _ c.args.epoch c.args.unsent c.args.i (cc)
            (sym (ap (λ x. leb x c.args.epoch.start) w.arrival.ensures) ∙ sym w.value-is ∙ v.if-arrival-epoch.true)
            (sym (ap (leb c.args.epoch.end) v.deadline.ensures) ∙ sym v.value-is ∙ c.if-epoch-deadline.true)
        | else-arrival-epoch v ↦ cc
      ]
      | else-eq w ↦ elim c.if-arrival-epoch.branch [ then-arrival-epoch v ↦ cc | else-arrival-epoch v ↦ cc ]
    ]

pub returns-else-epoch-deadline : goal.returns-else-epoch-deadline
returns-else-epoch-deadline c =
    elim c.if-eq.branch [
      | then-eq w ↦ elim c.if-arrival-epoch.branch [
        | then-arrival-epoch v ↦ c.if-epoch-deadline.false ∙ due_earlier _ _ _ c.args.unsent _ (cc) (cc) (cc)
        | else-arrival-epoch v ↦ c.if-epoch-deadline.false ∙ arrives_later _ _ _ c.args.unsent _ (cc) (cc)
      ]
      | else-eq w ↦ c.if-epoch-deadline.false ∙ other_rate _ _ _ c.args.unsent _ (cc)
    ]
