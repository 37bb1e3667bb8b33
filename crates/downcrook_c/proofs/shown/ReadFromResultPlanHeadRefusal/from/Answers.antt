-- An answer is shown as 0, 0 and its values, in order. Assumes nothing.
use Rattle.std.proofs.Common.{refl}
use Rattle.downcrook_c.proofs.shown.ReadFromResultPlanHeadRefusal.from.Goals as goal

pub returns-in-Ok : goal.returns-in-Ok
returns-in-Ok c = let h = c.default.ensures in rw (c.in-Ok.is, h.0, h.1.0) refl
