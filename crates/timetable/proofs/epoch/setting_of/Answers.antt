-- `timetable::epoch::setting_of` meets its contract. Assumes nothing.
use Prim.Native.Nat.{ℕ, ◌+◌, ◌/◌}
use mathlib.Core.Path.{ap}
use native.Mathlib.Omega.{arith}
use Rattle.timetable.specs.Setting.{setting}
use Rattle.timetable.proofs.epoch.setting_of.Goals as goal

pub returns : goal.returns
unfolding setting
returns c = ap (λ (x : ℕ). (c.args.rate.n + x) / c.args.rate.d) (omega arith)
