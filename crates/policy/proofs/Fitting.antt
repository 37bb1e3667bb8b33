-- What is left along the row fits a sweep: bytes of one packet, and seconds of so many days. Assumes nothing.
use Prim.Native.Nat.{ℕ, ◌^◌, ◌<◌, ◌≤◌}
use mathlib.Core.List.{List}
use mathlib.Core.Path.{refl}
use native.Mathlib.Omega.{arith}
use lib.ListN.{get_or}
use Rattle.std.specs.Prelude.{Option, None, slice_index_or}
use Rattle.fractions.specs.declared.Rate.{Rate}
use Rattle.policy.specs.declared.densest.Left.{Left}
use Rattle.policy.specs.declared.setup.Setup.{Setup}
use Rattle.policy.specs.declared.spans.Spans.{Spans}
use Rattle.policy.specs.Ranges.{Ready, span_at}
use Rattle.policy.specs.Steps.{left_over, Passed, Remaining, SweepFits}
use Rattle.policy.proofs.Giving.{left_over_most}
use Rattle.policy.proofs.Sums.{sum_most}

-- what is left before a point is within so many days
passed_most : (epochs : Spans) (rates : List (Option Rate)) (passed : List ℕ) → epochs.count ≤ 127 → ((k : ℕ) → k < epochs.count → (span_at epochs.at k).weight ≤ 86400)
    → Passed epochs rates passed → (b : ℕ) → b ≤ epochs.count → get_or passed b 0 < 2 ^ 32
passed_most epochs rates passed few h p b q =
    omega (
      arith,
      p.is b q,
      sum_most b 86400 (λ k. left_over (slice_index_or rates k None) (span_at epochs.at k).weight)
          (λ k r. left_over_most (slice_index_or rates k None) (span_at epochs.at k).weight _ 86400 refl (h k (omega arith))),
    )

pub sweep_fits : (setup : Setup) → Ready setup.points setup.packets setup.epochs setup.row → (packets epochs : List (Option Rate)) (passed : List ℕ) (left : List Left)
    → Passed setup.epochs epochs passed → Remaining setup packets passed left → SweepFits setup left
sweep_fits setup r packets epochs passed left p l =
    record {
      bytes_most = λ j h. left_over_most _ _ _ 65535 (l.bytes_are j h) (r.bytes_most _ (r.packet_in j h));
      seconds_most = λ j h.
          rw (l.seconds_are j h)
          (passed_most setup.epochs epochs passed (omega (arith, r.epochs_are, setup.points.few)) r.seconds_most p _ (omega (arith, r.epochs_are, r.deadline_in j h)));
    }
