-- The whole timetable in code: what the rates give each epoch, the sheet before the first epoch, and the sheet after the last. Assumes nothing.
use Prim.Native.Nat.{ℕ, suc, pred, ◌+◌, ◌-◌, ◌<◌}
use mathlib.Core.Path.{◌≡◌, refl, sym, ap, ◌∙◌}
use mathlib.Core.List.{List}
use native.Mathlib.Omega.{arith}
use native.Mathlib.Numerals.{add-one}
use lib.ListN.{length, get_or}
use Rattle.std.specs.Prelude.{Option, Some, None}
use Rattle.fractions.specs.declared.Rate.{Rate}
use Rattle.packets.specs.Records.{Accepted}
use Rattle.policy.specs.declared.rates.Rates.{Rates}
use Rattle.policy.specs.Windows.{none, rate}
use Rattle.policy.specs.Points.{epochs_of, points_of}
use Rattle.policy.specs.Rounds.{day_of, outcome_of}
use Rattle.policy.specs.Answer.{given_of, given_at}
use Rattle.policy.specs.Steps.{Rated}
use Rattle.policy.proofs.Turning.{point_at, points_some}
use Rattle.timetable.specs.declared.entry.Entry as Made
use Rattle.timetable.specs.Entries.{entries_of, sheet_at}
use Rattle.timetable.specs.Costs.{cost_of}
use Rattle.timetable.specs.Right.{most_entries}
use Rattle.timetable.specs.Steps.{Carrying, Planned, Sheeted, UnitsAtFirst, units_at}
use Rattle.timetable.proofs.Lists.{entries_are}

-- where there is no rate, nothing was given
no_rate : (has : Option Rate) → ((x : Rate) → has ≡ Some x → ⊥) → given_of has ≡ none
no_rate None h = refl
no_rate (Some x) h = absurd (h x refl)

module _ (count : ℕ) (records : List ℕ) (accepted : Accepted count records) (rates : Rates) (r : Rated count records rates) where
  pub some_point : 0 < rates.points.count
  some_point = omega (arith, points_some count records accepted, r.n_is)

  epochs_number : (day_of count records).epochs.count ≡ rates.points.count - 1
  epochs_number = number ∙ omega (arith, r.n_is)
    where
      number : (day_of count records).epochs.count ≡ pred (length (points_of count records))
      number = unfold day_of epochs_of in refl

  -- epoch k, by its points and its rate
  pub carrying : (k : ℕ) (carried : Rate) → k + 1 < rates.points.count → rate carried.n carried.d ≡ given_at rates.epochs k
      → Carrying count records (record { number = k; start = get_or rates.points.at k 0; end = get_or rates.points.at (k + 1) 0; rate = carried })
  carrying k carried h e =
      record {
        k_is = omega (arith, epochs_number);
        start_is = unfold day_of epochs_of in point_at count records accepted rates.points.count rates.points.at r.points_are r.n_is k (omega arith);
        end_is = ap (λ (j : ℕ). get_or rates.points.at j 0) (add-one k) ∙ ends;
        given_is = sym (e ∙ r.epochs_are k (omega arith));
      }
    where
      ends : get_or rates.points.at (suc k) 0 ≡ (day_of count records).epochs.till k
      ends = unfold day_of epochs_of in point_at count records accepted rates.points.count rates.points.at r.points_are r.n_is (suc k) (omega arith)

  pub silent_is : (k : ℕ) → k + 1 < rates.points.count → none ≡ given_at rates.epochs k → (outcome_of count records).epoch k ≡ none
  silent_is k h n = sym (n ∙ r.epochs_are k (omega arith))

  -- before the first epoch
  pub making_first : (unsent : List ℕ) (entries : List Made.Entry) → UnitsAtFirst count records unsent → length entries ≡ most_entries
      → Sheeted count (sheet_at (day_of count records) (outcome_of count records) 0) unsent 0 entries
  making_first unsent entries u l =
      unfold sheet_at units_at in
      record {
        unsent_long = u.long;
        unsent_is = u.is;
        entries_long = l;
        n_is = refl;
        entries_are = refl;
      }

  -- after the last
  pub making_last : (unsent : List ℕ) (entries : List Made.Entry) (n k cost : ℕ)
      → Sheeted count (sheet_at (day_of count records) (outcome_of count records) k) unsent n entries → k ≡ rates.points.count - 1 → cost ≡ cost_of count records
      → Planned count records entries (record { rounds = rates.rounds; entries = n; cost = cost })
  making_last unsent entries n k cost u e c =
      record {
        entries_long = u.entries_long;
        entries_are = u.entries_are ∙ last;
        count_is = u.n_is ∙ ap length last;
        rounds_are = r.rounds_are;
        cost_is = c;
      }
    where
      last : (sheet_at (day_of count records) (outcome_of count records) k).entries ≡ entries_of count records
      last = ap (λ (j : ℕ). (sheet_at (day_of count records) (outcome_of count records) j).entries) (e ∙ sym epochs_number) ∙ entries_are count records accepted
