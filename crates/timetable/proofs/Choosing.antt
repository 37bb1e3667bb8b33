-- The choice in code: the tests of a packet. Assumes nothing.
use Rattle.std.proofs.Common.{ℕ, ◌≡◌, List, Option, Some, None, true, false, get_or, refl}
use lib.Dec.{leb, ltb}
use Rattle.std.specs.Option.{option_eq}
use Rattle.fractions.specs.declared.Rate.{Rate}
use Rattle.fractions.specs.contracts.RatePartialEq.TheImpl as RateEq
use Rattle.packets.specs.Records.{arrival_of, deadline_of}
use Rattle.policy.specs.Carried.{carries}
use Rattle.timetable.specs.declared.epoch.Epoch.{Epoch}
use Rattle.policy.specs.Answer.{given_of}
use Rattle.timetable.specs.Steps.{sendable_at}

-- ## The tests of a packet

-- equal to a rate: carries it
same_rate : (has : Option Rate) (r : Rate) → option_eq RateEq.eq-value.it has (Some r) ≡ carries (given_of has) r.n r.d
unfolding carries
same_rate None r = refl
same_rate (Some q) r = refl

module _ (records : List ℕ) (rates : List (Option Rate)) (epoch : Epoch) (unsent i : ℕ) where
  -- each test but the last holds, and the last decides
  pub tests_pass : option_eq RateEq.eq-value.it (get_or rates i None) (Some epoch.rate) ≡ true → leb (arrival_of records i) epoch.start ≡ true
      → leb epoch.end (deadline_of records i) ≡ true → ltb 0 unsent ≡ sendable_at records rates epoch unsent i
  unfolding sendable_at
  tests_pass r a e = rw (← same_rate (get_or rates i None) epoch.rate, r, a, e) refl

  -- one test fails
  pub other_rate : option_eq RateEq.eq-value.it (get_or rates i None) (Some epoch.rate) ≡ false → false ≡ sendable_at records rates epoch unsent i
  unfolding sendable_at
  other_rate r = rw (← same_rate (get_or rates i None) epoch.rate, r) refl

  pub arrives_later : option_eq RateEq.eq-value.it (get_or rates i None) (Some epoch.rate) ≡ true → leb (arrival_of records i) epoch.start ≡ false
      → false ≡ sendable_at records rates epoch unsent i
  unfolding sendable_at
  arrives_later r a = rw (← same_rate (get_or rates i None) epoch.rate, r, a) refl

  pub due_earlier : option_eq RateEq.eq-value.it (get_or rates i None) (Some epoch.rate) ≡ true → leb (arrival_of records i) epoch.start ≡ true
      → leb epoch.end (deadline_of records i) ≡ false → false ≡ sendable_at records rates epoch unsent i
  unfolding sendable_at
  due_earlier r a e = rw (← same_rate (get_or rates i None) epoch.rate, r, a, e) refl
