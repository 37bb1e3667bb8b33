-- What is promised of the rounds of an accepted list: the pick of every round in one sentence, that the rounds are a run of densest intervals with all that
-- follows (`Facts`), that every packet has a rate in the end, and the bound on the rounds. Assumes nothing.
use Prim.Native.Nat.{ℕ, ◌<◌, ◌≤◌}
use mathlib.Core.List.{List}
use mathlib.Core.Path.{◌≡◌}
use mathlib.Core.Bool.{true}
use mathlib.Core.Logic.{◌↔◌}
use native.Mathlib.Nat.{le_trans}
use Rattle.packets.specs.Limits.{most_packets}
use Rattle.packets.specs.Records.{Accepted}
use Rattle.policy.specs.Windows.{rate, unassigned, inside}
use Rattle.policy.specs.Points.{packets_of}
use Rattle.policy.specs.Rounds.{Day, load, between, pick, day_of, outcome_of, after}
use Rattle.policy.specs.Runs.{Run, Best}
use Rattle.policy.proofs.Left.{left_some}
use Rattle.policy.proofs.Facts.{Facts, assigned}
use Rattle.policy.proofs.Rule.{pick_best, best_pick, best_one, packet_loads}
use Rattle.policy.proofs.Ending.{after_runs, after_facts, all_finished, rounds_few}
use Rattle.policy.proofs.Accepting.{proper}

module _ (count : ℕ) (records : List ℕ) (accepted : Accepted count records) where
  abbrev day : Day
  day = day_of count records

  -- ## Every round

  -- the facts hold after any number of rounds: `positive` says that what holds an unassigned packet has unassigned length above zero
  pub round_facts : (k : ℕ) → Facts day (after day k)
  round_facts k = after_facts day (proper count records accepted) k

  -- an interval has load exactly where it holds an unassigned packet
  pub load_holds : (k s e : ℕ)
      → (0 < load day (after day k) s e)
      ↔ ((i : ℕ) × (i < day.packets.count) × (unassigned ((after day k).packet i) ≡ true) × (inside day.packets s e i ≡ true))
  unfolding load
  load_holds k s e = (
    left_some day.packets (after day k).packet s e,
    λ x. packet_loads day (proper count records accepted) (after day k) s e x.0 x.1 x.2 x.3,
  )

  -- the pick of a round is the data interval that holds an unassigned packet and that none beats
  pub round_pick : (k s e : ℕ) → (pick day (after day k) ≡ between s e) ↔ Best day (after day k) s e
  round_pick k s e = (pick_best day (after day k) (round_facts k).positive s e, best_pick day (after day k) (round_facts k).positive s e)

  -- and only one interval is so
  pub round_pick_one : (k s e s' e' : ℕ) → Best day (after day k) s e → Best day (after day k) s' e' → (s ≡ s') × (e ≡ e')
  round_pick_one k = best_one day (after day k) (round_facts k).positive

  -- ## The end

  -- the rounds of document 01 are a run: each takes a densest interval
  pub outcome_run : Run (day_of count records) (outcome_of count records)
  unfolding outcome_of
  outcome_run = after_runs (day_of count records) (proper count records accepted) count

  -- not slower, priced alike, held inside, lowest terms and the bounds, of the rates of the list
  pub outcome_facts : Facts (day_of count records) (outcome_of count records)
  unfolding outcome_of
  outcome_facts = after_facts (day_of count records) (proper count records accepted) count

  -- every packet has a rate
  pub outcome_finished : (i : ℕ) → i < count → (n : ℕ) × ((d : ℕ) × ((outcome_of count records).packet i ≡ rate n d))
  unfolding outcome_of day_of packets_of
  outcome_finished i h =
      assigned ((after (day_of count records) count).packet i)
      (all_finished (day_of count records) (proper count records accepted) i h)

  -- rounds are at most the packets, and so at most 64
  pub outcome_rounds : ((outcome_of count records).rounds ≤ count) × ((outcome_of count records).rounds ≤ most_packets)
  unfolding outcome_of
  outcome_rounds = (few, le_trans few accepted.few)
    where
      few : (after (day_of count records) count).rounds ≤ count
      few = unfold day_of packets_of in rounds_few (day_of count records) (proper count records accepted) count
