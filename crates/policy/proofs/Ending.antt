-- Document 01's rounds are a run in which each round takes a densest interval. Each assigns a packet, so as many rounds as packets leave none
-- unassigned. Assumes nothing.
use Prim.Native.Nat.{ℕ, zero, suc, ◌≤◌}
use mathlib.Core.Path.{◌≡◌, refl, sym, ap, subst}
use mathlib.Core.Bool.{Bool, true, false}
use mathlib.Core.Logic.{◌⊎◌, inl, inr}
use native.Mathlib.Omega.{arith}
use Rattle.policy.specs.Windows.{unassigned}
use Rattle.policy.specs.Rounds.{Day, Progress, at_first, load, Interval, nowhere, between, pick, give_rate, taken, round_of, round, after}
use Rattle.policy.specs.Runs.{Run, begin, next, Finished}
use Rattle.policy.proofs.Left.{not_both_ways, left_some}
use Rattle.policy.proofs.Proper.{Proper}
use Rattle.policy.proofs.Carry.{remaining_none}
use Rattle.policy.proofs.Facts.{Facts, facts}
use Rattle.policy.proofs.Rule.{pick_best, pick_none, best_densest, own_window}

module _ (day : Day) (proper : Proper day) where
  -- a round of the rule is a round of a run
  round_runs : (done : Progress) → Run day done → Run day (round day done)
  unfolding round
  round_runs done run = go (pick day done) refl
    where
      go : (x : Interval) → pick day done ≡ x → Run day (round_of day done x)
      go nowhere p = unfold round_of in run
      go (between s e) p =
          unfold round_of in
          next s e run (best_densest day done (facts day proper done run).positive s e (pick_best day done (facts day proper done run).positive s e p))

  -- the rounds are a run
  pub after_runs : (k : ℕ) → Run day (after day k)
  unfolding after
  after_runs zero = begin
  after_runs (suc k) = round_runs (after day k) (after_runs k)

  -- the facts hold after any number of rounds
  pub after_facts : (k : ℕ) → Facts day (after day k)
  after_facts k = facts day proper (after day k) (after_runs k)

  -- where no packet is unassigned there is no pick
  pub finished_no_pick : (done : Progress) → Run day done → Finished day done → pick day done ≡ nowhere
  unfolding load
  finished_no_pick done run end = go (pick day done) refl
    where
      go : (x : Interval) → pick day done ≡ x → x ≡ nowhere
      go nowhere p = refl
      go (between s e) p =
          let b = pick_best day done (facts day proper done run).positive s e p in
          let x = left_some day.packets done.packet s e b.holding.holds in
          absurd (not_both_ways x.2 (end x.0 x.1))

  -- a round is taken where a packet is unassigned
  no_pick_finished : (done : Progress) → Run day done → pick day done ≡ nowhere → Finished day done
  no_pick_finished done run p i h = go (unassigned (done.packet i)) refl
    where
      go : (b : Bool) → unassigned (done.packet i) ≡ b → b ≡ false
      go false q = refl
      go true q =
          let c = own_window day proper done i h q in
          absurd (pick_none day done (facts day proper done run).positive p _ _ c.data_interval c.holds)

  -- when no packet is unassigned, a round changes nothing
  pub finished_rests : (done : Progress) → Run day done → Finished day done → round day done ≡ done
  unfolding round round_of
  finished_rests done run end = rw (finished_no_pick done run end) refl

  -- k rounds were taken, or no packet is unassigned
  progress : (k : ℕ) → ((after day k).rounds ≡ k) ⊎ Finished day (after day k)
  unfolding after at_first
  progress zero = inl refl
  progress (suc k) = go (progress k)
    where
      here : Progress
      here = after day k

      turn : here.rounds ≡ k → (x : Interval) → pick day here ≡ x → ((round_of day here x).rounds ≡ suc k) ⊎ Finished day (round_of day here x)
      turn p nowhere q = unfold round_of in inr (no_pick_finished here (after_runs k) q)
      turn p (between s e) q = unfold round_of taken give_rate in inl (ap suc p)

      go : (here.rounds ≡ k) ⊎ Finished day here → ((round day here).rounds ≡ suc k) ⊎ Finished day (round day here)
      go (inl p) = unfold round in turn p (pick day here) refl
      go (inr p) = inr (subst (Finished day) (sym (finished_rests here (after_runs k) p)) p)

  -- every packet has a rate in the end
  pub all_finished : Finished day (after day day.packets.count)
  all_finished = go (progress day.packets.count)
    where
      go : ((after day day.packets.count).rounds ≡ day.packets.count) ⊎ Finished day (after day day.packets.count) → Finished day (after day day.packets.count)
      go (inl p) =
          remaining_none day.packets (after day day.packets.count).packet
          (omega (arith, (after_facts day.packets.count).counted, p))
      go (inr p) = p

  -- rounds are at most as many as packets
  pub rounds_few : (k : ℕ) → (after day k).rounds ≤ day.packets.count
  rounds_few k = omega (arith, (after_facts k).counted)
