-- The pick in one sentence, and any run of rounds in which each takes some densest interval (document 01, "Epochs and rates").
-- Document 01's rounds are one such run. Assumes nothing.
use Rattle.std.specs.Prelude.{ℕ, ◌*◌, ◌<◌, ◌≤◌, ◌≡◌, false}
use Rattle.policy.specs.Windows.{unassigned}
use Rattle.policy.specs.Rounds.{Day, Progress, at_first, load, len, beats, taken}

-- [s, e) goes from some packet's arrival to some packet's deadline
pub record DataInterval (day : Day) (s e : ℕ) : Type 0 where
  pub starter : ℕ
  pub starts : starter < day.packets.count
  pub start : day.packets.from starter ≡ s
  pub ender : ℕ
  pub ends : ender < day.packets.count
  pub end : day.packets.till ender ≡ e

-- [s, e) is a data interval that holds an unassigned packet, and so a byte of load
pub record Holding (day : Day) (done : Progress) (s e : ℕ) : Type 0 where
  pub data_interval : DataInterval day s e
  pub holds : 0 < load day done s e

-- the pick: no interval that holds an unassigned packet beats it
pub record Best (day : Day) (done : Progress) (s e : ℕ) : Type 0 where
  pub holding : Holding day done s e
  pub unbeaten : (s' e' : ℕ) → Holding day done s' e' → beats day done s' e' s e ≡ false

-- as dense as any that holds an unassigned packet
pub record Densest (day : Day) (done : Progress) (s e : ℕ) : Type 0 where
  pub holding : Holding day done s e
  pub densest : (s' e' : ℕ) → Holding day done s' e'
      → load day done s' e' * len day done s e ≤ load day done s e * len day done s' e'

-- what rounds that each take some densest interval come to
pub data Run (day : Day) : Progress → Type 0 where
  begin : Run day at_first
  next : {done : Progress} (s e : ℕ) → Run day done → Densest day done s e → Run day (taken day done s e)

-- no packet is unassigned
abbrev pub Finished : Day → Progress → Type 0
Finished day done = (i : ℕ) → i < day.packets.count → unassigned (done.packet i) ≡ false
