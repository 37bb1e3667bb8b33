-- The bytes that a list takes are those that reading it does not hand back: none after a refusal, which hands back the whole input. Assumes nothing.
use Prim.Native.Nat.{ℕ, ◌-◌, ◌≤◌}
use mathlib.Core.Path.{◌≡◌, refl}
use mathlib.Core.List.{List, [], ◌∷◌}
use native.Mathlib.Omega.{arith}
use lib.ListN.{length, drop, length-drop}
use Rattle.packets.specs.Outcome.{Outcome, gives, refuses, ◌given◌else◌}
use Rattle.packets.specs.List.{list_bytes, count_on, read_outcome, rest_after}
use Rattle.packets.proofs.Lists.{read_readable}
use Rattle.downcrook_c.specs.Shown.{shown}

-- the part handed back is no longer than the input, and the difference is the number of bytes that judging shows
pub rest_taken : (bytes : List ℕ) (room refusal place count used : ℕ) → refusal ∷ place ∷ count ∷ used ∷ [] ≡ shown 2 (read_outcome bytes room)
    → (length (rest_after bytes room) ≤ length bytes) × (length bytes - length (rest_after bytes room) ≡ used)
unfolding rest_after ◌given◌else◌
rest_taken bytes room refusal place count used = go (read_outcome bytes room) refl
  where
    go : (o : Outcome) → read_outcome bytes room ≡ o → refusal ∷ place ∷ count ∷ used ∷ [] ≡ shown 2 o
        → (length (drop (list_bytes (count_on bytes)) bytes given o else bytes) ≤ length bytes)
        × (length bytes - length (drop (list_bytes (count_on bytes)) bytes given o else bytes) ≡ used)
    go (gives values) e numbers =
        let r = read_readable bytes room values e in
        let t = r.told in
        let u : used ≡ list_bytes (count_on bytes) = cc in
        let w = r.whole in
        let long = length-drop (list_bytes (count_on bytes)) bytes in
        (omega arith, omega arith)
    go (refuses number at) e numbers =
        let u : used ≡ 0 = cc in
        (omega arith, omega arith)
