-- The setting R of a rate N/D is the smallest whole number of bytes per second that is not below it. All that is used of the rounding stands here.
-- Assumes nothing.
use Prim.Native.Nat.{ℕ, zero, suc, pred, ◌+◌, ◌*◌, ◌<◌, ◌≤◌}
use native.Mathlib.Omega.{arith}
use native.Mathlib.Decide.{dec_le}
use native.Mathlib.Nat.{mod-lt, div-add-mod', mul-le-mul_left, mul-le-mul_right, le_trans}
use Rattle.policy.proofs.Proper.{RateInRange}
use Rattle.timetable.specs.Setting.{most_rate, setting}

-- not below
pub setting_covers : (n d : ℕ) → 0 < d → n ≤ setting n d * d
unfolding setting
setting_covers n d h = omega (arith, div-add-mod' (n + pred d) d, mod-lt (n + pred d) h)

-- less than one byte per second above
pub setting_close : (n d : ℕ) → 0 < d → setting n d * d < n + d
unfolding setting
setting_close n d h = omega (arith, div-add-mod' (n + pred d) d)

pub setting_some : (n d : ℕ) → 0 < n → 0 < d → 0 < setting n d
setting_some n d p h = go (setting n d) (setting_covers n d h)
  where
    go : (x : ℕ) → n ≤ x * d → 0 < x
    go zero q = absurd (omega arith)
    go (suc x) q = omega arith

pub setting_most : (n d : ℕ) → RateInRange n d → setting n d ≤ most_rate
setting_most n d r = le_trans (go (dec_le (setting n d) n)) r.n_most
  where
    go : Dec (setting n d ≤ n) → setting n d ≤ n
    go (yes p) = p
    go (no p) =
        let above : n < setting n d = omega (arith, p) in
        absurd (omega (arith, setting_close n d r.d_some, mul-le-mul_right d above, mul-le-mul_left n r.d_some))
