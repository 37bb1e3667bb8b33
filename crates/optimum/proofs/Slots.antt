-- Epochs cut into slots, q in a second. A slot's rate is that of the epoch it lies in, and 0 where it lies in none; so the squares of the slots' rates add up
-- to q times the sum over epochs of the rate squared times the length. Rates are in any unit. Assumes nothing.
use Prim.Native.Nat.{ℕ, zero, suc, ◌+◌, ◌-◌, ◌*◌, ◌<◌, ◌≤◌, min}
use mathlib.Core.Path.{◌≡◌, refl, ap, ◌∙◌}
use mathlib.Core.Bool.{Bool, true, false, ◌&&◌}
use native.Mathlib.Omega.{arith}
use native.Mathlib.Decide.{dec_le, dec_lt}
use native.Mathlib.Nat.{le_trans, mul-le-mul_left}
use lib.Dec.{leb, ltb}
use borrow.Author.Tests.{le-leb, lt-leb, leb-true, lt-ltb, le-ltb, ltb-true}
use Rattle.policy.specs.Windows.{Windows, only_if, sum}
use Rattle.policy.proofs.Sums.{sum_at, sum_eq, sum_scale}
use Rattle.policy.proofs.Left.{both, both_true}
use Rattle.optimum.proofs.Sums.{sum_exchange, sum_square}

-- slot t lies in [from, till), counted in slots
abbrev pub lies : ℕ → ℕ → ℕ → Bool
lies from till t = leb from t && ltb t till

-- the rate of slot t, where epoch k has the rate `rate k`
unfoldable pub rate_at : Windows → ℕ → (ℕ → ℕ) → ℕ → ℕ
rate_at epochs q rate t = sum epochs.count (λ k. only_if (lies (q * epochs.from k) (q * epochs.till k) t) (rate k))

-- in an epoch the slot's rate is not below the epoch's
pub rate_at_lem : (epochs : Windows) (q : ℕ) (rate : ℕ → ℕ) (t k : ℕ) → k < epochs.count → q * epochs.from k ≤ t → t < q * epochs.till k
    → rate k ≤ rate_at epochs q rate t
unfolding rate_at
rate_at_lem epochs q rate t k h f g =
    le_trans (term (both_true (le-leb (q * epochs.from k) t f) (lt-ltb t (q * epochs.till k) g)))
    (sum_at epochs.count (λ k. only_if (lies (q * epochs.from k) (q * epochs.till k) t) (rate k)) k h)
  where
    term : {b : Bool} → b ≡ true → rate k ≤ only_if b (rate k)
    term e = rw e (unfold only_if in omega arith)

-- as many slots as lie in [from, till)
slots_in : (S from till x : ℕ) → sum S (λ t. only_if (lies from till t) x) ≡ (min S till - from) * x
unfolding sum
slots_in zero from till x = omega (arith, ap (λ (y : ℕ). y * x) none)
  where
    none : min 0 till - from ≡ 0
    none = omega arith
slots_in (suc S) from till x = go (dec_le from S) (dec_lt S till) (slots_in S from till x)
  where
    more : (old new : ℕ) → new ≡ old + 1 → sum S (λ t. only_if (lies from till t) x) ≡ old * x → sum S (λ t. only_if (lies from till t) x) + x ≡ new * x
    more old new e h = omega (arith, h, ap (λ (y : ℕ). y * x) e)

    same : (old new : ℕ) → new ≡ old → sum S (λ t. only_if (lies from till t) x) ≡ old * x → sum S (λ t. only_if (lies from till t) x) + 0 ≡ new * x
    same old new e h = omega (arith, h, ap (λ (y : ℕ). y * x) e)

    go : Dec (from ≤ S) → Dec (S < till) → sum S (λ t. only_if (lies from till t) x) ≡ (min S till - from) * x
        → sum S (λ t. only_if (lies from till t) x) + only_if (lies from till S) x ≡ (min (suc S) till - from) * x
    go (yes a) (yes b) h = rw (le-leb from S a, lt-ltb S till b) (unfold only_if in more (min S till - from) _ (omega arith) h)
    go (yes a) (no b) h =
        let c : till ≤ S = omega (arith, b) in
        rw (le-leb from S a, le-ltb S till c) (unfold only_if in same (min S till - from) _ (omega arith) h)
    go (no a) b h =
        let c : S < from = omega (arith, a) in
        rw (lt-leb from S c) (unfold only_if in same (min S till - from) _ (omega arith) h)

module _ (epochs : Windows) (q seconds : ℕ) (rate : ℕ → ℕ)
    (rising : (j k : ℕ) → j < k → k < epochs.count → epochs.till j ≤ epochs.from k)
    (lengths : (k : ℕ) → k < epochs.count → epochs.weight k ≡ epochs.till k - epochs.from k)
    (today : (k : ℕ) → k < epochs.count → epochs.till k ≤ seconds)
  where
    abbrev term : ℕ → ℕ → ℕ
    term t k = only_if (lies (q * epochs.from k) (q * epochs.till k) t) (rate k)

    -- a slot lies in one epoch only
    apart : (t j k : ℕ) → j < k → k < epochs.count → term t j * term t k ≡ 0
    apart t j k h g = go (lies (q * epochs.from j) (q * epochs.till j) t) refl (lies (q * epochs.from k) (q * epochs.till k) t) refl
      where
        go : (a : Bool) → lies (q * epochs.from j) (q * epochs.till j) t ≡ a → (b : Bool) → lies (q * epochs.from k) (q * epochs.till k) t ≡ b
            → only_if a (rate j) * only_if b (rate k) ≡ 0
        go false p b r = unfold only_if in omega arith
        go true p false r = unfold only_if in omega arith
        go true p true r =
            absurd (omega (
              arith,
              ltb-true t (q * epochs.till j) (both (leb (q * epochs.from j) t) _ p).1,
              leb-true (q * epochs.from k) t (both (leb (q * epochs.from k) t) _ r).0,
              mul-le-mul_left q (rising j k h g),
            ))

    square : (b : Bool) (x : ℕ) → only_if b x * only_if b x ≡ only_if b (x * x)
    unfolding only_if
    square true x = refl
    square false x = omega arith

    -- the slots of an epoch
    of_epoch : (k : ℕ) → k < epochs.count
        → sum (q * seconds) (λ t. only_if (lies (q * epochs.from k) (q * epochs.till k) t) (rate k * rate k)) ≡ epochs.weight k * (rate k * rate k) * q
    of_epoch k h =
        slots_in (q * seconds) (q * epochs.from k) (q * epochs.till k) (rate k * rate k) ∙
        (omega (arith, ap (λ (x : ℕ). x * (rate k * rate k)) size))
      where
        product_less : (x y z : ℕ) → z ≡ x - y → q * x - q * y ≡ z * q
        product_less x y z e = go (dec_le y x)
          where
            go : Dec (y ≤ x) → q * x - q * y ≡ z * q
            go (yes p) = let s : x ≡ y + z = omega arith in omega (arith, ap (λ (u : ℕ). q * u) s)
            go (no p) =
                let s : z ≡ 0 = omega (arith, p) in
                let l : x ≤ y = omega (arith, p) in
                omega (arith, ap (λ (u : ℕ). u * q) s, mul-le-mul_left q l)

        size : min (q * seconds) (q * epochs.till k) - q * epochs.from k ≡ epochs.weight k * q
        size =
            omega (
              arith,
              mul-le-mul_left q (today k h),
              product_less (epochs.till k) (epochs.from k) (epochs.weight k) (lengths k h),
            )

    -- the squares of the slots' rates
    pub slot_squares : sum (q * seconds) (λ t. rate_at epochs q rate t * rate_at epochs q rate t) ≡ q * sum epochs.count (λ k. epochs.weight k * (rate k * rate k))
    unfolding rate_at
    slot_squares =
        sum_eq (q * seconds) (λ t. sum epochs.count (term t) * sum epochs.count (term t))
        (λ t. sum epochs.count (λ k. only_if (lies (q * epochs.from k) (q * epochs.till k) t) (rate k * rate k)))
        (λ t h.
        sum_square epochs.count (term t) (apart t) ∙
        sum_eq epochs.count (λ k. term t k * term t k) (λ k. only_if (lies (q * epochs.from k) (q * epochs.till k) t) (rate k * rate k)) (λ k g. square _ (rate k))) ∙
        sum_exchange (q * seconds) epochs.count (λ t k. only_if (lies (q * epochs.from k) (q * epochs.till k) t) (rate k * rate k)) ∙
        sum_eq epochs.count (λ k. sum (q * seconds) (λ t. only_if (lies (q * epochs.from k) (q * epochs.till k) t) (rate k * rate k)))
        (λ k. epochs.weight k * (rate k * rate k) * q) of_epoch ∙
        sum_scale epochs.count (λ k. epochs.weight k * (rate k * rate k)) q ∙
        (omega arith)
