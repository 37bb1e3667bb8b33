-- Who carries which fraction, and what is priced by it. Weights are bytes for packets and seconds for epochs. Assumes nothing.
use Rattle.std.specs.Prelude.{ℕ, ◌*◌, ◌/◌, Bool, false, ◌&&◌, eqb}
use Rattle.policy.specs.Windows.{Windows, Given, none, rate, inside, only_if, sum}

-- it was given this same fraction
unfoldable pub carries : Given → ℕ → ℕ → Bool
carries none n d = false
carries (rate n' d') n d = eqb n' n && eqb d' d

-- the weight of those that carry N/D and lie inside [s, e)
unfoldable pub carried : Windows → (ℕ → Given) → ℕ → ℕ → ℕ → ℕ → ℕ
carried w given n d s e = sum w.count (λ i. only_if (carries (given i) n d && inside w s e i) (w.weight i))

-- the weight of all that carry N/D
unfoldable pub carried_in_all : Windows → (ℕ → Given) → ℕ → ℕ → ℕ
carried_in_all w given n d = sum w.count (λ i. only_if (carries (given i) n d) (w.weight i))

-- the price of what was given: nothing where it has no rate
unfoldable pub price_of : (ℕ → ℕ → ℕ) → Given → ℕ
price_of price none = 0
price_of price (rate n d) = price n d

-- weight times price, added up
unfoldable pub priced : (ℕ → ℕ → ℕ) → Windows → (ℕ → Given) → ℕ
priced price w given = sum w.count (λ i. w.weight i * price_of price (given i))

-- the rate N/D in units of 1/L byte per second, where L is a multiple of D
unfoldable pub in_units : ℕ → ℕ → ℕ → ℕ
in_units L n d = n * (L / d)
