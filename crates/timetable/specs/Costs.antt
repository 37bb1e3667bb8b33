-- The costs of the two timetables (document 01, "The two timetables"). The unit is bytes per second, squared, times seconds. Assumes nothing.
use Rattle.std.specs.Prelude.{ℕ, zero, suc, ◌+◌, ◌-◌, ◌*◌, ◌/◌, List, [], ◌∷◌}
use Rattle.std.specs.Int.{◌∣◌}
use Rattle.policy.specs.Rounds.{Day, Progress, day_of, outcome_of}
use Rattle.policy.specs.Carried.{priced, in_units}
use Rattle.policy.specs.Answer.{shown_d}
use Rattle.timetable.specs.Setting.{setting}
use Rattle.timetable.specs.Entries.{Entry}

-- ## The radio timetable

-- the sum over packets of the bytes on the air times R
unfoldable pub radio_cost : Day → Progress → ℕ
radio_cost day rates = priced setting day.packets rates.packet

-- the radio cost of a list
unfoldable pub cost_of : ℕ → List ℕ → ℕ
cost_of count records = radio_cost (day_of count records) (outcome_of count records)

-- what the stretches cost, R squared times their time, in units of 1/M where M is a multiple of each D times R
unfoldable pub stretches_cost : ℕ → List Entry → ℕ
stretches_cost M [] = 0
stretches_cost M (e ∷ entries) = e.R * e.R * ((e.to - e.from) * (M / (e.D * e.R))) + stretches_cost M entries

-- M is a multiple of an entry's D times R
abbrev pub Multiple : ℕ → Entry → Type 0
Multiple M e = e.D * e.R ∣ M

-- ## The exact timetable

-- f 0 times f 1 times .. times f (n - 1)
unfoldable pub product : ℕ → (ℕ → ℕ) → ℕ
product zero f = 1
product (suc n) f = product n f * f n

-- the sum over epochs of the rate squared times the length, in units of 1/L squared where L is a multiple of each D
unfoldable pub exact_cost_in : ℕ → Day → Progress → ℕ
exact_cost_in L day rates = priced (λ n d. in_units L n d * in_units L n d) day.epochs rates.epoch

-- such an L: the product of the D of all epochs
unfoldable pub common_d : Day → Progress → ℕ
common_d day rates = product day.epochs.count (λ k. shown_d (rates.epoch k))

-- the exact cost as a fraction: this number ..
unfoldable pub exact_cost_n : Day → Progress → ℕ
exact_cost_n day rates = exact_cost_in (common_d day rates) day rates

-- .. over this one
unfoldable pub exact_cost_d : Day → Progress → ℕ
exact_cost_d day rates = common_d day rates * common_d day rates
