-- Demand 3 of the whole call: what the plan reader reads from a frame that the call filled sends the list's packets whole inside their windows, one after the
-- other, and the cost that stands in the frame is what these entries cost, and below every rival's and the price of the rounding. Costs are bytes per second,
-- squared, times seconds. Assumes nothing.
use Rattle.std.specs.Prelude.{ℕ, zero, suc, ◌*◌, ◌<◌, ◌≡◌, List, [], ◌∷◌, length, drop, get_or}
use Rattle.packets.specs.Limits.{air_bytes}
use Rattle.packets.specs.Outcome.{gives}
use Rattle.packets.specs.Records.{size_of}
use Rattle.packets.specs.List.{count_on, records_on}
use Rattle.timetable.specs.Entries.{Entry}
use Rattle.timetable.specs.Costs.{stretches_cost, Multiple}
use Rattle.timetable.specs.Right.{Each, Ordered}
use Rattle.plan.specs.Entries.{most_entries, entry_numbers}
use Rattle.plan.specs.Frame.{plan_on, read_outcome, entries_after}
use Rattle.planner.specs.Whole.{plan_outcome, frame_after}
use Rattle.optimum.specs.Rival.{Fraction, whole, plus, Equal, Below}
use Rattle.optimum.specs.Optimum.{RivalOf, rival_cost_of, rounding_price, bytes_of, bytes_in, all_units, InWindow}

-- the n entries that numbers of a plan say: packet, start, R, D, from and to. A plan does not store N, and nothing here asks for it
unfoldable pub entries_said : ℕ → List ℕ → List Entry
entries_said zero numbers = []
entries_said (suc n) numbers =
    record {
      packet = get_or numbers 0 0;
      start = get_or numbers 1 0;
      R = get_or numbers 2 0;
      D = get_or numbers 3 0;
      from = get_or numbers 4 0;
      to = get_or numbers 5 0;
      N = 0;
    }
    ∷ entries_said n (drop entry_numbers numbers)

-- a frame holds a plan for the list at the front of these bytes: the plan reader reads so many entries and this cost into lent room, the entries send every
-- packet of the list whole inside its window, in time order and none overlapping another, and the cost is what they cost, and below any rival's and the price of
-- the rounding for each byte
pub record PlanFor (list frame lent : List ℕ) (count cost : ℕ) : Type 0 where
  pub read : read_outcome (plan_on frame) (length lent) ≡ gives (count ∷ cost ∷ [])
  pub sent : (i : ℕ) → i < count_on list
      → Equal (bytes_in all_units (entries_said count (entries_after (plan_on frame) lent)) i) (whole (air_bytes (size_of (records_on list) i)))
  pub windows : Each (InWindow (count_on list) (records_on list)) (entries_said count (entries_after (plan_on frame) lent))
  pub ordered : Ordered (entries_said count (entries_after (plan_on frame) lent))
  -- R squared times their seconds, in units of 1/M for any M that is a multiple of each D times R
  pub paid : (M : ℕ) → Each (Multiple M) (entries_said count (entries_after (plan_on frame) lent))
      → stretches_cost M (entries_said count (entries_after (plan_on frame) lent)) ≡ cost * M
  pub below : (slots : ℕ) (bytes : ℕ → ℕ → Fraction) → RivalOf (count_on list) (records_on list) slots bytes
      → Below (whole cost) (plus (rival_cost_of (count_on list) (records_on list) slots bytes) (whole (rounding_price * bytes_of (count_on list) (records_on list))))

-- every list and frame that the whole call accepts: the frame then holds a plan for that list, whatever room for the most entries the reader is lent
abbrev pub WholeOptimum : List ℕ → List ℕ → Type 0
WholeOptimum list frame =
    (rounds entries cost : ℕ) → plan_outcome list (length frame) ≡ gives (rounds ∷ entries ∷ cost ∷ [])
    → (lent : List ℕ) → length lent ≡ entry_numbers * most_entries → PlanFor list (frame_after list frame) lent entries cost
