-- What the functions under the public operation give, as definitions that follow the code. The promise of the public operation does not rest on them.
-- Seconds and bytes. Assumes nothing.
use Rattle.std.specs.Prelude.{ℕ, zero, suc, pred, ◌-◌, ◌^◌, ◌<◌, ◌≤◌, ◌≡◌, Bool, true, ◌&&◌, List, get_or, length, take, leb, ltb, Option, Some, None, slice_index_or}
use Rattle.fractions.specs.declared.Rate.{Rate}
use Rattle.fractions.specs.Fraction.{lowest_n, lowest_d}
use Rattle.policy.specs.declared.densest.Leader.{Leader}
use Rattle.policy.specs.declared.densest.Left.{Left}
use Rattle.policy.specs.declared.points.Points.{Points}
use Rattle.policy.specs.declared.rates.Gifts.{Gifts}
use Rattle.policy.specs.declared.rates.Rates.{Rates}
use Rattle.policy.specs.declared.row.Due.{Due}
use Rattle.policy.specs.declared.setup.Setup.{Setup}
use Rattle.policy.specs.declared.spans.Span.{Span}
use Rattle.policy.specs.declared.spans.Spans.{Spans}
use Rattle.policy.specs.Answer.{given_of, given_at}
use Rattle.policy.specs.Figures.{largest_air}
use Rattle.policy.specs.Points.{points_of, packets_of, with_point}
use Rattle.policy.specs.Ranges.{due_at, span_at}
use Rattle.policy.specs.Rounds.{ahead, outcome_of}
use Rattle.policy.specs.Windows.{Windows, unassigned, choose, only_if, sum}

-- ## The points

-- r of the points stand before t, and the next, where there is one, does not
pub record Before (t : ℕ) (points : Points) (r : ℕ) : Type 0 where
  pub within : r ≤ points.count
  pub below : (k : ℕ) → k < r → get_or points.at k 0 < t
  pub next : r < points.count → t ≤ get_or points.at r 0

-- the points with t among them
pub record Inserted (t : ℕ) (points points' : Points) : Type 0 where
  pub is : take points'.count points'.at ≡ with_point t (take points.count points.at)
  pub count : points'.count ≡ length (with_point t (take points.count points.at))

-- ## Windows in arrays

-- the windows and weights stand in the spans
pub record Spanned (w : Windows) (spans : Spans) : Type 0 where
  pub count_is : spans.count ≡ w.count
  pub from_is : (i : ℕ) → i < w.count → (span_at spans.at i).from ≡ w.from i
  pub till_is : (i : ℕ) → i < w.count → (span_at spans.at i).till ≡ w.till i
  pub weight_is : (i : ℕ) → i < w.count → (span_at spans.at i).weight ≡ w.weight i

-- epochs between neighbouring points
unfoldable pub neighbours : ℕ → List ℕ → Windows
neighbours epochs points =
    record {
      count = epochs;
      from = λ k. get_or points k 0;
      till = λ k. get_or points (suc k) 0;
      weight = λ k. get_or points (suc k) 0 - get_or points k 0;
    }

-- the weight, where there is no rate yet
unfoldable pub left_over : Option Rate → ℕ → ℕ
left_over had weight = only_if (unassigned (given_of had)) weight

-- it lies inside [s, e)
unfoldable pub lies_inside : Span → ℕ → ℕ → Bool
lies_inside span s e = leb s span.from && leb span.till e

-- what it has after a round: the rate, where it had none yet and lies inside [s, e)
unfoldable pub after_gift : Span → Option Rate → ℕ → ℕ → Rate → Option Rate
after_gift span had s e rate = choose (unassigned (given_of had) && lies_inside span s e) (Some rate) had

-- what each has after a round
pub record Shared (spans : Spans) (rates : List (Option Rate)) (s e : ℕ) (rate : Rate) (rates' : List (Option Rate)) : Type 0 where
  pub is : (i : ℕ) → i < spans.count → slice_index_or rates' i None ≡ after_gift (span_at spans.at i) (slice_index_or rates i None) s e rate

-- ## The row: the packets by rising deadline

-- a packet in the row has its figures
pub record DueOf (packets : Spans) (points : Points) (due : Due) : Type 0 where
  pub packet_in : due.packet < packets.count
  pub arrival_is : due.arrival ≡ (span_at packets.at due.packet).from
  pub arrival_at : Before due.arrival points due.arrival_point
  pub deadline_is : due.deadline ≡ (span_at packets.at due.packet).till
  pub deadline_at : Before due.deadline points due.deadline_point

-- the packets as they are listed
pub record Listed (packets : Spans) (points : Points) (row : List Due) : Type 0 where
  pub packet_is : (j : ℕ) → j < packets.count → (due_at row j).packet ≡ j
  pub each : (j : ℕ) → j < packets.count → DueOf packets points (due_at row j)

-- up to number j of the row stand exactly those that are due by its deadline
abbrev pub UpTo : Spans → List Due → ℕ → Type 0
UpTo packets row j =
    (f : ℕ → ℕ) → sum (suc j) (λ k. f (due_at row k).packet)
    ≡ sum packets.count (λ i. only_if (leb (span_at packets.at i).till (due_at row j).deadline) (f i))

-- the row holds all packets by rising deadline, and the last of each deadline is marked
pub record InRow (packets : Spans) (points : Points) (row : List Due) : Type 0 where
  pub each : (j : ℕ) → j < packets.count → DueOf packets points (due_at row j)
  pub up_to : (j : ℕ) → j < packets.count → (due_at row j).last ≡ true → UpTo packets row j
  pub holds : (i : ℕ) → i < packets.count → (j : ℕ) × (j < packets.count) × ((due_at row j).packet ≡ i)
  pub ends : (i : ℕ) → i < packets.count
      → (j : ℕ) × (j < packets.count) × ((due_at row j).last ≡ true) × ((due_at row j).deadline ≡ (span_at packets.at i).till)

-- what the rounds of a list work on
pub record SetUp (count : ℕ) (records : List ℕ) (points : Points) (packets epochs : Spans) (row : List Due) : Type 0 where
  pub points_are : take points.count points.at ≡ points_of count records
  pub points_count : points.count ≡ length (points_of count records)
  pub packets_are : Spanned (packets_of count records) packets
  pub epochs_are : Spanned (neighbours (pred points.count) points.at) epochs
  pub row_is : InRow packets points row

-- ## The sweep

-- what is left at number j of the row
abbrev pub left_at : List Left → ℕ → Left
left_at left j = slice_index_or left j (record { bytes = 0; seconds = 0 })

-- the seconds left of the first b epochs, for each b
pub record Passed (epochs : Spans) (rates : List (Option Rate)) (passed : List ℕ) : Type 0 where
  pub is : (b : ℕ) → b ≤ epochs.count → get_or passed b 0 ≡ sum b (λ k. left_over (slice_index_or rates k None) (span_at epochs.at k).weight)

-- what is left along the row
pub record Remaining (setup : Setup) (rates : List (Option Rate)) (passed : List ℕ) (left : List Left) : Type 0 where
  pub bytes_are : (j : ℕ) → j < setup.packets.count
      → (left_at left j).bytes ≡ left_over (slice_index_or rates (due_at setup.row j).packet None) (span_at setup.packets.at (due_at setup.row j).packet).weight
  pub seconds_are : (j : ℕ) → j < setup.packets.count → (left_at left j).seconds ≡ get_or passed (due_at setup.row j).deadline_point 0

-- figures within which a sweep fits
pub record SweepFits (setup : Setup) (left : List Left) : Type 0 where
  pub bytes_most : (j : ℕ) → j < setup.packets.count → (left_at left j).bytes ≤ largest_air
  pub seconds_most : (j : ℕ) → j < setup.packets.count → (left_at left j).seconds < 2 ^ 32

-- load and length whose cross products fit 64 bits
pub record Small (x : Leader) : Type 0 where
  pub load : x.load < 2 ^ 32
  pub len : x.len < 2 ^ 32

-- the weight of what arrives from s on
unfoldable pub counted_from : ℕ → ℕ → ℕ → ℕ
counted_from s from weight = only_if (leb s from) weight

-- the rule over two leaders
unfoldable pub leader_ahead : Leader → Leader → Bool
leader_ahead x y = ahead x.load x.len x.start x.end y.load y.len y.start y.end

-- whether an interval comes before the leader, where there is one
unfoldable pub goes_ahead : Leader → Option Leader → Bool
goes_ahead interval None = true
goes_ahead interval (Some leader) = leader_ahead interval leader

-- the leader, or the interval where it ends at the last packet of its deadline, has load and comes before the leader
unfoldable pub considered : Option Leader → Bool → Leader → Option Leader
considered best last interval = choose (last && (ltb 0 interval.load && goes_ahead interval best)) (Some interval) best

-- the bytes of the first j in the row that arrive from s on
unfoldable pub due_to : (ℕ → Due) → (ℕ → Left) → ℕ → ℕ → ℕ
due_to due left s j = sum j (λ k. counted_from s (due k).arrival (left k).bytes)

-- the leader of what is given and the intervals from s to the deadlines of the first j in the row; `base` seconds are left before s
unfoldable pub swept : (ℕ → Due) → (ℕ → Left) → ℕ → ℕ → Option Leader → ℕ → Option Leader
swept due left s base best zero = best
swept due left s base best (suc j) =
    considered (swept due left s base best j) (due j).last
    (record { start = s; end = (due j).deadline; load = due_to due left s (suc j); len = (left j).seconds - base })

-- the leader of the intervals from the first i arrivals
unfoldable pub led : ℕ → (ℕ → ℕ) → (ℕ → ℕ) → (ℕ → Due) → (ℕ → Left) → ℕ → Option Leader
led count from base due left zero = None
led count from base due left (suc i) = swept due left (from i) (base i) (led count from base due left i) count

-- the same, of what was set up
abbrev pub led_by : Setup → List ℕ → List Left → ℕ → Option Leader
led_by setup passed left =
    led setup.packets.count (λ i. (due_at setup.row i).arrival) (λ i. get_or passed (due_at setup.row i).arrival_point 0) (due_at setup.row) (left_at left)

-- the leader of what is left of the packets and of the epochs
pub record LeaderIs (setup : Setup) (gifts : Gifts) (leader : Option Leader) : Type 0 where
  pub passed : List ℕ
  pub left : List Left
  pub passed_is : Passed setup.epochs gifts.epochs passed
  pub left_is : Remaining setup gifts.packets passed left
  pub leads : leader ≡ led_by setup passed left setup.packets.count

-- ## The rounds

-- the leader's packets and epochs have its density in lowest terms
pub record Taken (setup : Setup) (leader : Leader) (gifts gifts' : Gifts) : Type 0 where
  pub rate : Rate
  pub n_is : rate.n ≡ lowest_n leader.load leader.len
  pub d_is : rate.d ≡ lowest_d leader.load leader.len
  pub packets : Shared setup.packets gifts.packets leader.start leader.end rate gifts'.packets
  pub epochs : Shared setup.epochs gifts.epochs leader.start leader.end rate gifts'.epochs

-- the rates of a list: its points, what each packet and each epoch was given, and the rounds
pub record Rated (count : ℕ) (records : List ℕ) (rates : Rates) : Type 0 where
  pub points_are : take rates.points.count rates.points.at ≡ points_of count records
  pub n_is : rates.points.count ≡ length (points_of count records)
  pub packets_are : (i : ℕ) → i < count → given_at rates.packets i ≡ (outcome_of count records).packet i
  pub epochs_are : (k : ℕ) → k < pred rates.points.count → given_at rates.epochs k ≡ (outcome_of count records).epoch k
  pub rounds_are : rates.rounds ≡ (outcome_of count records).rounds
