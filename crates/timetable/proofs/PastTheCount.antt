-- Records past the count have no influence on the rates and the timetables: two rows of records whose first `count` packets are the same come to the same answer and
-- leave the same in the lent room. Rounds and sheets hold functions of every number, and these agree below the count only; so each law says that what the
-- definitions make of two such days is the same number, the same interval or the same entries. Assumes nothing.
use Prim.Native.Nat.{ℕ, zero, suc, ◌*◌, ◌<◌, ◌≤◌, min}
use mathlib.Core.Path.{◌≡◌, refl, sym, ap, ap₂, subst, ◌∙◌}
use mathlib.Core.Bool.{Bool, true, false}
use mathlib.Core.List.{List}
use native.Mathlib.Omega.{arith}
use native.Mathlib.Decide.{dec_le}
use lib.ListN.{length, get_or, take, length-take}
use lib.Seq.{get_or-take}
use lib.Dec.{ltb}
use borrow.Author.Tests.{lt-ltb, le-ltb}
use Rattle.packets.specs.Limits.{air_bytes}
use Rattle.packets.specs.Records.{record_numbers, size_of, arrival_of, deadline_of, memory_tests}
use Rattle.packets.proofs.Records.{tests_same}
use Rattle.policy.specs.Windows.{Windows, Given, none, rate, left, inside, choose, assign}
use Rattle.policy.specs.Points.{points_of, packets_of, epochs_of}
use Rattle.policy.specs.Rounds.{Day, Progress, Interval, nowhere, between, at_first, load, len, beats, leads, better, best_from, best_of, pick, give_rate, taken, round_of, round, after, day_of, outcome_of}
use Rattle.policy.specs.Carried.{priced}
use Rattle.policy.specs.Answer.{epoch_rows, epoch_count, rates_of, rates_outcome, rates_after}
use Rattle.policy.proofs.Sums.{sum_eq}
use Rattle.timetable.specs.Entries.{Choice, nobody, packet, Sheet, eligible, candidate, sooner, earliest, units_in, less, sent, next_in, turn_of, turns, begun, filled, units_of, sheet_at, entries_of}
use Rattle.timetable.specs.Costs.{radio_cost, cost_of}
use Rattle.timetable.specs.Answer.{timetables_outcome, entries_after}
use Rattle.timetable.proofs.Earliest.{Says, none_counts, chosen, earliest_says}

-- ## Two days

-- n packets in two rows that agree below n, and the same epochs
module _ (n : ℕ) (from till weight from' till' weight' : ℕ → ℕ) (epochs : Windows)
    (from_is : (i : ℕ) → i < n → from i ≡ from' i) (till_is : (i : ℕ) → i < n → till i ≡ till' i) (weight_is : (i : ℕ) → i < n → weight i ≡ weight' i) where
  abbrev one : Windows
  one = record { count = n; from = from; till = till; weight = weight }

  abbrev two : Windows
  two = record { count = n; from = from'; till = till'; weight = weight' }

  abbrev day : Day
  day = record { packets = one; epochs = epochs }

  abbrev day' : Day
  day' = record { packets = two; epochs = epochs }

  -- ## Rounds

  -- how far the rounds have come is the same, below n for packets and everywhere for epochs
  record Alike (x y : Progress) : Type 0 where
    packets : (i : ℕ) → i < n → x.packet i ≡ y.packet i
    epochs_too : (k : ℕ) → x.epoch k ≡ y.epoch k
    rounds_too : x.rounds ≡ y.rounds

  load_same : (x y : Progress) → Alike x y → (s e : ℕ) → load day x s e ≡ load day' y s e
  unfolding load left inside
  load_same x y a s e = sum_eq n _ _ (λ i h. rw (a.packets i h, from_is i h, till_is i h, weight_is i h))

  len_same : (x y : Progress) → Alike x y → (s e : ℕ) → len day x s e ≡ len day' y s e
  unfolding len left
  len_same x y a s e = sum_eq epochs.count _ _ (λ k h. rw (a.epochs_too k))

  better_same : (x y : Progress) → Alike x y → (best : Interval) (s e : ℕ) → better day x best s e ≡ better day' y best s e
  unfolding better
  better_same x y a best s e = rw (load_same x y a s e, leads_same best)
    where
      beats_same : (s' e' : ℕ) → beats day x s e s' e' ≡ beats day' y s e s' e'
      beats_same s' e' = unfold beats in rw (load_same x y a s e, len_same x y a s e, load_same x y a s' e', len_same x y a s' e')

      leads_same : (b : Interval) → leads day x s e b ≡ leads day' y s e b
      leads_same nowhere = unfold leads in refl
      leads_same (between s' e') = unfold leads in beats_same s' e'

  from_same : (x y : Progress) → Alike x y → (best : Interval) (s m : ℕ) → m ≤ n → best_from day x best s m ≡ best_from day' y best s m
  unfolding best_from
  from_same x y a best s zero h = refl
  from_same x y a best s (suc m) h = rw (from_same x y a best s m (omega arith), till_is m (omega arith)) (better_same x y a _ s _)

  of_same : (x y : Progress) → Alike x y → (m : ℕ) → m ≤ n → best_of day x m ≡ best_of day' y m
  unfolding best_of
  of_same x y a zero h = refl
  of_same x y a (suc m) h = rw (of_same x y a m (omega arith), from_is m (omega arith)) (from_same x y a _ _ n (omega arith))

  round_alike : (x y : Progress) → Alike x y → Alike (round day x) (round day' y)
  unfolding round pick
  round_alike x y a = subst (λ (p : Interval). Alike (round_of day x (best_of day x n)) (round_of day' y p)) (of_same x y a n (omega arith)) (go (best_of day x n))
    where
      go : (p : Interval) → Alike (round_of day x p) (round_of day' y p)
      go nowhere = unfold round_of in a
      go (between s e) =
          unfold round_of taken give_rate assign inside in
          record {
            packets = λ i h. rw (load_same x y a s e, len_same x y a s e, a.packets i h, from_is i h, till_is i h);
            epochs_too = λ k. rw (load_same x y a s e, len_same x y a s e, a.epochs_too k);
            rounds_too = ap suc a.rounds_too;
          }

  after_alike : (k : ℕ) → Alike (after day k) (after day' k)
  unfolding after
  after_alike zero = unfold at_first in record { packets = λ i h. refl; epochs_too = λ k. refl; rounds_too = refl }
  after_alike (suc k) = round_alike (after day k) (after day' k) (after_alike k)

  -- ## Sheets

  -- how far the timetable has come is the same, below n for what packets have still to send
  record Level (y z : Sheet) : Type 0 where
    entries_too : y.entries ≡ z.entries
    unsent_too : (i : ℕ) → i < n → y.unsent i ≡ z.unsent i
    offset_too : y.offset ≡ z.offset

  -- a choice of one of the first n
  abbrev Below : Choice → Type 0
  Below nobody = Unit {0}
  Below (packet i) = i < n

  module _ (x y : Progress) (a : Alike x y) where
    -- a choice among the first m looks at these alone
    earliest_same : (among among' : ℕ → Bool) (m : ℕ) → m ≤ n → ((i : ℕ) → i < n → among i ≡ among' i)
        → earliest among till m ≡ earliest among' till' m
    unfolding earliest
    earliest_same among among' zero h same = refl
    earliest_same among among' (suc m) h same =
        rw (sym (earliest_same among among' m (omega arith) same)) (go (earliest among till m) (earliest_says among till m))
      where
        go : (c : Choice) → Says among till m c → sooner among till m c ≡ sooner among' till' m c
        go _ (none_counts no_one) = unfold sooner in rw (same m (omega arith))
        go _ (chosen i is) = unfold sooner in rw (same m (omega arith), till_is m (omega arith), till_is i (omega (arith, is.below)))

    eligible_same : (k r d i : ℕ) → i < n → eligible day x k r d i ≡ eligible day' y k r d i
    unfolding eligible
    eligible_same k r d i h = rw (a.packets i h, from_is i h, till_is i h)

    candidate_same : (k r d : ℕ) (z w : Sheet) → Level z w → (i : ℕ) → i < n
        → candidate day x k r d z.unsent i ≡ candidate day' y k r d w.unsent i
    unfolding candidate
    candidate_same k r d z w l i h = rw (eligible_same k r d i h, l.unsent_too i h)

    next_same : (k r d : ℕ) (z w : Sheet) → Level z w → next_in day x k r d z ≡ next_in day' y k r d w
    unfolding next_in units_in
    next_same k r d z w l = rw (l.offset_too, earliest_same _ _ n (omega arith) (candidate_same k r d z w l))

    next_below : (k r d : ℕ) (z : Sheet) → Below (next_in day x k r d z)
    unfolding next_in
    next_below k r d z =
        go (ltb z.offset (units_in day k r)) (earliest (candidate day x k r d z.unsent) till n) (earliest_says (candidate day x k r d z.unsent) till n)
      where
        go : (b : Bool) (c : Choice) → Says (candidate day x k r d z.unsent) till n c → Below (choose b c nobody)
        go false c is = unfold choose in tt
        go true _ (none_counts no_one) = unfold choose in tt
        go true _ (chosen i is) = unfold choose in is.below

    turn_level : (k r d : ℕ) (z w : Sheet) → Level z w → Level (turn_of day k r d z (next_in day x k r d z)) (turn_of day' k r d w (next_in day' y k r d w))
    turn_level k r d z w l =
        subst (λ (c : Choice). Level (turn_of day k r d z (next_in day x k r d z)) (turn_of day' k r d w c)) (next_same k r d z w l)
        (go (next_in day x k r d z) (next_below k r d z))
      where
        go : (c : Choice) → Below c → Level (turn_of day k r d z c) (turn_of day' k r d w c)
        go nobody h = unfold turn_of in l
        go (packet i) h =
            unfold turn_of sent less units_in in
            record {
              entries_too = rw (l.entries_too, l.offset_too, l.unsent_too i h);
              unsent_too = λ j q. rw (l.unsent_too j q, l.offset_too, l.unsent_too i h);
              offset_too = rw (l.offset_too, l.unsent_too i h);
            }

    turns_level : (k r d t : ℕ) (z w : Sheet) → Level z w → Level (turns day x k r d t z) (turns day' y k r d t w)
    unfolding turns
    turns_level k r d zero z w l = l
    turns_level k r d (suc t) z w l = turn_level k r d _ _ (turns_level k r d t z w l)

    filled_level : (k : ℕ) (given : Given) (z w : Sheet) → Level z w → Level (filled day x k given z) (filled day' y k given w)
    unfolding filled
    filled_level k given z w l = go given
      where
        begins : Level (begun z) (begun w)
        begins = unfold begun in record { entries_too = l.entries_too; unsent_too = l.unsent_too; offset_too = refl }

        go : (given : Given) → Level (filled day x k given z) (filled day' y k given w)
        go none = begins
        go (rate r d) = turns_level k r d n (begun z) (begun w) begins

    sheet_level : (k : ℕ) → Level (sheet_at day x k) (sheet_at day' y k)
    unfolding sheet_at units_of
    sheet_level zero = record { entries_too = refl; unsent_too = λ i h. rw (weight_is i h, a.packets i h); offset_too = refl }
    sheet_level (suc k) =
        subst (λ (given : Given). Level (filled day x k (x.epoch k) (sheet_at day x k)) (filled day' y k given (sheet_at day' y k))) (a.epochs_too k)
        (filled_level k (x.epoch k) (sheet_at day x k) (sheet_at day' y k) (sheet_level k))

    cost_same : radio_cost day x ≡ radio_cost day' y
    unfolding radio_cost priced
    cost_same = sum_eq n _ _ (λ i h. rw (weight_is i h, a.packets i h))

-- ## Two rows of records

rows_same : (points : List ℕ) (has has' : ℕ → Given) → ((k : ℕ) → has k ≡ has' k) → (m : ℕ) → epoch_rows points has m ≡ epoch_rows points has' m
unfolding epoch_rows
rows_same points has has' same zero = refl
rows_same points has has' same (suc m) = rw (rows_same points has has' same m, same m)

-- the first `count` records are the same
module _ (count : ℕ) (a b : List ℕ) (front : take (record_numbers * count) a ≡ take (record_numbers * count) b) where
  number : (k : ℕ) → k < record_numbers * count → get_or a k 0 ≡ get_or b k 0
  number k h = sym (get_or-take (record_numbers * count) a k 0 h) ∙ ap (λ (l : List ℕ). get_or l k 0) front ∙ get_or-take (record_numbers * count) b k 0 h

  arrival_is : (i : ℕ) → i < count → arrival_of a i ≡ arrival_of b i
  unfolding arrival_of
  arrival_is i h = number _ (omega arith)

  deadline_is : (i : ℕ) → i < count → deadline_of a i ≡ deadline_of b i
  unfolding deadline_of
  deadline_is i h = number _ (omega arith)

  size_is : (i : ℕ) → i < count → air_bytes (size_of a i) ≡ air_bytes (size_of b i)
  unfolding size_of
  size_is i h = ap air_bytes (number _ (omega arith))

  -- the tests come to the same
  memory_same : memory_tests count a ≡ memory_tests count b
  unfolding memory_tests
  memory_same = rw (tests_same count 0 a b (λ k h. number k (omega (arith, h))), short (dec_le (record_numbers * count) (length a)))
    where
      long : min (record_numbers * count) (length a) ≡ min (record_numbers * count) (length b)
      long = sym (length-take (record_numbers * count) a) ∙ ap length front ∙ length-take (record_numbers * count) b

      short : Dec (record_numbers * count ≤ length a) → ltb (length a) (record_numbers * count) ≡ ltb (length b) (record_numbers * count)
      short (yes h) = le-ltb _ _ h ∙ sym (le-ltb (length b) (record_numbers * count) (omega (arith, long, h)))
      short (no h) = lt-ltb (length a) (record_numbers * count) (omega (arith, h)) ∙ sym (lt-ltb (length b) (record_numbers * count) (omega (arith, long, h)))

  points_same : (m : ℕ) → m ≤ count → points_of m a ≡ points_of m b
  unfolding points_of
  points_same zero h = refl
  points_same (suc m) h = rw (points_same m (omega arith), arrival_is m (omega arith), deadline_is m (omega arith))

  points_are : points_of count a ≡ points_of count b
  points_are = points_same count (omega arith)

  -- the day of the second row with these event points
  abbrev day_with : List ℕ → Day
  day_with points = record { packets = packets_of count b; epochs = epochs_of points }

  abbrev Same : Progress → Progress → Type 0
  Same = Alike count (arrival_of a) (deadline_of a) (λ i. air_bytes (size_of a i)) (arrival_of b) (deadline_of b) (λ i. air_bytes (size_of b i)) (epochs_of (points_of count a))
      arrival_is deadline_is size_is

  alike : Same (outcome_of count a) (outcome_of count b)
  unfolding outcome_of day_of packets_of
  alike =
      subst (λ (points : List ℕ). Same (after (day_of count a) count) (after (day_with points) count)) points_are
      (after_alike count (arrival_of a) (deadline_of a) (λ i. air_bytes (size_of a i)) (arrival_of b) (deadline_of b) (λ i. air_bytes (size_of b i)) (epochs_of (points_of count a))
      arrival_is deadline_is size_is count)

  epochs_same : epoch_count count a ≡ epoch_count count b
  unfolding epoch_count
  epochs_same = ap (λ (points : List ℕ). (epochs_of points).count) points_are

  rates_same : rates_of count a ≡ rates_of count b
  unfolding rates_of
  rates_same =
      rows_same (points_of count a) (outcome_of count a).epoch (outcome_of count b).epoch alike.epochs_too (epoch_count count a)
      ∙ ap₂ (λ (points : List ℕ) (m : ℕ). epoch_rows points (outcome_of count b).epoch m) points_are epochs_same

  entries_same : entries_of count a ≡ entries_of count b
  unfolding entries_of epoch_count day_of packets_of
  entries_same =
      (sheet_level count (arrival_of a) (deadline_of a) (λ i. air_bytes (size_of a i)) (arrival_of b) (deadline_of b) (λ i. air_bytes (size_of b i)) (epochs_of (points_of count a))
      arrival_is deadline_is size_is
      (outcome_of count a) (outcome_of count b) alike (epochs_of (points_of count a)).count).entries_too
      ∙ ap (λ (points : List ℕ). (sheet_at (day_with points) (outcome_of count b) (epochs_of points).count).entries) points_are

  cost_too : cost_of count a ≡ cost_of count b
  unfolding cost_of day_of packets_of
  cost_too =
      cost_same count (arrival_of a) (deadline_of a) (λ i. air_bytes (size_of a i)) (arrival_of b) (deadline_of b) (λ i. air_bytes (size_of b i)) (epochs_of (points_of count a))
      arrival_is deadline_is size_is
      (outcome_of count a) (outcome_of count b) alike ∙ (unfold radio_cost in refl)

  -- the call for the rates answers and leaves the same
  pub rates_past : (lent : List ℕ) → (rates_outcome count a (length lent) ≡ rates_outcome count b (length lent)) × (rates_after count a lent ≡ rates_after count b lent)
  rates_past lent = (outcome, unfold rates_after in rw (outcome, rates_same))
    where
      outcome : rates_outcome count a (length lent) ≡ rates_outcome count b (length lent)
      outcome = unfold rates_outcome in rw (memory_same, epochs_same, alike.rounds_too)

  -- and so does the call for both timetables
  pub timetables_past : (lent : List ℕ)
      → (timetables_outcome count a (length lent) ≡ timetables_outcome count b (length lent)) × (entries_after count a lent ≡ entries_after count b lent)
  timetables_past lent = (outcome, unfold entries_after in rw (outcome, entries_same))
    where
      outcome : timetables_outcome count a (length lent) ≡ timetables_outcome count b (length lent)
      outcome = unfold timetables_outcome in rw (memory_same, entries_same, alike.rounds_too, cost_too)
