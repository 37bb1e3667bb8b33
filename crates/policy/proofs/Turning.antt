-- The rounds of the code are those of the definition: what is set up makes the board of the sweep, one turn is one round, and a turn without a leader
-- changes nothing more. Assumes nothing.
use Prim.Native.Nat.{ℕ, zero, suc, pred, ◌+◌, ◌-◌, ◌<◌, ◌≤◌}
use mathlib.Core.Path.{◌≡◌, refl, sym, ap, ap₂, subst, ◌∙◌}
use mathlib.Core.Bool.{Bool, true, false, ◌&&◌}
use mathlib.Core.List.{List}
use native.Mathlib.Omega.{arith}
use native.Mathlib.Decide.{dec_lt, ℕ_discrete}
use native.Mathlib.Numerals.{add-one}
use lib.ListN.{length, get_or, get_or-replicate, replicate, take}
use lib.Seq.{get_or-take}
use lib.Dec.{leb}
use Rattle.std.specs.Prelude.{Option, Some, None, slice_index_or}
use Rattle.packets.specs.Records.{size_of, arrival_of, deadline_of, Accepted}
use Rattle.packets.specs.Limits.{air_bytes}
use Rattle.fractions.specs.declared.Rate.{Rate}
use Rattle.fractions.specs.Fraction.{lowest_n, lowest_d}
use Rattle.policy.specs.declared.densest.Leader.{Leader}
use Rattle.policy.specs.declared.densest.Left.{Left}
use Rattle.policy.specs.declared.points.Points.{Points}
use Rattle.policy.specs.declared.rates.Gifts.{Gifts}
use Rattle.policy.specs.declared.row.Due.{Due}
use Rattle.policy.specs.declared.setup.Setup.{Setup}
use Rattle.policy.specs.declared.spans.Spans.{Spans}
use Rattle.policy.specs.Windows.{Windows, Given, unassigned, inside, only_if, choose, assign, sum}
use Rattle.policy.specs.Windows as Windows
use Rattle.policy.specs.Points.{points_of, packets_of, epochs_of}
use Rattle.policy.specs.Rounds.{Day, Progress, at_first, load, len, nowhere, between, pick, give_rate, taken, round_of, round, after, day_of, outcome_of}
use Rattle.policy.specs.Answer.{given_of, given_at}
use Rattle.policy.specs.Ranges.{Ready, due_at, span_at}
use Rattle.policy.specs.Steps.{Spanned, neighbours, left_over, left_at, lies_inside, after_gift, Shared, Before, Passed, counted_from, due_to, SetUp, LeaderIs, Taken, Rated}
use Rattle.policy.proofs.Sums.{sum_eq}
use Rattle.policy.proofs.EventPoints.{Has, points_rising, points_arrival, points_deadline, points_few, rising_at}
use Rattle.policy.proofs.Accepting.{proper, points_today, air_most}
use Rattle.policy.proofs.Ending.{after_facts, rounds_few}
use Rattle.policy.proofs.Measuring.{PacketsLeft, EpochsLeft, load_carried, len_carried}
use Rattle.policy.proofs.Leading.{Board, no_leader, leader_picked}
use Rattle.policy.proofs.Facts.{Facts}

-- ## What was given

-- the gifts stand for what was given
pub record Agrees (day : Day) (done : Progress) (gifts : Gifts) : Type 0 where
  pub packets : (i : ℕ) → i < day.packets.count → given_at gifts.packets i ≡ done.packet i
  pub epochs : (k : ℕ) → k < day.epochs.count → given_at gifts.epochs k ≡ done.epoch k

pub agrees_first : (day : Day) (m n : ℕ) → day.packets.count ≤ m → day.epochs.count ≤ n
    → Agrees day at_first (record { packets = replicate m None; epochs = replicate n None })
unfolding at_first
agrees_first day m n h g =
    record {
      packets = λ i r. ap given_of (get_or-replicate m i None None (omega (arith, h, r)));
      epochs = λ k r. ap given_of (get_or-replicate n k None None (omega (arith, g, r)));
    }

given_chosen : (t : Bool) (rate : Rate) (had : Option Rate) → given_of (choose t (Some rate) had) ≡ choose t (Windows.rate rate.n rate.d) (given_of had)
unfolding choose
given_chosen true rate had = refl
given_chosen false rate had = refl

-- one gift is one assignment
gift_assigns : (w : Windows) (g : ℕ → Given) (spans : Spans) (rates rates' : List (Option Rate)) (s e : ℕ) (rate : Rate) (i : ℕ) → i < w.count
    → Spanned w spans → given_at rates i ≡ g i → Shared spans rates s e rate rates' → given_at rates' i ≡ assign w s e rate.n rate.d g i
unfolding assign inside after_gift lies_inside
gift_assigns w g spans rates rates' s e rate i h set old shared =
    ap given_of (shared.is i (omega (arith, h, set.count_is))) ∙
    given_chosen (unassigned (given_at rates i) && (leb s (span_at spans.at i).from && leb (span_at spans.at i).till e)) rate (slice_index_or rates i None) ∙
    (λ k. choose (unassigned (old k) && (leb s (set.from_is i h k) && leb (set.till_is i h k) e)) (Windows.rate rate.n rate.d) (old k))

-- ## When there is no more to take

rests : (day : Day) (r : ℕ) → round day (after day r) ≡ after day r → (m : ℕ) → r ≤ m → after day m ≡ after day r
rests day r h zero p = ap (after day) (omega arith)
rests day r h (suc m) p = go (ℕ_discrete r (suc m)) (rests day r h m)
  where
    go : Dec (r ≡ suc m) → (r ≤ m → after day m ≡ after day r) → after day (suc m) ≡ after day r
    go (yes q) rest = ap (after day) (sym q)
    go (no q) rest = unfold after in (ap (round day) (rest (omega (arith, q))) ∙ h)

-- ## The points

module _ (count : ℕ) (records : List ℕ) (accepted : Accepted count records) where
  abbrev day : Day
  day = day_of count records

  abbrev P : List ℕ
  P = points_of count records

  pub points_most : length P ≤ 128
  points_most = omega (arith, points_few count records, accepted.few)

  pub points_some : 0 < length P
  points_some = omega (arith, (points_arrival count records 0 accepted.some).1)

  module _ (n : ℕ) (points : List ℕ) (points_are : take n points ≡ P) (n_is : n ≡ length P) where
    -- a point of the array is a point of the list
    pub point_at : (k : ℕ) → k < n → get_or points k 0 ≡ get_or P k 0
    point_at k h = sym (get_or-take n points k 0 h) ∙ ap (λ (l : List ℕ). get_or l k 0) points_are

    pub point_rises : (j k : ℕ) → j < k → k < n → get_or points j 0 < get_or points k 0
    point_rises j k h g =
        rw (point_at j (omega arith), point_at k g) (rising_at P (points_rising count records) j k h (omega (arith, n_is)))

  -- ## What is set up

  module _ (points : Points) (packets epochs : Spans) (row : List Due) (set : SetUp count records points packets epochs row) where
    pub n_some : 0 < points.count
    n_some = omega (arith, points_some, set.points_count)

    pub n_most : points.count ≤ 128
    n_most = omega (arith, points_most, set.points_count)

    at : (k : ℕ) → k < points.count → get_or points.at k 0 ≡ get_or P k 0
    at = point_at points.count points.at set.points_are set.points_count

    rises : (j k : ℕ) → j < k → k < points.count → get_or points.at j 0 < get_or points.at k 0
    rises = point_rises points.count points.at set.points_are set.points_count

    packets_count : packets.count ≡ count
    packets_count = unfold packets_of in set.packets_are.count_is

    from_is : (i : ℕ) → i < count → (span_at packets.at i).from ≡ arrival_of records i
    from_is = unfold packets_of in set.packets_are.from_is

    till_is : (i : ℕ) → i < count → (span_at packets.at i).till ≡ deadline_of records i
    till_is = unfold packets_of in set.packets_are.till_is

    bytes_are : (i : ℕ) → i < count → (span_at packets.at i).weight ≡ air_bytes (size_of records i)
    bytes_are = unfold packets_of in set.packets_are.weight_is

    epochs_count : epochs.count ≡ pred points.count
    epochs_count = unfold neighbours in set.epochs_are.count_is

    seconds_are : (k : ℕ) → k < pred points.count → (span_at epochs.at k).weight ≡ get_or points.at (suc k) 0 - get_or points.at k 0
    seconds_are = unfold neighbours in set.epochs_are.weight_is

    -- the epochs are those of the list
    epochs_here : Spanned (epochs_of P) epochs
    unfolding epochs_of neighbours
    epochs_here =
        record {
          count_is = set.epochs_are.count_is ∙ ap pred set.points_count;
          from_is = λ k h. set.epochs_are.from_is k (within k h).2 ∙ at k (within k h).0;
          till_is = λ k h. set.epochs_are.till_is k (within k h).2 ∙ at (suc k) (within k h).1;
          weight_is = λ k h. set.epochs_are.weight_is k (within k h).2 ∙ ap₂ ◌-◌ (at (suc k) (within k h).1) (at k (within k h).0);
        }
      where
        within : (k : ℕ) → k < pred (length P) → (k < points.count) × (suc k < points.count) × (k < pred points.count)
        within k h = (omega (arith, set.points_count), omega (arith, set.points_count), omega (arith, set.points_count))

    -- the place of a point is found
    place_found : (t r : ℕ) → Has t P → Before t points r → (r < points.count) × (get_or points.at r 0 ≡ t)
    place_found t r w is = go (same (dec_lt w.0 r) (dec_lt r w.0))
      where
        in_points : w.0 < points.count
        in_points = omega (arith, w.1, set.points_count)

        there : get_or points.at w.0 0 ≡ t
        there = at w.0 in_points ∙ w.2

        -- neither before it nor behind it
        same : Dec (w.0 < r) → Dec (r < w.0) → r ≡ w.0
        same (yes p) q = absurd (omega (arith, is.below w.0 p, there))
        same (no p) (yes q) = absurd (omega (arith, is.next (omega (arith, q, in_points)), rises r w.0 q in_points, there))
        same (no p) (no q) = omega (arith, p, q)

        go : r ≡ w.0 → (r < points.count) × (get_or points.at r 0 ≡ t)
        go e = (omega (arith, e, in_points), ap (λ (k : ℕ). get_or points.at k 0) e ∙ there)

    -- where the arrivals and the deadlines stand among the points
    packet_in : (j : ℕ) → j < packets.count → (due_at row j).packet < count
    packet_in j h = omega (arith, (set.row_is.each j h).packet_in, packets_count)

    started : (j : ℕ) → j < packets.count → ((due_at row j).arrival_point < points.count) × (get_or points.at (due_at row j).arrival_point 0 ≡ (due_at row j).arrival)
    started j h =
        let d = set.row_is.each j h in
        let e = d.arrival_is ∙ from_is _ (packet_in j h) in
        place_found _ _ (subst (λ (t : ℕ). Has t P) (sym e) (points_arrival count records (due_at row j).packet (packet_in j h))) d.arrival_at

    ended : (j : ℕ) → j < packets.count → ((due_at row j).deadline_point < points.count) × (get_or points.at (due_at row j).deadline_point 0 ≡ (due_at row j).deadline)
    ended j h =
        let d = set.row_is.each j h in
        let e = d.deadline_is ∙ till_is _ (packet_in j h) in
        place_found _ _ (subst (λ (t : ℕ). Has t P) (sym e) (points_deadline count records (due_at row j).packet (packet_in j h))) d.deadline_at

    -- arrivals are of this day
    early : (i : ℕ) → i < count → (span_at packets.at i).from ≤ 86400
    early i h = omega (arith, from_is i h, (accepted.sound i h).early, (accepted.sound i h).today)

    -- the figures of a round are in range
    pub ready : Ready points packets epochs row
    ready =
        record {
          few = omega (arith, accepted.few, packets_count);
          some = n_some;
          epochs_are = epochs_count;
          bytes_most = λ i h.
              let q : i < count = omega (arith, h, packets_count) in
              rw (bytes_are i q) (air_most (size_of records i) (accepted.sound i q).small);
          seconds_most = λ k h.
              let q : k < pred points.count = omega (arith, h, epochs_count) in
              omega (arith, seconds_are k q, at (suc k) (omega arith), points_today count records accepted (suc k) (omega (arith, set.points_count)));
          arrival_most = λ j h.
              let d = set.row_is.each j h in
              rw d.arrival_is (early (due_at row j).packet (packet_in j h));
          packet_in = λ j h. (set.row_is.each j h).packet_in;
          arrival_in = λ j h. (started j h).0;
          deadline_in = λ j h. (ended j h).0;
        }

    -- ## The board

    -- epochs lie between the points
    epochs_fewer : day.epochs.count ≡ pred (length P)
    epochs_fewer = unfold day_of epochs_of in refl

    one_more : points.count ≡ suc day.epochs.count
    one_more = omega (arith, epochs_fewer, set.points_count, points_some)

    within : (k : ℕ) → k < day.epochs.count → (k < points.count) × (suc k < points.count)
    within k h = (omega (arith, h, one_more), omega (arith, h, one_more))

    module _ (done : Progress) (gifts : Gifts) (passed : List ℕ) (left : List Left) (agrees : Agrees day done gifts) (passed_is : Passed epochs gifts.epochs passed) (bytes_are' : (j : ℕ) → j < packets.count → (left_at left j).bytes ≡ left_over (slice_index_or gifts.packets (due_at row j).packet None) (span_at packets.at (due_at row j).packet).weight) (seconds_are' : (j : ℕ) → j < packets.count → (left_at left j).seconds ≡ get_or passed (due_at row j).deadline_point 0) where
      abbrev rest : ℕ → ℕ
      rest i = left_over (slice_index_or gifts.packets i None) (span_at packets.at i).weight

      abbrev room : ℕ → ℕ
      room k = left_over (slice_index_or gifts.epochs k None) (span_at epochs.at k).weight

      packets_left : PacketsLeft day done packets.count (λ i. (span_at packets.at i).from) (λ i. (span_at packets.at i).till) rest
      unfolding day_of packets_of left_over
      packets_left =
          record {
            count_is = packets_count;
            from_is = λ i h. from_is i (omega (arith, h, packets_count));
            till_is = λ i h. till_is i (omega (arith, h, packets_count));
            rest_is = λ i h.
                let q : i < count = omega (arith, h, packets_count) in
                ap₂ only_if (ap unassigned (agrees.packets i q)) (bytes_are i q);
          }

      epochs_left : EpochsLeft day done points.count points.at room
      unfolding day_of epochs_of left_over
      epochs_left =
          record {
            n_is = one_more;
            rising = rises;
            epoch_from = λ k h. at k (within k h).0;
            epoch_till = λ k h. at (suc k) (within k h).1;
            room_is = λ k h. ap₂ only_if (ap unassigned (agrees.epochs k h)) (epochs_here.weight_is k h);
          }

      board : Board day done packets.count (λ i. (due_at row i).arrival) (λ i. get_or passed (due_at row i).arrival_point 0) (due_at row) (left_at left)
      board =
          record {
            count_is = packets_left.count_is;
            starts = λ j h.
                let d = set.row_is.each j h in
                ((due_at row j).packet, d.packet_in, d.arrival_is ∙ packets_left.from_is _ d.packet_in);
            all_starts = λ k h.
                let x = set.row_is.holds k h in
                (x.0, x.1, (set.row_is.each x.0 x.1).arrival_is ∙ ap (λ (p : ℕ). (span_at packets.at p).from) x.2 ∙ packets_left.from_is k h);
            ends = λ j h.
                let d = set.row_is.each j h in
                ((due_at row j).packet, d.packet_in, d.deadline_is ∙ packets_left.till_is _ d.packet_in);
            all_ends = λ k h. let x = set.row_is.ends k h in (x.0, x.1, x.2, x.3 ∙ packets_left.till_is k h);
            load_is = load_is;
            len_is = len_is;
          }
        where
          load_is : (s j : ℕ) → j < packets.count → (due_at row j).last ≡ true → due_to (due_at row) (left_at left) s (suc j) ≡ load day done s (due_at row j).deadline
          load_is s j h m =
              unfold due_to in
              (sum_eq (suc j) _ (λ k. F (due_at row k).packet)
              (λ k q. ap₂ (counted_from s) (set.row_is.each k (omega arith)).arrival_is (bytes_are' k (omega arith))) ∙
              set.row_is.up_to j h m F ∙
              load_carried day done packets.count _ _ rest packets_left s (due_at row j).deadline)
            where
              F : ℕ → ℕ
              F p = counted_from s (span_at packets.at p).from (rest p)

          len_is : (i j : ℕ) → i < packets.count → j < packets.count
              → (left_at left j).seconds - get_or passed (due_at row i).arrival_point 0 ≡ len day done (due_at row i).arrival (due_at row j).deadline
          len_is i j g h =
              ap₂ ◌-◌ (seconds_are' j h ∙ passed_is.is (due_at row j).deadline_point (omega (arith, (ended j h).0, epochs_count)))
              (passed_is.is (due_at row i).arrival_point (omega (arith, (started i g).0, epochs_count))) ∙
              len_carried day done points.count points.at room epochs_left (due_at row i).arrival_point (due_at row j).deadline_point (started i g).0 (ended j h).0 ∙
              ap₂ (len day done) (started i g).1 (ended j h).1

  -- ## One turn

  module _ (setup : Setup) (set : SetUp count records setup.points setup.packets setup.epochs setup.row) where
    module _ (r : ℕ) (gifts : Gifts) (best : Option Leader) (agrees : Agrees day (after day r) gifts) (leads : LeaderIs setup gifts best) where
      abbrev done : Progress
      done = after day r

      facts_now : Facts day done
      facts_now = after_facts day (proper count records accepted) r

      here : Board day done setup.packets.count (λ i. (due_at setup.row i).arrival) (λ i. get_or leads.passed (due_at setup.row i).arrival_point 0) (due_at setup.row) (left_at leads.left)
      here =
          board setup.points setup.packets setup.epochs setup.row set done gifts leads.passed leads.left agrees leads.passed_is
          leads.left_is.bytes_are leads.left_is.seconds_are

      -- a leader is the pick
      picked : (leader : Leader) → best ≡ Some leader
          → (pick day done ≡ between leader.start leader.end)
          × (leader.load ≡ load day done leader.start leader.end)
          × (leader.len ≡ len day done leader.start leader.end)
          × (0 < leader.load)
      picked leader e = leader_picked day done _ _ _ _ _ here facts_now.positive leader (sym leads.leads ∙ e)

      -- a leader has length
      pub leader_long : (leader : Leader) → best ≡ Some leader → 0 < leader.len
      leader_long leader e =
          let x = picked leader e in
          subst (λ (k : ℕ). 0 < k) (sym x.2) (facts_now.positive leader.start leader.end (subst (λ (k : ℕ). 0 < k) x.1 x.3))

      -- the round takes the leader
      round_taken : (leader : Leader) → best ≡ Some leader
          → after day (suc r) ≡ give_rate day done leader.start leader.end (lowest_n leader.load leader.len) (lowest_d leader.load leader.len)
      round_taken leader e =
          let x = picked leader e in
          unfold after round round_of taken in
          (ap (round_of day done) x.0 ∙
          (λ i. give_rate day done leader.start leader.end (lowest_n (sym x.1 i) (sym x.2 i)) (lowest_d (sym x.1 i) (sym x.2 i))))

      -- the gifts after it stand for what the round gives
      pub turn_on : (leader : Leader) → best ≡ Some leader → (gifts' : Gifts) → Taken setup leader gifts gifts' → Agrees day (after day (r + 1)) gifts'
      turn_on leader e gifts' t =
          rw add-one (subst (λ (x : Progress). Agrees day x gifts') (ap₂ (give_rate day done leader.start leader.end) t.n_is t.d_is ∙ sym (round_taken leader e)) next)
        where
          next : Agrees day (give_rate day done leader.start leader.end t.rate.n t.rate.d) gifts'
          next =
              unfold give_rate day_of in
              record {
                packets = λ i q. gift_assigns (packets_of count records) done.packet setup.packets gifts.packets gifts'.packets _ _ t.rate i q set.packets_are (agrees.packets i q) t.packets;
                epochs = λ k q.
                    gift_assigns (epochs_of P) done.epoch setup.epochs gifts.epochs gifts'.epochs _ _ t.rate k q
                    (epochs_here setup.points setup.packets setup.epochs setup.row set) (agrees.epochs k q) t.epochs;
              }

      -- and it counts
      pub turn_counts : (leader : Leader) → best ≡ Some leader → (after day r).rounds ≡ r → (after day (r + 1)).rounds ≡ r + 1
      turn_counts leader e c = rw add-one (ap (λ (x : Progress). x.rounds) (round_taken leader e) ∙ unfold give_rate in ap suc c)

      few : (m : ℕ) → (after day m).rounds ≤ count
      few m = unfold day_of packets_of in rounds_few day (proper count records accepted) m

      -- rounds are at most as many as packets
      pub turns_few : (leader : Leader) → best ≡ Some leader → (after day r).rounds ≡ r → r + 1 ≤ count
      turns_few leader e c = omega (arith, few (r + 1), turn_counts leader e c)

      -- without a leader the rounds are over
      pub over : best ≡ None → (after day r).rounds ≡ r → after day count ≡ done
      over h c = rests day r (unfold round round_of in (rw none_picked refl)) count (omega (arith, few r, c))
        where
          none_picked : pick day done ≡ nowhere
          none_picked = no_leader day done _ _ _ _ _ here facts_now.positive (sym leads.leads ∙ h)

    -- ## The beginning and the end

    -- at first nothing is given
    pub first_agrees : Agrees day (after day 0) (record { packets = replicate 64 None; epochs = replicate 128 None })
    unfolding after
    first_agrees = agrees_first day 64 128 packets_few epochs_few
      where
        packets_few : day.packets.count ≤ 64
        packets_few = unfold day_of packets_of in omega (arith, accepted.few)

        fewer : pred (length P) ≤ 128
        fewer = omega (arith, points_most)

        epochs_few : day.epochs.count ≤ 128
        epochs_few = unfold day_of epochs_of in fewer

    pub first_counts : (after day 0).rounds ≡ 0
    unfolding after at_first
    first_counts = refl

    -- the end of the rounds
    pub rated : (r : ℕ) (gifts : Gifts) → Agrees day (after day r) gifts → (after day r).rounds ≡ r → after day count ≡ after day r
        → Rated count records (record { points = setup.points; packets = gifts.packets; epochs = gifts.epochs; rounds = r })
    unfolding outcome_of day_of packets_of epochs_of
    rated r gifts agrees counted end =
        record {
          points_are = set.points_are;
          n_is = set.points_count;
          packets_are = λ i h. agrees.packets i h ∙ ap (λ (x : Progress). x.packet i) (sym end);
          epochs_are = λ k h. agrees.epochs k (subst (λ (x : ℕ). k < pred x) set.points_count h) ∙ ap (λ (x : Progress). x.epoch k) (sym end);
          rounds_are = sym counted ∙ ap (λ (x : Progress). x.rounds) (sym end);
        }
