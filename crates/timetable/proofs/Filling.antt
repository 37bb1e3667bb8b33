-- The stretches of one epoch in code. After each turn the arrays hold the definition's sheet; once nobody is next, the epoch is settled, and further turns of the
-- definition change nothing. Assumes nothing.
use Prim.Native.Nat.{ℕ, zero, suc, ◌+◌, ◌-◌, ◌*◌, ◌<◌, ◌≤◌, min}
use mathlib.Core.Path.{◌≡◌, refl, sym, ap, ap₂, subst, ◌∙◌}
use mathlib.Core.Bool.{Bool, ◌&&◌}
use mathlib.Core.List.{List, [], ◌∷◌, ◌++◌, map, map-append}
use native.Mathlib.Omega.{arith}
use native.Mathlib.Decide.{ℕ_discrete}
use native.Mathlib.Nat.{add_comm, mul-le-mul}
use native.Mathlib.Numerals.{add-one}
use lib.ListN.{length, get_or, take, set, length-append, length-set}
use lib.Seq.{get_or-set_same, get_or-set_other, take-suc-set}
use lib.Dec.{leb, ltb}
use Rattle.std.specs.Prelude.{Option, Some, None}
use Rattle.fractions.specs.declared.Rate.{Rate}
use Rattle.packets.specs.Limits.{last_second}
use Rattle.packets.specs.Records.{Accepted, arrival_of, deadline_of}
use Rattle.policy.specs.Windows.{Given, none, rate, choose, inside}
use Rattle.policy.specs.Points.{packets_of}
use Rattle.policy.specs.Rounds.{Day, Progress, day_of, outcome_of}
use Rattle.policy.specs.Carried.{carries}
use Rattle.policy.specs.Answer.{given_at}
use Rattle.policy.proofs.Sums.{sum_at}
use Rattle.policy.proofs.Proper.{RateInRange}
use Rattle.timetable.specs.declared.entry.Entry as Made
use Rattle.timetable.specs.declared.epoch.Epoch.{Epoch}
use Rattle.timetable.specs.Setting.{setting, most_rate}
use Rattle.timetable.specs.Entries.{Choice, nobody, packet, Entry, Sheet, begun, candidate, earliest, eligible, filled, less, next_in, sent, sheet_at, sooner, turn_of, turns, units_in}
use Rattle.timetable.specs.Right.{most_entries}
use Rattle.timetable.specs.Steps.{Carrying, Sheeted, among, entry_of, next_of, number_of, sendable_at}
use Rattle.timetable.proofs.Turning.{Next, Settled, Stretch, less_other, less_same, next_is, next_one, none_next, settled, turns_rest}
use Rattle.timetable.proofs.Entered.{new_entry, room_for_one}
use Rattle.timetable.proofs.Lists.{epochs_few, rated}

-- ## Entries

-- one entry more
entries_more : (n : ℕ) (entries : List Made.Entry) (e : Made.Entry) → n < length entries
    → map entry_of (take (n + 1) (set entries n e)) ≡ map entry_of (take n entries) ++ (entry_of e ∷ [])
entries_more n entries e h = rw (add-one, take-suc-set entries n e h) (map-append entry_of (take n entries) (e ∷ []))

-- ## Who is next

nobody_is : number_of nobody ≡ None
unfolding number_of
nobody_is = refl

one_is : (i : ℕ) → number_of (packet i) ≡ Some i
unfolding number_of
one_is i = refl

earliest_same : (f g : ℕ → Bool) (deadline : ℕ → ℕ) (n : ℕ) → ((i : ℕ) → i < n → f i ≡ g i) → earliest f deadline n ≡ earliest g deadline n
unfolding earliest
earliest_same f g deadline zero h = refl
earliest_same f g deadline (suc n) h =
    ap (sooner f deadline n) (earliest_same f g deadline n (λ i p. h i (omega arith))) ∙ go (earliest g deadline n)
  where
    go : (c : Choice) → sooner f deadline n c ≡ sooner g deadline n c
    go nobody = unfold sooner in ap (λ (b : Bool). choose b (packet n) nobody) (h n (omega arith))
    go (packet j) = unfold sooner in ap (λ (b : Bool). choose (b && ltb (deadline n) (deadline j)) (packet n) (packet j)) (h n (omega arith))

-- the sheet after t turns of an epoch
pub after_turns : ℕ → List ℕ → Epoch → ℕ → Sheet
after_turns count records epoch t =
    turns (day_of count records) (outcome_of count records) epoch.number epoch.rate.n epoch.rate.d t
    (begun (sheet_at (day_of count records) (outcome_of count records) epoch.number))

-- the arrays after some turns of an epoch
pub record Filling (count : ℕ) (records : List ℕ) (epoch : Epoch) (unsent : List ℕ) (n : ℕ) (entries : List Made.Entry) (x : ℕ) : Type 0 where
  pub turn : ℕ
  pub sheeted : Sheeted count (after_turns count records epoch turn) unsent n entries
  pub x_is : x ≡ (after_turns count records epoch turn).offset

-- what is known of the next stretch
pub record Ready (unsent : List ℕ) (n x next full : ℕ) : Type 0 where
  pub room : x < full
  pub some : 0 < get_or unsent next 0
  pub few : n < most_entries

module _ (count : ℕ) (records : List ℕ) (accepted : Accepted count records) (epoch : Epoch) (is : Carrying count records epoch) where
  abbrev day : Day
  day = day_of count records

  abbrev rates : Progress
  rates = outcome_of count records

  abbrev k : ℕ
  k = epoch.number

  packets_are : day.packets.count ≡ count
  packets_are = unfold day_of packets_of in refl

  -- ## Figures

  -- the epoch's rate is in range, and its units fit
  pub rate_fits : RateInRange epoch.rate.n epoch.rate.d
  rate_fits = (rated count records accepted).facts.epoch_rate k epoch.rate.n epoch.rate.d is.k_is is.given_is

  pub before_end : epoch.start < epoch.end
  before_end = omega (arith, (rated count records accepted).proper.epoch k is.k_is, is.start_is, is.end_is)

  pub seconds_are : epoch.end - epoch.start ≡ day.epochs.weight k
  seconds_are = sym ((rated count records accepted).seconds k is.k_is ∙ cc (is.start_is, is.end_is))

  pub seconds_fit : epoch.end - epoch.start ≤ last_second
  seconds_fit =
      omega (
        arith,
        seconds_are,
        sum_at day.epochs.count day.epochs.weight k is.k_is,
        (rated count records accepted).proper.seconds,
      )

  pub full_is : (full : ℕ) → full ≡ (epoch.end - epoch.start) * epoch.rate.n → full ≡ units_in day k epoch.rate.n
  full_is full e = e ∙ ap (λ (x : ℕ). x * epoch.rate.n) seconds_are ∙ (unfold units_in in refl)

  pub full_fits : (full : ℕ) → full ≡ (epoch.end - epoch.start) * epoch.rate.n → full ≤ last_second * most_rate
  full_fits full e = subst (λ (x : ℕ). x ≤ last_second * most_rate) (sym e) (mul-le-mul seconds_fit rate_fits.n_most)

  -- ## One epoch

  abbrev after : ℕ → Sheet
  after t = after_turns count records epoch t

  abbrev next_after : ℕ → Choice
  next_after t = next_in day rates k epoch.rate.n epoch.rate.d (after t)

  -- the units of the next stretch
  abbrev amount : ℕ → ℕ → ℕ
  amount t next = min ((after t).unsent next) (units_in day k epoch.rate.n - (after t).offset)

  -- at the epoch's start
  pub filling_first : (unsent : List ℕ) (n : ℕ) (entries : List Made.Entry) → Sheeted count (sheet_at day rates k) unsent n entries → Filling count records epoch unsent n entries 0
  filling_first unsent n entries u =
      record {
        turn = 0;
        sheeted =
            unfold after_turns turns begun in
            record {
              unsent_long = u.unsent_long;
              unsent_is = u.unsent_is;
              entries_long = u.entries_long;
              n_is = u.n_is;
              entries_are = u.entries_are;
            };
        x_is = unfold after_turns turns begun in refl;
      }

  module _ (given : List (Option Rate)) (rates_are : (i : ℕ) → i < count → given_at given i ≡ rates.packet i) (unsent : List ℕ) (n : ℕ) (entries : List Made.Entry)
      (x full : ℕ) (full_is : full ≡ units_in day k epoch.rate.n) (f : Filling count records epoch unsent n entries x) where
    same_test : (i : ℕ) → i < count → among records given epoch unsent i ≡ candidate day rates k epoch.rate.n epoch.rate.d (after f.turn).unsent i
    unfolding among sendable_at candidate eligible inside day_of packets_of
    same_test i h =
        ap₂ (λ (u : ℕ) (g : Given). ((carries g epoch.rate.n epoch.rate.d && (leb (arrival_of records i) epoch.start && leb epoch.end (deadline_of records i))) && ltb 0 u))
        (f.sheeted.unsent_is i h) (rates_are i h) ∙
        ap₂ (λ (a b : ℕ). ((carries (rates.packet i) epoch.rate.n epoch.rate.d && (leb (arrival_of records i) a && leb b (deadline_of records i))) && ltb 0 ((after f.turn).unsent i)))
        is.start_is is.end_is

    -- the code's choice is that of the definitions
    next_agrees : next_of count records given epoch unsent x full ≡ number_of (next_after f.turn)
    next_agrees = start ∙ same ∙ end
      where
        start : next_of count records given epoch unsent x full
            ≡ number_of (choose (ltb (after f.turn).offset (units_in day k epoch.rate.n)) (earliest (among records given epoch unsent) (deadline_of records) count) nobody)
        start =
            unfold next_of in
            ap₂ (λ (a b : ℕ). number_of (choose (ltb a b) (earliest (among records given epoch unsent) (deadline_of records) count) nobody)) f.x_is full_is

        same : number_of (choose (ltb (after f.turn).offset (units_in day k epoch.rate.n)) (earliest (among records given epoch unsent) (deadline_of records) count) nobody)
            ≡ number_of (choose (ltb (after f.turn).offset (units_in day k epoch.rate.n))
            (earliest (candidate day rates k epoch.rate.n epoch.rate.d (after f.turn).unsent) (deadline_of records) count) nobody)
        same =
            ap (λ (c : Choice). number_of (choose (ltb (after f.turn).offset (units_in day k epoch.rate.n)) c nobody))
            (earliest_same _ _ (deadline_of records) count same_test)

        end : number_of (choose (ltb (after f.turn).offset (units_in day k epoch.rate.n))
            (earliest (candidate day rates k epoch.rate.n epoch.rate.d (after f.turn).unsent) (deadline_of records) count) nobody)
            ≡ number_of (next_after f.turn)
        end = unfold next_in day_of packets_of in refl

    -- a number is next
    module _ (next : ℕ) (found : Some next ≡ next_of count records given epoch unsent x full) where
      going : Stretch day rates k epoch.rate.n epoch.rate.d (after f.turn) next (amount f.turn next) × (next_after f.turn ≡ packet next)
      going = go (next_after f.turn) refl (next_is day rates k epoch.rate.n epoch.rate.d (after f.turn)) (found ∙ next_agrees)
        where
          go : (c : Choice) → next_after f.turn ≡ c → Next day rates k epoch.rate.n epoch.rate.d (after f.turn) c → Some next ≡ number_of c
              → Stretch day rates k epoch.rate.n epoch.rate.d (after f.turn) next (amount f.turn next) × (next_after f.turn ≡ packet next)
          go _ p (none_next q) e = let z : Some next ≡ None = e ∙ nobody_is in cc
          go _ p (next_one i q) e =
              let z : Some next ≡ Some i = e ∙ one_is i in
              let w : next ≡ i = cc in (
                subst (λ (j : ℕ). Stretch day rates k epoch.rate.n epoch.rate.d (after f.turn) j (amount f.turn j)) (sym w) q,
                p ∙ ap packet (sym w),
              )

      stretch : Stretch day rates k epoch.rate.n epoch.rate.d (after f.turn) next (amount f.turn next)
      stretch = going.0

      next_below : next < count
      next_below = omega (arith, stretch.below, packets_are)

      pub ready : Ready unsent n x next full
      ready =
          record {
            room = omega (arith, f.x_is, full_is, stretch.room);
            some = omega (arith, f.sheeted.unsent_is next next_below, stretch.some, stretch.has);
            few = omega (arith, f.sheeted.n_is, one, epochs_few count records accepted, accepted.few, packets_are, is.k_is);
          }
        where
          one : length (after f.turn).entries < day.packets.count + k
          one =
              unfold after_turns in
              room_for_one day rates (rated count records accepted) k epoch.rate.n epoch.rate.d is.k_is is.given_is f.turn next _
              (unfold after_turns in stretch)

      sends : turn_of day k epoch.rate.n epoch.rate.d (after f.turn) (packet next) ≡ sent day k epoch.rate.n epoch.rate.d (after f.turn) next (amount f.turn next)
      sends = unfold turn_of in refl

      after_next : after (suc f.turn) ≡ sent day k epoch.rate.n epoch.rate.d (after f.turn) next (amount f.turn next)
      after_next = unfold after_turns turns in (ap (turn_of day k epoch.rate.n epoch.rate.d (after f.turn)) going.1 ∙ sends)

      -- what the stretch leaves in the arrays
      sheet_next : (y r : ℕ) → r ≡ setting epoch.rate.n epoch.rate.d
          → Sheeted count (sent day k epoch.rate.n epoch.rate.d (after f.turn) next y) (set unsent next (get_or unsent next 0 - y)) (n + 1)
          (set entries n (record { packet = next; start = epoch.start; r = r; d = epoch.rate.d; from = x; to = x + y; n = epoch.rate.n }))
      unfolding sent
      sheet_next y r r_is =
          record {
            unsent_long = length-set unsent next (get_or unsent next 0 - y) ∙ f.sheeted.unsent_long;
            unsent_is = λ i q. one i q (ℕ_discrete i next);
            entries_long = length-set entries n made ∙ f.sheeted.entries_long;
            n_is = omega (arith, f.sheeted.n_is, length-append (after f.turn).entries (e ∷ []));
            entries_are = entries_more n entries made (omega (arith, ready.few, f.sheeted.entries_long)) ∙ ap₂ (λ (l : List Entry) (g : Entry). l ++ (g ∷ [])) f.sheeted.entries_are same_entry;
          }
        where
          made : Made.Entry
          made = record { packet = next; start = epoch.start; r = r; d = epoch.rate.d; from = x; to = x + y; n = epoch.rate.n }

          e : Entry
          e = new_entry day k epoch.rate.n epoch.rate.d next (after f.turn).offset y

          same_entry : entry_of made ≡ e
          same_entry = unfold entry_of in cc (is.start_is, r_is, f.x_is)

          one : (i : ℕ) → i < count → Dec (i ≡ next) → get_or (set unsent next (get_or unsent next 0 - y)) i 0 ≡ less (after f.turn).unsent next y i
          one i q (yes g) =
              subst (λ (j : ℕ). get_or (set unsent next (get_or unsent next 0 - y)) j 0 ≡ less (after f.turn).unsent next y j) (sym g)
              (get_or-set_same unsent next (get_or unsent next 0 - y) 0 (omega (arith, next_below, accepted.few, f.sheeted.unsent_long)) ∙
              ap (λ (v : ℕ). v - y) (f.sheeted.unsent_is next next_below) ∙
              sym (less_same (after f.turn).unsent next y))
          one i q (no g) =
              get_or-set_other unsent next i (get_or unsent next 0 - y) 0 g ∙ f.sheeted.unsent_is i q ∙ sym (less_other (after f.turn).unsent next y i g)

      -- one stretch more
      pub filling_next : (y r : ℕ) → y ≡ min (get_or unsent next 0) (full - x) → r ≡ setting epoch.rate.n epoch.rate.d
          → Filling count records epoch (set unsent next (get_or unsent next 0 - y)) (n + 1)
          (set entries n (record { packet = next; start = epoch.start; r = r; d = epoch.rate.d; from = x; to = x + y; n = epoch.rate.n })) (x + y)
      filling_next y r y_is r_is =
          record {
            turn = suc f.turn;
            sheeted =
                subst (λ (s : Sheet). Sheeted count s (set unsent next (get_or unsent next 0 - y)) (n + 1)
                (set entries n (record { packet = next; start = epoch.start; r = r; d = epoch.rate.d; from = x; to = x + y; n = epoch.rate.n }))) sheet_is (sheet_next y r r_is);
            x_is = ap (λ (a : ℕ). a + y) f.x_is ∙ moved ∙ ap (λ (s : Sheet). s.offset) sheet_is;
          }
        where
          same : y ≡ amount f.turn next
          same = y_is ∙ cc (f.sheeted.unsent_is next next_below, full_is, f.x_is)

          sheet_is : sent day k epoch.rate.n epoch.rate.d (after f.turn) next y ≡ after (suc f.turn)
          sheet_is = ap (sent day k epoch.rate.n epoch.rate.d (after f.turn) next) same ∙ sym after_next

          moved : (after f.turn).offset + y ≡ (sent day k epoch.rate.n epoch.rate.d (after f.turn) next y).offset
          moved = unfold sent in refl

    -- nobody is next: the epoch is done
    pub filling_last : None ≡ next_of count records given epoch unsent x full → Sheeted count (sheet_at day rates (suc k)) unsent n entries
    filling_last e = subst (λ (s : Sheet). Sheeted count s unsent n entries) done f.sheeted
      where
        rest : Settled day rates k epoch.rate.n epoch.rate.d (after f.turn)
        rest = go (next_after f.turn) (next_is day rates k epoch.rate.n epoch.rate.d (after f.turn)) (e ∙ next_agrees)
          where
            go : (c : Choice) → Next day rates k epoch.rate.n epoch.rate.d (after f.turn) c → None ≡ number_of c → Settled day rates k epoch.rate.n epoch.rate.d (after f.turn)
            go _ (none_next q) p = q
            go _ (next_one i q) p = let z : None ≡ Some i = p ∙ one_is i in cc

        -- from a settled sheet on nothing changes
        stays : (t more : ℕ) → Settled day rates k epoch.rate.n epoch.rate.d (after t) → after (t + more) ≡ after t
        stays t more w = unfold after_turns in turns_rest day rates k epoch.rate.n epoch.rate.d t more _ (unfold after_turns in w)

        end : Settled day rates k epoch.rate.n epoch.rate.d (after day.packets.count)
        end = unfold after_turns in settled day rates k epoch.rate.n epoch.rate.d _

        full_turns : after f.turn ≡ after day.packets.count
        full_turns =
            sym (stays f.turn day.packets.count rest) ∙
            ap after (add_comm f.turn day.packets.count) ∙
            stays day.packets.count f.turn end

        done : after f.turn ≡ sheet_at day rates (suc k)
        done = full_turns ∙ unfolded
          where
            unfolded : after day.packets.count ≡ sheet_at day rates (suc k)
            unfolded =
                unfold after_turns sheet_at in
                sym (ap (λ (g : Given). filled day rates k g (sheet_at day rates k)) is.given_is ∙ opened)
              where
                opened : filled day rates k (rate epoch.rate.n epoch.rate.d) (sheet_at day rates k)
                    ≡ turns day rates k epoch.rate.n epoch.rate.d day.packets.count (begun (sheet_at day rates k))
                opened = unfold filled in refl

-- ## A silent epoch

pub silent : (count : ℕ) (records : List ℕ) (k : ℕ) (unsent : List ℕ) (n : ℕ) (entries : List Made.Entry) → (outcome_of count records).epoch k ≡ none
    → Sheeted count (sheet_at (day_of count records) (outcome_of count records) k) unsent n entries
    → Sheeted count (sheet_at (day_of count records) (outcome_of count records) (suc k)) unsent n entries
silent count records k unsent n entries e u =
    unfold sheet_at in
    subst (λ (g : Given). Sheeted count (filled (day_of count records) (outcome_of count records) k g (sheet_at (day_of count records) (outcome_of count records) k)) unsent n entries) (sym e)
    (unfold filled begun in
    record {
      unsent_long = u.unsent_long;
      unsent_is = u.unsent_is;
      entries_long = u.entries_long;
      n_is = u.n_is;
      entries_are = u.entries_are;
    })
