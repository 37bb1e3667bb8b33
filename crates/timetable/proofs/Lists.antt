-- Every accepted list has a timetable: each entry stands where it may, in time order; every packet is sent whole, every epoch that carries a rate is full, and
-- every figure is in range. Assumes nothing.
use Prim.Native.Nat.{ℕ, suc, pred, ◌*◌, ◌<◌, ◌≤◌}
use mathlib.Core.Path.{◌≡◌, refl, sym, ap, subst, ◌∙◌}
use mathlib.Core.List.{List, [], ◌∷◌}
use native.Mathlib.Omega.{arith}
use native.Mathlib.Nat.{le_trans, mul-pos, mul-le-mul, mul-le-mul_left}
use lib.ListN.{length}
use Rattle.packets.specs.Limits.{last_second}
use Rattle.packets.specs.Records.{Accepted}
use Rattle.policy.specs.Windows.{Given}
use Rattle.policy.specs.Points.{points_of, packets_of, epochs_of}
use Rattle.policy.specs.Rounds.{Day, Progress, day_of, outcome_of}
use Rattle.policy.specs.Answer.{epoch_count, shown_d}
use Rattle.policy.proofs.Sums.{sum_at}
use Rattle.policy.proofs.EventPoints.{points_few, points_rising, rising_le}
use Rattle.policy.proofs.Proper.{RateInRange}
use Rattle.policy.proofs.Accepting.{proper, points_today}
use Rattle.policy.proofs.Ending.{after_facts, all_finished}
use Rattle.policy.proofs.Facts.{assigned}
use Rattle.timetable.specs.Setting.{most_rate}
use Rattle.timetable.specs.Entries.{Entry, entries_of, exact_moment, radio_moment, sheet_at, units_in, units_of}
use Rattle.timetable.specs.Right.{Each, Figured, InsideEpoch, Right, Timetable, of_packet, units_where}
use Rattle.timetable.proofs.NeverLate.{Rated, all_sent, full, quiet}
use Rattle.timetable.proofs.Entered.{Entered, each_map, entered}
use Rattle.timetable.proofs.Settings.{setting_covers, setting_most, setting_some}

module _ (count : ℕ) (records : List ℕ) (accepted : Accepted count records) where
  abbrev day : Day
  day = day_of count records

  abbrev rates : Progress
  rates = outcome_of count records

  epochs_number : day.epochs.count ≡ pred (length (points_of count records))
  epochs_number = unfold day_of epochs_of in refl

  -- an epoch has a point at its end
  end_point : (k : ℕ) → k < day.epochs.count → suc k < length (points_of count records)
  end_point k h = omega (arith, h, epochs_number)

  epochs_are : day.epochs.count ≡ epoch_count count records
  epochs_are = unfold day_of epoch_count in refl

  pub rated : Rated day rates
  unfolding day_of epochs_of outcome_of packets_of
  rated =
      record {
        proper = proper count records accepted;
        facts = after_facts (day_of count records) (proper count records accepted) count;
        finished = all_finished (day_of count records) (proper count records accepted);
        rising = λ j k h q. rising_le (points_of count records) (points_rising count records) (suc j) k h (omega (arith, end_point k q));
        seconds = λ k h. refl;
      }

  -- at most 127 epochs
  pub epochs_few : day.epochs.count ≤ 127
  epochs_few = omega (arith, epochs_number, points_few count records, accepted.few)

  packets_are : day.packets.count ≡ count
  packets_are = unfold day_of packets_of in refl

  -- every packet has something to send
  pub units_some : (i : ℕ) → i < count → 0 < units_of day rates i
  unfolding units_of
  units_some i h =
      let i_is : i < day.packets.count = omega (arith, packets_are) in
      let a = assigned (rates.packet i) (rated.finished i i_is) in
      let f = rated.facts.packet_rate i a.0 a.1.0 i_is a.1.1 in
      subst (λ (x : Given). 0 < day.packets.weight i * shown_d x) (sym a.1.1)
      (unfold shown_d in mul-pos (rated.proper.some_bytes i i_is) f.d_some)

  -- the entries are those of the last sheet
  pub entries_are : (sheet_at day rates day.epochs.count).entries ≡ entries_of count records
  entries_are = ap (λ (k : ℕ). (sheet_at day rates k).entries) epochs_are ∙ (unfold entries_of in refl)

  pub timetable : Timetable day rates (entries_of count records)
  timetable =
      subst (Timetable day rates) entries_are
      (record {
        right = here.right;
        ordered = here.ordered;
        whole = whole;
        full = λ k n d h p. here.epoch_units k h ∙ full day rates rated k n d h p;
        silent = λ k h p. here.epoch_units k h ∙ quiet day rates rated k p;
        some = go (sheet_at day rates day.epochs.count).entries (whole 0 (omega (arith, packets_are, accepted.some)));
        few = omega (arith, here.counted, packets_are, epochs_few, accepted.few);
      })
    where
      here : Entered day rates rated day.epochs.count (sheet_at day rates day.epochs.count)
      here = entered day rates rated day.epochs.count (omega arith)

      whole : (i : ℕ) → i < day.packets.count → units_where (of_packet i) (sheet_at day rates day.epochs.count).entries ≡ units_of day rates i
      whole i h = omega (arith, here.packet_units i, all_sent day rates rated i h)

      go : (entries : List Entry) → units_where (of_packet 0) entries ≡ units_of day rates 0 → 0 < length entries
      go [] e = absurd (omega (arith, e, nothing, units_some 0 accepted.some))
        where
          nothing : units_where (of_packet 0) [] ≡ 0
          nothing = unfold units_where in refl
      go (x ∷ entries) e = omega arith

  -- the rate of an entry is in range
  rate_in_range : (e : Entry) → Right day rates e → RateInRange e.N e.D
  rate_in_range e r = rated.facts.epoch_rate r.epoch e.N e.D r.epoch_is r.carries

  -- an epoch starts before the last second, and is at most a day long
  epoch_day : (k : ℕ) → k < day.epochs.count → (day.epochs.from k < last_second) × (day.epochs.weight k ≤ last_second)
  epoch_day k h =
      (omega (arith, rated.proper.epoch k h, till), le_trans (sum_at day.epochs.count day.epochs.weight k h) rated.proper.seconds)
    where
      till : day.epochs.till k ≤ last_second
      till = unfold day_of epochs_of in points_today count records accepted (suc k) (end_point k h)

  figured_one : (e : Entry) → Right day rates e → Figured e
  figured_one e r =
      let f = rate_in_range e r in
      let w = epoch_day r.epoch r.epoch_is in
      let r_most : e.R ≤ most_rate = subst (λ (x : ℕ). x ≤ most_rate) (sym r.set) (setting_most e.N e.D f) in
      let to_most : e.to ≤ last_second * most_rate = le_trans r.fits (unfold units_in in mul-le-mul w.1 f.n_most) in
      record {
        packet_fits = omega (arith, r.packet_is, packets_are, accepted.few);
        r_fits = omega arith;
        to_fits = omega (arith, to_most);
        r_some = subst (λ (x : ℕ). 0 < x) (sym r.set) (setting_some e.N e.D f.n_some f.d_some);
        d_some = f.d_some;
        d_most = f.d_most;
        start_most = omega (arith, r.starts, w.0);
        some = r.some;
        r_most = r_most;
        n_most = f.n_most;
      }

  pub figured : Each Figured (entries_of count records)
  figured = each_map figured_one (entries_of count records) timetable.right

  pub inside_epoch : (e : Entry) (r : Right day rates e) → InsideEpoch day e r.epoch
  unfolding exact_moment radio_moment
  inside_epoch e r =
      record {
        exact = fits;
        radio = le_trans fits (mul-le-mul_left (day.epochs.weight r.epoch) pace);
        not_later = λ x. mul-le-mul_left x pace;
      }
    where
      fits : e.to ≤ day.epochs.weight r.epoch * e.N
      fits = unfold units_in in r.fits

      pace : e.N ≤ e.D * e.R
      pace = omega (arith, setting_covers e.N e.D (rate_in_range e r).d_some, ap (λ (x : ℕ). x * e.D) r.set)
