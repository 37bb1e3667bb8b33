-- The whole call, step by step: the timetable of accepted packets goes to the plan writer, which can refuse it only for the room (`Passing`); a list that is
-- read gives accepted packets, and one that is refused is refused as it is. Assumes nothing.
use Prim.Native.Nat.{ℕ, ◌*◌}
use mathlib.Core.Path.{◌≡◌, refl, sym, ap, subst, ◌∙◌}
use mathlib.Core.Bool.{Bool, true, false}
use mathlib.Core.List.{List, [], ◌∷◌, ◌++◌}
use native.Mathlib.Omega.{arith}
use lib.ListN.{length, take, drop}
use lib.Seq.{take_at, take_all}
use lib.Dec.{ltb}
use Rattle.packets.specs.Outcome.{Outcome, gives, refuses, ◌when◌else◌, ◌given◌else◌, refusal_of}
use Rattle.packets.specs.declared.refusal.Refusal.{Refusal}
use Rattle.packets.specs.Limits.{most_packets}
use Rattle.packets.specs.Records.{Accepted, record_numbers}
use Rattle.packets.specs.List.{count_on, records_on}
use Rattle.packets.specs.List as list
use Rattle.packets.proofs.Outcomes.{passed_then, given_leaves, refused_leaves}
use Rattle.packets.proofs.Answers.{refusal_gives}
use Rattle.packets.proofs.Lists.{read_passes, read_refused, read_told, length_records}
use Rattle.policy.specs.Rounds.{outcome_of}
use Rattle.timetable.specs.declared.Timetable.{Timetable}
use Rattle.timetable.specs.declared.entry.Entry as Made
use Rattle.policy.specs.Answer.{overwritten}
use Rattle.timetable.specs.Entries.{entries_of}
use Rattle.timetable.specs.Steps.{Planned, entry_of, first_numbers}
use Rattle.timetable.specs.Costs.{cost_of}
use Rattle.plan.specs.Entries.{entry_numbers}
use Rattle.plan.specs.Frame as plan
use Rattle.plan.specs.Frame.{frame_bytes, framed}
use Rattle.plan.proofs.Framing.{fitting_memory}
use Rattle.planner.specs.Whole.{plan_numbers, packets_outcome, packets_framed, plan_outcome, frame_after, Packed, Whole}
use Rattle.std.specs.Prelude.{Result, map}
use Rattle.planner.proofs.Passing.{fitting, length_numbers, numbers_six}

-- ---- accepted packets

module _ (count : ℕ) (records behind frame : List ℕ) (accepted : Accepted count records) where
  abbrev n : ℕ
  n = length (entries_of count records)

  abbrev numbers : List ℕ
  numbers = plan_numbers (entries_of count records) ++ behind

  -- the plan writer tests only the room
  room_alone : plan.write_outcome n numbers (cost_of count records) (length frame)
      ≡ (refuses 8 0 when ltb (length frame) (frame_bytes n) else gives (frame_bytes n ∷ []))
  unfolding plan.write_outcome
  room_alone = passed_then _ (sym (fitting_memory n numbers (cost_of count records) (fitting count records behind accepted)))

  -- and writes the list's plan
  same_frame : framed n numbers (cost_of count records) frame ≡ packets_framed count records frame
  unfolding framed packets_framed
  same_frame =
      let long = length_numbers (entries_of count records) in
      let front : take (entry_numbers * n) numbers ≡ plan_numbers (entries_of count records) = take_at (plan_numbers (entries_of count records)) behind (entry_numbers * n) long in
      let own : take (entry_numbers * n) (plan_numbers (entries_of count records)) ≡ plan_numbers (entries_of count records) = take_all (entry_numbers * n) (plan_numbers (entries_of count records)) (omega arith) in
      rw (front, own)

  -- the values that the packets are planned with
  abbrev values : List ℕ
  values = (outcome_of count records).rounds ∷ n ∷ cost_of count records ∷ []

  -- so its answer is the answer for the packets: by the one test that is left
  data Ways : Type 0 where
    short : plan.write_outcome n numbers (cost_of count records) (length frame) ≡ refuses 8 0 → packets_outcome count records (length frame) ≡ refuses 8 0 → Ways
    enough : plan.write_outcome n numbers (cost_of count records) (length frame) ≡ gives (frame_bytes n ∷ [])
        → packets_outcome count records (length frame) ≡ gives values → Ways

  ways : Ways
  unfolding packets_outcome ◌when◌else◌
  ways = go (ltb (length frame) (frame_bytes n)) refl
    where
      go : (b : Bool) → ltb (length frame) (frame_bytes n) ≡ b → Ways
      go true t = short (room_alone ∙ rw t) (rw t)
      go false t = enough (room_alone ∙ rw t) (rw t)

  -- what the packets leave in the frame
  abbrev left : List ℕ
  left = packets_framed count records frame given packets_outcome count records (length frame) else frame

  pub written_packs : (bytes : ℕ) → gives (bytes ∷ []) ≡ plan.write_outcome n numbers (cost_of count records) (length frame)
      → (gives values ≡ packets_outcome count records (length frame)) × (plan.frame_after n numbers (cost_of count records) frame ≡ left)
  unfolding plan.frame_after
  written_packs bytes e = go ways
    where
      go : Ways → (gives values ≡ packets_outcome count records (length frame))
          × ((framed n numbers (cost_of count records) frame given plan.write_outcome n numbers (cost_of count records) (length frame) else frame) ≡ left)
      go (short w p) = let z : ◌≡◌ {A = ℕ} 0 1 = cc in absurd (omega arith)
      go (enough w p) = (sym p, given_leaves _ _ (sym w) ∙ same_frame ∙ sym (given_leaves _ _ (sym p)))

  pub refused_packs : (refusal : Refusal) → refusal_of refusal ≡ plan.write_outcome n numbers (cost_of count records) (length frame)
      → (refusal_of refusal ≡ packets_outcome count records (length frame)) × (plan.frame_after n numbers (cost_of count records) frame ≡ left)
  unfolding plan.frame_after
  refused_packs refusal e = go ways
    where
      go : Ways → (refusal_of refusal ≡ packets_outcome count records (length frame))
          × ((framed n numbers (cost_of count records) frame given plan.write_outcome n numbers (cost_of count records) (length frame) else frame) ≡ left)
      go (short w p) =
          let same : refusal_of refusal ≡ packets_outcome count records (length frame) = e ∙ w ∙ sym p in
          (same, refused_leaves refusal _ _ e ∙ sym (refused_leaves refusal _ _ same))
      go (enough w p) = refusal_gives refusal _ (e ∙ w)

-- ---- the list

module _ (bytes frame : List ℕ) where
  -- a list that is read: its packets go on
  pub list_packs : (room : ℕ) (values : List ℕ) → gives values ≡ list.read_outcome bytes room → packets_outcome (count_on bytes) (records_on bytes) (length frame) ≡ plan_outcome bytes (length frame)
  unfolding plan_outcome
  list_packs room values e =
      let p = read_passes bytes room values (sym e) in
      sym (passed_then _ p.0 ∙ passed_then _ p.1)

  -- a list that is refused
  pub list_refuses : (refusal : Refusal) → refusal_of refusal ≡ list.read_outcome bytes (record_numbers * most_packets)
      → (refusal_of refusal ≡ plan_outcome bytes (length frame)) × (frame ≡ frame_after bytes frame)
  unfolding plan_outcome frame_after
  list_refuses refusal e =
      let same = read_refused bytes refusal (packets_outcome (count_on bytes) (records_on bytes) (length frame)) e in
      (same, sym (refused_leaves refusal _ _ same))

-- ---- the timetable's numbers in the plan writer's rows

-- what stands behind the plan's numbers in a longer buffer
rest : ℕ → List ℕ → List ℕ → List ℕ
rest count records zeros = drop (length (plan_numbers (entries_of count records))) zeros

module _ (count : ℕ) (records frame zeros rows : List ℕ) (made_entries : List Made.Entry) (made : Timetable) (accepted : Accepted count records) (planned : Planned count records made_entries made)
    (written : rows ≡ overwritten (first_numbers 6 (map entry_of (take made.entries made_entries))) zeros) where
  -- the rows are the plan's numbers, and behind them what stood there
  rows_are : rows ≡ plan_numbers (entries_of count records) ++ rest count records zeros
  unfolding rest overwritten
  rows_are = written ∙ ap (λ (l : List ℕ). l ++ drop (length l) zeros) (ap (first_numbers 6) planned.entries_are ∙ numbers_six (entries_of count records))

  -- so the plan writer is asked for the list's plan
  asked : plan.write_outcome made.entries rows made.cost (length frame)
      ≡ plan.write_outcome (length (entries_of count records)) (plan_numbers (entries_of count records) ++ rest count records zeros) (cost_of count records) (length frame)
  asked = rw (planned.count_is, planned.cost_is, rows_are)

  filled : plan.frame_after made.entries rows made.cost frame
      ≡ plan.frame_after (length (entries_of count records)) (plan_numbers (entries_of count records) ++ rest count records zeros) (cost_of count records) frame
  filled = rw (planned.count_is, planned.cost_is, rows_are)

  pub plan_written : (bytes : ℕ) {after : List ℕ} → gives (bytes ∷ []) ≡ plan.write_outcome made.entries rows made.cost (length frame)
      → after ≡ plan.frame_after made.entries rows made.cost frame
      → (gives (made.rounds ∷ made.entries ∷ made.cost ∷ []) ≡ packets_outcome count records (length frame))
      × (after ≡ (packets_framed count records frame given packets_outcome count records (length frame) else frame))
  plan_written bytes e f =
      let p = written_packs count records (rest count records zeros) frame accepted bytes (e ∙ asked) in
      (rw (planned.rounds_are, planned.count_is, planned.cost_is) p.0, f ∙ filled ∙ p.1)

  pub plan_refused : (refusal : Refusal) {after : List ℕ} → refusal_of refusal ≡ plan.write_outcome made.entries rows made.cost (length frame)
      → after ≡ plan.frame_after made.entries rows made.cost frame
      → (refusal_of refusal ≡ packets_outcome count records (length frame))
      × (after ≡ (packets_framed count records frame given packets_outcome count records (length frame) else frame))
  plan_refused refusal e f =
      let p = refused_packs count records (rest count records zeros) frame accepted refusal (e ∙ asked) in
      (p.0, f ∙ filled ∙ p.1)

-- ---- from the list's records to the whole call

module _ (bytes lent after : List ℕ) (count used : ℕ) (told : gives (count ∷ used ∷ []) ≡ list.read_outcome bytes (length lent))
    (held : after ≡ list.records_after bytes lent) where
  packets_are : count ≡ count_on bytes
  packets_are = (read_told bytes (length lent) count used told).packets

  -- the first numbers that were read are the list's records
  pub records_are : take (record_numbers * count) after ≡ records_on bytes
  unfolding list.records_after
  records_are =
      let long : length (records_on bytes) ≡ record_numbers * count_on bytes = (unfold records_on in (length_records bytes (count_on bytes))) in
      ap (take (record_numbers * count)) (held ∙ given_leaves _ _ told) ∙ rw packets_are (take_at (records_on bytes) _ (record_numbers * count_on bytes) long)

  pub records_accepted : Accepted count (take (record_numbers * count) after)
  records_accepted = rw (records_are, packets_are) (read_passes bytes (length lent) (count ∷ used ∷ []) (sym told)).2

  -- what the packets come to is what the list comes to
  pub list_planned : (frame : List ℕ) (answer : Result Timetable Refusal) (exit : List ℕ) → Packed count (take (record_numbers * count) after) frame answer exit → Whole bytes frame answer exit
  unfolding frame_after
  list_planned frame answer exit p =
      let same : packets_outcome (count_on bytes) (records_on bytes) (length frame) ≡ plan_outcome bytes (length frame) = list_packs bytes frame (length lent) _ told in
      let q : Packed (count_on bytes) (records_on bytes) frame answer exit =
      subst (λ (l : List ℕ). Packed (count_on bytes) l frame answer exit) records_are
      (subst (λ (k : ℕ). Packed k (take (record_numbers * count) after) frame answer exit) packets_are p) in
      (q.0 ∙ same, q.1 ∙ ap (λ (o : Outcome). packets_framed (count_on bytes) (records_on bytes) frame given o else frame) same)
