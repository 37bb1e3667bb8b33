-- List A of document 01 as its own rival, computed: over its 14 seconds the exact timetable costs 2281/4 (bytes per second, squared, times seconds). Assumes nothing.
use mathlib.Core.Path.{◌≡◌, refl}
use Rattle.packets.specs.Limits.{air_bytes}
use Rattle.packets.specs.Records.{size_of, arrival_of, deadline_of}
use Rattle.fractions.specs.Fraction.{euclid, gcd, lowest_n, lowest_d}
use Rattle.policy.specs.Windows.{assign, choose, inside, left, only_if, sum, unassigned}
use Rattle.policy.specs.Points.{epochs_of, packets_of, points_of, with_point}
use Rattle.policy.specs.Rounds.{after, at_first, beats, best_from, best_of, better, day_of, give_rate, leads, len, load, outcome_of, pick, round, round_of, taken}
use Rattle.policy.specs.Carried.{carries}
use Rattle.policy.specs.Answer.{epoch_count, shown_d}
use Rattle.timetable.specs.Setting.{setting}
use Rattle.timetable.specs.Entries.{begun, candidate, earliest, eligible, entries_of, filled, less, next_in, sent, sheet_at, sooner, turn_of, turns, units_in, units_of}
use Rattle.planner.proofs.Cases.{A}
use Rattle.optimum.specs.Rival.{Fraction, total, slot_bytes, slot_rate, slot_cost, rival_cost}
use Rattle.optimum.specs.Optimum.{bytes_in, exact_bytes, units_at}

abbrev cost : Fraction
cost = rival_cost 14 (packets_of A.count A.records) 1 (exact_bytes A.count A.records)

cost_of_a : (lowest_n cost.over cost.under ≡ 2281) × (lowest_d cost.over cost.under ≡ 4)
unfolding air_bytes size_of arrival_of deadline_of euclid gcd lowest_n lowest_d assign choose inside left only_if sum unassigned epochs_of packets_of points_of with_point after at_first beats best_from best_of better day_of give_rate leads len load outcome_of pick round round_of taken carries epoch_count shown_d setting begun candidate earliest eligible entries_of filled less next_in sent sheet_at sooner turn_of turns units_in units_of total slot_bytes slot_rate slot_cost rival_cost bytes_in units_at
cost_of_a = (refl, refl)
