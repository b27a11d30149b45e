-- The runs hold on both sides: each answer is computed from the definitions. Assumes nothing.
use mathlib.Core.Path.{refl}
use Rattle.refusal.specs.Checking.{◌⨾◌, need}
use Rattle.bench.specs.Demand.{bench_answers}
use Rattle.refusal.specs.Choice.{pick, first_unfit}
use Rattle.reading.specs.Kind.{reading_of}
use Rattle.reading.specs.Rounding.{accepted, unit_count}
use Rattle.reading.specs.Units.{judged_of, keep, second_from, second_of, levels_of}
use Rattle.correction.specs.Dilution.{dcf_of}
use Rattle.correction.specs.Humidity.{k_h}
use Rattle.vehicle.specs.Checked.{vehicle_of, checked_of}
use Rattle.vehicle.specs.Driving.{aim_of, in_tolerance}
use Rattle.vehicle.specs.Limits.{limits_for}
use Rattle.vehicle.specs.Loads.{row_up_to, displacement_bounds, loads, load_for, target_for}
use Rattle.vehicle.specs.Settings.{ranges, range_at, setting_fit, unfit_place}
use Rattle.window.specs.Judging.{sum_of, sum_no, window_passes}
use Rattle.window.specs.Measuring.{second_out, second_steady, measured_of, window_valid}
use Rattle.attempt.specs.Counting.{in_row, in_all}
use Rattle.attempt.specs.Ending.{at_ninety, early_pass, ending_rule}
use Rattle.attempt.specs.Measuring.{first_speed, tallied, one_more, kept_with, window_counted, restarted}
use Rattle.attempt.specs.Ready.{ready}
use Rattle.attempt.specs.Screening.{screened}
use Rattle.attempt.specs.Settling.{begun_anew, watched, settled_one, settled_two, second_one, second_two}
use Rattle.loaded_test.specs.Going.{is_running}
use Rattle.loaded_test.specs.Log.{replay}
use Rattle.loaded_test.specs.Measuring.{closed, concluded, window_taken, outcome_of, window_judged, window_kept, measures}
use Rattle.loaded_test.specs.Rest.{rest_count, rested}
use Rattle.loaded_test.specs.Settling.{settling_left, closed_one, closed_two, settles_in, settles}
use Rattle.loaded_test.specs.Steps.{measured, in_attempt, second_at, second, is_resting, stop, begun_by, begin}
use Rattle.loaded_test.specs.Voids.{mode_ended, void_counted, void_next, twice_inconclusive, third_void, void_followed, voided, step_five}
use Rattle.coast_down.specs.Passing.{run_passed}
use Rattle.prepare.specs.Standing.{signed_of, prepare_stands}
use Rattle.locks.specs.Events.{of_speeds}
use Rattle.locks.specs.Accepted.{since, any, or_else, latest_of}
use Rattle.locks.specs.Locks.{not_warm, active_clock, inactive, expired, none_valid, latest_calibration, latest_run, some_passed, not_coasted, not_calibrated, none_good, latest_try, not_signed_in, wrong_tries, wrong_row, password_lock, authority_lock, with_verdict, verdicts_in, unsent_in, unsent_lock, latest_prepare, none_stands, not_prepared, first_standing, lock_of}
use Rattle.locks.specs.State.{first_lock}
use Rattle.reading.specs.Fitness.{reading_fit, least_unfit}
use Rattle.bench.specs.Causes.{setting_at, saturation_bad, cause_bad, automatic_of, reading_at, inertia_bad, power_bad, causes, first_cause, background_in, locked}
use Rattle.bench.specs.Stepping.{service_taken, start_taken, second_taken, step_by, step}
use Rattle.bench.specs.Telling.{second_input, verdict_next, verdict_told, ended_by, step_taken, left_by, added, tell, history_answers}
use Rattle.worked.specs.Runs.{Played}

pub played : Played
unfolding bench_answers pick reading_of accepted unit_count Rattle.reading.specs.Rounding.half_up judged_of keep second_from second_of dcf_of k_h Rattle.correction.specs.Rounding.half_up vehicle_of checked_of aim_of in_tolerance limits_for row_up_to displacement_bounds loads load_for target_for ranges range_at setting_fit first_unfit unfit_place sum_of sum_no window_passes second_out second_steady measured_of window_valid in_row in_all at_ninety early_pass ending_rule first_speed tallied one_more kept_with window_counted restarted ready screened begun_anew watched settled_one settled_two second_one second_two is_running closed concluded window_taken outcome_of window_judged window_kept measures Rattle.loaded_test.specs.Measuring.judged replay rest_count rested settling_left closed_one closed_two settles_in settles measured in_attempt second_at second is_resting stop begun_by begin Rattle.loaded_test.specs.Steps.stop_taken mode_ended void_counted void_next twice_inconclusive third_void void_followed voided step_five run_passed signed_of prepare_stands of_speeds since any or_else latest_of not_warm active_clock inactive expired none_valid latest_calibration latest_run some_passed not_coasted not_calibrated none_good latest_try not_signed_in wrong_tries wrong_row password_lock authority_lock with_verdict verdicts_in unsent_in unsent_lock latest_prepare none_stands not_prepared first_standing lock_of setting_at saturation_bad cause_bad automatic_of reading_fit least_unfit reading_at inertia_bad power_bad causes first_cause service_taken start_taken second_taken step_by step Rattle.bench.specs.Stepping.stop_taken second_input verdict_next verdict_told ended_by step_taken left_by added tell history_answers Rattle.bench.specs.Telling.judged levels_of first_lock background_in locked need ◌⨾◌
played = record {
  passing = record { bench = refl; history = refl };
  after_void = record { bench = refl; history = refl };
  restarted = record { bench = refl; history = refl };
  passing_in_two = record { bench = refl; history = refl };
  failing_in_two = record { bench = refl; history = refl };
  twice_inconclusive = record { bench = refl; history = refl };
  powered_on = record { bench = refl; history = refl };
  stop_renews_nothing = record { bench = refl; history = refl };
  session_voided = record { bench = refl; history = refl };
  failed_last = record { bench = refl; history = refl };
  four_wrong = record { bench = refl; history = refl };
  unlocked_between = record { bench = refl; history = refl };
  expired_between = record { bench = refl; history = refl };
  locked_by_authority = record { bench = refl; history = refl };
  unsent = record { bench = refl; history = refl };
  coasted_first = record { bench = refl; history = refl };
  coast_down_voided = record { bench = refl; history = refl };
  failed_run_last = record { bench = refl; history = refl };
  run_renews_nothing = record { bench = refl; history = refl };
  runs_refused = record { bench = refl; history = refl };
  used_up = record { bench = refl; history = refl };
  used_up_by_power_on = record { bench = refl; history = refl };
  refused_start = record { bench = refl; history = refl };
  prepare_voided = record { bench = refl; history = refl };
  two_minutes = record { bench = refl; history = refl };
  failed_prepare_last = record { bench = refl; history = refl };
  prepares_refused = record { bench = refl; history = refl };
  prepare_renews_nothing = record { bench = refl; history = refl };
  one_of_each = record { bench = refl; history = refl };
  first_of_several = record { bench = refl; history = refl };
  clock_kept = record { bench = refl; history = refl };
  greatest_clocks = record { bench = refl; history = refl };
  voids = record { one = refl; one_less = refl; two = refl; two_less = refl };
  dip_of_nine = record { bench = refl; history = refl };
  dip_of_eight = record { bench = refl; history = refl };
  dip_at_eleven = record { bench = refl; history = refl };
  dip_at_ten = record { bench = refl; history = refl };
  dip_forgotten = record { bench = refl; history = refl };
  slow_fall = record { bench = refl; history = refl };
  rise_free = record { bench = refl; history = refl };
  kept_running = record { stage = refl; t = refl; passing = refl };
  out_once = record { bench = refl; history = refl };
  nine_seconds = record { bench = refl; history = refl };
  ten_seconds = record { bench = refl; history = refl };
}
