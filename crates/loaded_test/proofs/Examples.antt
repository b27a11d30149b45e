-- The pass claim is not empty: document 01's 36 rows tell a pass, computed. Assumes nothing.
use mathlib.Core.Path.{◌≡◌, refl}
use lib.ListN.{replicate}
use Rattle.refusal.specs.Choice.{pick}
use Rattle.correction.specs.Rounding.{half_up}
use Rattle.correction.specs.Dilution.{dcf_of}
use Rattle.correction.specs.Humidity.{k_h}
use Rattle.vehicle.specs.Limits.{limits_for}
use Rattle.vehicle.specs.Loads.{row_up_to, displacement_bounds, loads, load_for, target_for}
use Rattle.vehicle.specs.Checked.{vehicle_of}
use Rattle.vehicle.specs.Driving.{aim_of, in_tolerance}
use Rattle.window.specs.Measuring.{second_out, second_steady, measured_of, window_valid}
use Rattle.window.specs.Judging.{sum_of, sum_no, window_passes}
use Rattle.attempt.specs.Counting.{in_row, in_all}
use Rattle.attempt.specs.Screening.{screened}
use Rattle.attempt.specs.Ready.{ready}
use Rattle.attempt.specs.Settling.{begun_anew, watched, settled_one, second_one}
use Rattle.attempt.specs.Ending.{early_pass, ending_rule}
use Rattle.attempt.specs.Measuring.{first_speed, tallied, one_more, kept_with, window_counted}
use Rattle.loaded_test.specs.declared.Word.TheVariants.{Pass}
use Rattle.loaded_test.specs.declared.Next.TheVariants.{GoesOn, Ends}
use Rattle.loaded_test.specs.Voids.{step_five}
use Rattle.loaded_test.specs.Settling.{settling_left, closed_one, settles_in, settles}
use Rattle.loaded_test.specs.Measuring.{closed, concluded, window_taken, outcome_of, window_judged, window_kept, judged, measures}
use Rattle.loaded_test.specs.Steps.{measured, in_attempt, second_at, second}
use Rattle.loaded_test.specs.Log.{a_second, replay, logged, log_of}
use Rattle.loaded_test.specs.Examples.{motorcycle, row, newest}

pub passes_36 :
    newest (log_of motorcycle (replicate 36 (a_second row))) ≡
    Ends (record { word = Pass; t = 25; passing = 16; failing = 0; invalid = 0 })
unfolding
    pick half_up k_h limits_for row_up_to displacement_bounds loads load_for target_for vehicle_of
    dcf_of aim_of in_tolerance second_out second_steady measured_of window_valid sum_of sum_no window_passes in_row in_all screened
    ready begun_anew watched settled_one second_one early_pass ending_rule first_speed tallied one_more kept_with window_counted step_five settling_left
    closed_one settles_in settles closed concluded window_taken outcome_of window_judged window_kept judged measures in_attempt second_at measured
    second replay logged log_of
passes_36 = refl

-- One row fewer tells nothing yet.
pub open_35 : newest (log_of motorcycle (replicate 35 (a_second row))) ≡ GoesOn
unfolding
    pick half_up k_h limits_for row_up_to displacement_bounds loads load_for target_for vehicle_of
    dcf_of aim_of in_tolerance second_out second_steady measured_of window_valid sum_of sum_no window_passes in_row in_all screened
    ready begun_anew watched settled_one second_one early_pass ending_rule first_speed tallied one_more kept_with window_counted step_five settling_left
    closed_one settles_in settles closed concluded window_taken outcome_of window_judged window_kept judged measures in_attempt second_at measured
    second replay logged log_of
open_35 = refl
