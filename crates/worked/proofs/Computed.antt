-- The starred cases and the figures for document 02 hold: each is computed from the definitions. Assumes nothing.
use mathlib.Core.Path.{refl}
use lib.Ieee.{of_bits, of_fields, odd}
use Rattle.refusal.specs.Choice.{pick}
use Rattle.reading.specs.Kind.{reading_of}
use Rattle.reading.specs.Rounding.{accepted, half_up, unit_count}
use Rattle.reading.specs.Units.{judged_of, keep, second_from, second_of, levels_of}
use Rattle.correction.specs.Rounding as quotient
use Rattle.correction.specs.Dilution.{dcf_of}
use Rattle.correction.specs.Humidity.{k_h}
use Rattle.correction.proofs.Ranges.{k_dry_lem}
use Rattle.vehicle.specs.Driving.{in_tolerance}
use Rattle.window.specs.Measuring.{measured_of}
use Rattle.window.specs.Engine.{engine_sum, engine_missing, engine_speed_of}
use Rattle.coast_down.specs.Passing.{run_passed}
use Rattle.prepare.specs.Standing.{signed_of, prepare_stands}
use Rattle.locks.specs.Events.{of_speeds}
use Rattle.locks.specs.Accepted.{since, any, or_else, latest_of}
use Rattle.locks.specs.Locks.{not_warm, active_clock, inactive, expired, none_valid, latest_calibration, latest_run, some_passed, not_coasted, not_calibrated, none_good, latest_try, not_signed_in, wrong_tries, wrong_row, password_lock, authority_lock, with_verdict, verdicts_in, unsent_in, unsent_lock, latest_prepare, none_stands, not_prepared, first_standing, lock_of}
use Rattle.worked.specs.Cases.{gases, wrong_tries as triedWrong, Worked}

pub worked : Worked
unfolding of_bits of_fields odd pick reading_of accepted half_up unit_count judged_of keep second_from second_of gases quotient.half_up dcf_of k_h in_tolerance measured_of engine_sum engine_missing engine_speed_of triedWrong run_passed signed_of prepare_stands of_speeds since any or_else latest_of not_warm active_clock inactive expired none_valid latest_calibration latest_run some_passed not_coasted not_calibrated none_good latest_try not_signed_in wrong_tries wrong_row password_lock authority_lock with_verdict verdicts_in unsent_in unsent_lock latest_prepare none_stands not_prepared first_standing lock_of levels_of
worked = record {
  co_bits = refl;
  co_negative = refl;
  hc_above = refl;
  hc_greatest = refl;
  dcf_usual = refl;
  dcf_most = refl;
  dcf_above = refl;
  dcf_least = refl;
  k_dry = k_dry_lem;
  k_moist = refl;
  load_in = refl;
  load_out = refl;
  third_try = refl;
  third_then_good = refl;
  fourth_try = refl;
  fourth_behind = refl;
  fourth_then_good = refl;
  engine_half = refl;
  engine_half_by_one = refl;
  engine_less = refl;
  engine_zero = refl;
  engine_one_missing = refl;
  faster_short = refl;
  faster_least = refl;
  faster_most = refl;
  faster_long = refl;
  exact_short = refl;
  exact_least = refl;
  exact_most = refl;
  exact_long = refl;
  slower_short = refl;
  slower_least = refl;
  slower_most = refl;
  slower_long = refl;
  greatest_met = refl;
  co_all_digits = refl;
  stands_least = refl;
  stands_most = refl;
  hc_too_much = refl;
  co_too_much = refl;
  no_too_much = refl;
  residue_too_much = refl;
  residue_below = refl;
  residue_negative = refl;
  minus_one = refl;
  least_signed = refl;
  greatest_signed = refl;
  none_above = refl;
  no_above = refl;
  co_above = refl;
  hc_greater = refl;
  co2_greatest = refl;
  co2_above = refl;
  co2_near_tenth = refl;
}
