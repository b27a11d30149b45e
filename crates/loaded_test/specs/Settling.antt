-- Step 4: how settling is left, in mode 1 and in mode 2.
use Rattle.std.specs.Prelude.{Bool, ◌&&◌, ◌||◌, leb, eqb}
use Rattle.refusal.specs.Choice.{pick}
use Rattle.reading.specs.declared.Second.{Second}
use Rattle.vehicle.specs.declared.Vehicle.{Vehicle}
use Rattle.vehicle.specs.declared.Mode.{Mode}
use Rattle.vehicle.specs.declared.Mode.TheVariants.{One, Two}
use Rattle.attempt.specs.declared.SettlingCounts.{SettlingCounts}
use Rattle.attempt.specs.Settling.{no_settling, second_one, second_two}
use Rattle.attempt.specs.Measuring.{no_measuring}
use Rattle.loaded_test.specs.declared.Did.TheVariants.{Nothing, MeasuringBegan}
use Rattle.loaded_test.specs.declared.Stage.TheVariants.{Measuring}
use Rattle.loaded_test.specs.declared.Progress.{Progress}
use Rattle.loaded_test.specs.declared.Turn.{Turn}
use Rattle.loaded_test.specs.State.{with_settling}
use Rattle.loaded_test.specs.Voids.{voided, step_five}

-- "measuring begins with the next second": step 5 still follows on this one.
abbrev pub measuring_from : Progress → Progress
measuring_from p = record {
  mode = p.mode;
  stage = Measuring;
  counted = p.counted;
  resting = p.resting;
  settling = no_settling;
  measuring = no_measuring;
  voids = p.voids;
}

-- Measuring begins, or all n seconds are used up: "void 7", or settling goes on.
unfoldable pub settling_left : Bool → Bool → SettlingCounts → Progress → Turn
settling_left begins used k p =
    pick begins
    (step_five MeasuringBegan (measuring_from p))
    (pick used (voided 7 (with_settling k p)) (step_five Nothing (with_settling k p)))

-- "If g ≥ 11, or n = 25 and g ≥ 5, measuring begins with the next second; else n = 25: void 7."
unfoldable pub closed_one : SettlingCounts → Progress → Turn
closed_one k p =
    settling_left (leb 11 k.ready || (eqb k.seconds 25 && leb 5 k.ready)) (eqb k.seconds 25) k p

-- "At g ≥ 5 measuring begins; else n = 15: void 7."
unfoldable pub closed_two : SettlingCounts → Progress → Turn
closed_two k p = settling_left (leb 5 k.ready) (eqb k.seconds 15) k p

-- A counted second of settling, by the mode.
unfoldable pub settles_in : Mode → Vehicle → Second → Progress → Turn
settles_in One v s p = closed_one (second_one v s p.settling) p
settles_in Two v s p = closed_two (second_two v s p.settling) p

-- A counted second of settling.
unfoldable pub settles : Vehicle → Second → Progress → Turn
settles v s p = settles_in p.mode v s p
