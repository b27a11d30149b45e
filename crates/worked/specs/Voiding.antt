-- Which void a second brings where two could. The answers of a bench do not tell a void's number, so these are told by the steps.
use Rattle.std.specs.Prelude.{◌≡◌, List, [], ℕ, false, None, Ok, Result}
use Rattle.reading.specs.declared.Level.TheVariants as level
use Rattle.vehicle.specs.declared.Vehicle.{Vehicle}
use Rattle.vehicle.specs.Checked.{vehicle_of}
use Rattle.loaded_test.specs.declared.Did.TheVariants.{Voided}
use Rattle.loaded_test.specs.declared.Next.TheVariants.{Rests}
use Rattle.refusal.specs.declared.Refusal.{Refusal}
use Rattle.loaded_test.specs.declared.Told.{Told}
use Rattle.loaded_test.specs.Log.{Input, a_second, step, replay}
use Rattle.worked.specs.Events.{times, motorcycle}

-- 125 ml, automatic gearbox, p 2339.
abbrev pub vehicle : Vehicle
vehicle = vehicle_of (motorcycle 125 2) 2339

-- A second with this speed, load and HC in units; CO 100, NO 200, CO2 1200.
abbrev pub units : ℕ → ℕ → ℕ → Input
units speed load hc =
    a_second
    (record {
      speed = speed;
      load = load;
      engine = None;
      hc = hc;
      co = record { 0 = 100 };
      no = 200;
      co2 = record { 0 = 1200 };
      over = false;
      oxygen = level.Missing;
    })

-- A second that is counted (c) and leaves n at 0, in either mode; one in which n grows and which is not ready, in mode 1 and in mode 2.
abbrev pub slow : Input
slow = units 150 0 100

-- At mode 1's target with no load.
abbrev pub unready_one : Input
unready_one = units 250 0 100

-- At mode 2's target with no load.
abbrev pub unready_two : Input
unready_two = units 400 0 100

-- Mode 1 to its fail at t = 90: mode 2 has begun.
abbrev pub failed_one : List Input
failed_one = times 101 (units 250 85 1000) []

-- What the steps tell of a second after these inputs, newest first.
abbrev pub told_of : Input → List Input → Result Told Refusal
told_of i l = (step (replay vehicle l) i).answer

-- A void of this number, and a rest.
abbrev pub voids_and_rests : ℕ → Result Told Refusal
voids_and_rests n = Ok (record { did = Voided n; next = Rests })

-- "else n = 25: void 7", "else n = 15: void 7" and "c = 145: void 8" on one second: void 7, which ends the work on it before step 5.
pub record SevenFirst : Type 0 where
  -- n = 25 on c = 145, and n = 24 on c = 145
  pub one : told_of unready_one (times 24 unready_one (times 120 slow [])) ≡ voids_and_rests 7
  pub one_less : told_of unready_one (times 23 unready_one (times 121 slow [])) ≡ voids_and_rests 8
  -- in mode 2 n = 15 on c = 145, and n = 14 on c = 145
  pub two : told_of unready_two (times 14 unready_two (times 130 slow failed_one)) ≡ voids_and_rests 7
  pub two_less : told_of unready_two (times 13 unready_two (times 131 slow failed_one)) ≡ voids_and_rests 8
