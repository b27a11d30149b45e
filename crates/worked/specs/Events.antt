-- What the runs are made of: a vehicle's settings, seconds of a drive, and the events that leave no lock standing.
use Rattle.std.specs.Prelude.{ℕ, suc, zero, ◌+◌, false, true, List, [], ◌∷◌, pos, negsuc}
use Rattle.std.specs.Float.{fin}
use Rattle.reading.specs.declared.Reading.{Reading}
use Rattle.reading.specs.declared.Reading.TheVariants.{Value, Missing, Over}
use Rattle.reading.specs.Kind.{Readings}
use Rattle.vehicle.specs.declared.Settings.{Settings}
use Rattle.coast_down.specs.declared.SpeedRange.{SpeedRange}
use Rattle.coast_down.specs.declared.SpeedRange.TheVariants.{Faster, Slower}
use Rattle.coast_down.specs.declared.Run.{Run}
use Rattle.prepare.specs.declared.ZeroCheck.{ZeroCheck}
use Rattle.locks.specs.declared.Calibration.TheVariants.{Passed}
use Rattle.locks.specs.declared.Try.TheVariants.{Good}
use Rattle.locks.specs.declared.Event.{Event}
use Rattle.locks.specs.declared.Event.TheVariants.{WarmUp, Calibration, Try, Start, Second, CoastDown, Prepare}

-- n times the same, in front of a list.
abbrev pub times : {A : Type 0} → ℕ → A → List A → List A
times zero x l = l
times (suc n) x l = x ∷ times n x l

-- A coast-down run of these speeds and measured milliseconds, with this inertia and power.
abbrev pub run_with : ℕ → ℕ → SpeedRange → ℕ → Run
run_with inertia power speeds milliseconds = record {
  inertia = inertia;
  power = power;
  speeds = speeds;
  milliseconds = milliseconds;
}

-- A coast-down run at inertia 1200 and power 100: its nominal times are 5925.9 ms and 3703.7 ms.
abbrev pub coasting : ℕ → SpeedRange → ℕ → Event
coasting now speeds milliseconds = CoastDown now (run_with 1200 100 speeds milliseconds)

-- One of each speed that passes.
abbrev pub faster : ℕ → Event
faster now = coasting now Faster 5926

-- The slower one.
abbrev pub slower : ℕ → Event
slower now = coasting now Slower 3704

-- A zero check of this background and the bits of this residue.
abbrev pub check_with : ℕ → ℕ → ℕ → ℕ → ZeroCheck
check_with hc co nitric residue = record { hc = hc; co = co; no = nitric; residue = record { 0 = residue } }

-- A prepare of this background and residue.
abbrev pub preparing : ℕ → ℕ → ℕ → ℕ → ℕ → Event
preparing now hc co nitric residue = Prepare now (check_with hc co nitric residue)

-- One that stands, each value the greatest with which it does.
abbrev pub prepared : ℕ → Event
prepared now = preparing now 14 1 24 7

-- The events, at one clock, that leave locks 4 and 8 alone standing: a warm-up, a passed calibration and a passed run of each speed.
abbrev pub signed_out_unprepared : ℕ → List Event
signed_out_unprepared now = WarmUp now ∷ Calibration now Passed ∷ faster now ∷ slower now ∷ []

-- Those that leave lock 4 alone standing: with a prepare.
abbrev pub signed_out : ℕ → List Event
signed_out now = prepared now ∷ signed_out_unprepared now

-- A sign-in for 100 s.
abbrev pub sign_in : ℕ → Event
sign_in now = Try now (Good (now + 100))

-- The events, at one clock, that leave lock 8 alone standing.
abbrev pub unprepared : ℕ → List Event
unprepared now = sign_in now ∷ signed_out_unprepared now

-- The events, at one clock, that leave no lock standing for a start within 100 s.
abbrev pub ready : ℕ → List Event
ready now = sign_in now ∷ signed_out now

-- A motorcycle of 2005 with this displacement and gearbox, at 50 %, 20 °C, 1013.
abbrev pub motorcycle : ℕ → ℕ → Settings
motorcycle displacement gearbox = record {
  kind = 1;
  year = 2005;
  displacement = displacement;
  gearbox = gearbox;
  humidity = 50;
  temperature = 20;
  pressure = 1013;
}

-- A start: 125 ml, automatic gearbox, p 2339.
abbrev pub start : ℕ → Event
start now = Start now (motorcycle 125 2) 2339

-- The same start with a manual gearbox.
abbrev pub manual_start : ℕ → Event
manual_start now = Start now (motorcycle 125 1) 2339

-- A whole number as a reading.
abbrev pub whole : ℕ → Reading
whole n = Value (fin false n (pos 0))

-- CO 1.00, NO 200, CO2 12.0, no O2.
abbrev pub driven : Reading → Reading → Reading → Reading → Readings
driven speed load engine hc = record {
  speed = speed;
  load = load;
  engine = engine;
  hc = hc;
  co = whole 1;
  no = whole 200;
  co2 = whole 12;
  o2 = Missing;
}

-- Mode 1's load, 109/128 kW, which is 85 units, at this speed.
abbrev pub one_at : Reading → Reading → Reading → Readings
one_at speed engine hc = driven speed (Value (fin false 109 (negsuc 6))) engine hc

-- Mode 1: 25.0 km/h.
abbrev pub one : Reading → Reading → Readings
one engine hc = one_at (whole 25) engine hc

-- Mode 2: 40.0 km/h and 11/16 kW, which is 69 units.
abbrev pub two : Reading → Reading → Readings
two engine hc = driven (whole 40) (Value (fin false 11 (negsuc 3))) engine hc

-- HC within the limit.
abbrev pub clean : Reading
clean = whole 100

-- HC above the limit.
abbrev pub foul : Reading
foul = whole 1000

-- A second at mode 1's target and load, with no engine speed and this HC.
abbrev pub at_one : Reading → Event
at_one hc = Second 2 (one Missing hc)

-- A second at mode 1's load and this speed.
abbrev pub at_speed : Reading → Event
at_speed speed = Second 2 (one_at speed Missing clean)

-- A second at mode 2's target and load.
abbrev pub at_two : Reading → Event
at_two hc = Second 2 (two Missing hc)

-- A second at mode 1's target and load, with this engine speed.
abbrev pub turning_one : ℕ → Event
turning_one engine = Second 2 (one (whole engine) clean)

-- A second at mode 2's target and load, with this engine speed.
abbrev pub turning_two : ℕ → Event
turning_two engine = Second 2 (two (whole engine) clean)

-- A second at mode 2's target and load, HC over range.
abbrev pub over_in_two : Event
over_in_two = Second 2 (two (whole 4000) Over)

-- A second at rest, with an engine speed as it is for any gearbox.
abbrev pub at_rest : Event
at_rest = Second 2 (driven (whole 0) (whole 0) (whole 1000) clean)

-- CO −1, which is unfit.
abbrev pub unfit : Readings
unfit = record {
  speed = whole 25;
  load = whole 1;
  engine = Missing;
  hc = clean;
  co = Value (fin true 1 (pos 0));
  no = whole 200;
  co2 = whole 99;
  o2 = Missing;
}
