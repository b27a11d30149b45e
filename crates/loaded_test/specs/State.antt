-- The state of a test: a new attempt, and the state with one of its parts replaced.
use Rattle.std.specs.Prelude.{ℕ, List, replicate, Some, None, Ok, Err, Option, option_map, option_and_then}
use Rattle.refusal.specs.Choice.{pick}
use Rattle.refusal.specs.declared.Refusal.{Refusal}
use Rattle.vehicle.specs.declared.Vehicle.{Vehicle}
use Rattle.vehicle.specs.declared.Mode.{Mode}
use Rattle.vehicle.specs.declared.Mode.TheVariants.{One}
use Rattle.vehicle.specs.Driving.{blank_vehicle}
use Rattle.window.specs.declared.Measured.{Measured}
use Rattle.window.specs.Measuring.{blank_measured}
use Rattle.window.specs.Engine.{engine_speed_of}
use Rattle.window.specs.Judging.{Averages, averages_of}
use Rattle.loaded_test.specs.declared.Word.{Word}
use Rattle.loaded_test.specs.declared.Verdict.{Verdict}
use Rattle.loaded_test.specs.declared.Did.{Did}
use Rattle.loaded_test.specs.declared.Did.TheVariants.{Nothing}
use Rattle.loaded_test.specs.declared.Next.{Next}
use Rattle.loaded_test.specs.declared.Next.TheVariants.{GoesOn}
use Rattle.loaded_test.specs.declared.Stage.{Stage}
use Rattle.loaded_test.specs.declared.Stage.TheVariants.{NotBegun, Settling, Ended}
use Rattle.attempt.specs.declared.SettlingCounts.{SettlingCounts}
use Rattle.attempt.specs.declared.MeasuringCounts.{MeasuringCounts}
use Rattle.attempt.specs.Settling.{no_settling}
use Rattle.attempt.specs.Measuring.{no_measuring}
use Rattle.loaded_test.specs.declared.VoidCounts.{VoidCounts}
use Rattle.loaded_test.specs.declared.Progress.{Progress}
use Rattle.loaded_test.specs.declared.Turn.{Turn}
use Rattle.loaded_test.specs.declared.Test.{Test}
use Rattle.loaded_test.specs.declared.Stepped.{Stepped}

-- r and q at 0.
abbrev pub no_voids : VoidCounts
no_voids = record { voids = 0; inconclusive = 0 }

-- "windows empty and every count but r and q 0", in a mode, at a stage, with these r and q.
abbrev pub emptied : Mode → Stage → VoidCounts → Progress
emptied mode stage voids = record {
  mode = mode;
  stage = stage;
  counted = 0;
  resting = 0;
  settling = no_settling;
  measuring = no_measuring;
  voids = voids;
}

-- With this c.
abbrev pub with_counted : ℕ → Progress → Progress
with_counted c p = record {
  mode = p.mode;
  stage = p.stage;
  counted = c;
  resting = p.resting;
  settling = p.settling;
  measuring = p.measuring;
  voids = p.voids;
}

-- With this rest count.
abbrev pub with_resting : ℕ → Progress → Progress
with_resting k p = record {
  mode = p.mode;
  stage = p.stage;
  counted = p.counted;
  resting = k;
  settling = p.settling;
  measuring = p.measuring;
  voids = p.voids;
}

-- With these counts of settling.
abbrev pub with_settling : SettlingCounts → Progress → Progress
with_settling k p = record {
  mode = p.mode;
  stage = p.stage;
  counted = p.counted;
  resting = p.resting;
  settling = k;
  measuring = p.measuring;
  voids = p.voids;
}

-- With these counts of measuring.
abbrev pub with_measuring : MeasuringCounts → Progress → Progress
with_measuring k p = record {
  mode = p.mode;
  stage = p.stage;
  counted = p.counted;
  resting = p.resting;
  settling = p.settling;
  measuring = k;
  voids = p.voids;
}

-- A verdict ends the test and keeps the counts of the attempt, with r and q as this second left them.
abbrev pub with_verdict : Word → VoidCounts → Progress → Progress
with_verdict word k p = record {
  mode = p.mode;
  stage = Ended word;
  counted = p.counted;
  resting = p.resting;
  settling = p.settling;
  measuring = p.measuring;
  voids = k;
}

-- "A verdict carries word, t, passing, failing", and invalid (document 02, A.8), those of the attempt that it ends.
abbrev pub verdict_of : Word → MeasuringCounts → Verdict
verdict_of word k = record {
  word = word;
  t = k.seconds;
  passing = k.windows.passing;
  failing = k.windows.failing;
  invalid = k.windows.invalid;
}

-- What a second or a stop did, what comes next, and the counts after it.
abbrev pub turn : Did → Next → Progress → Turn
turn did next p = record { told = record { did = did; next = next }; progress = p }

-- Nothing happens.
abbrev pub nothing : Progress → Turn
nothing p = turn Nothing GoesOn p

-- A turn taken by a test with these last ten seconds and this last valid window.
abbrev pub stepped_with : Vehicle → List Measured → List Measured → Turn → Stepped
stepped_with v last window x = record {
  answer = Ok x.told;
  test = record { vehicle = v; progress = x.progress; last = last; window = window };
}

-- A turn taken by a test whose last ten seconds and last valid window stay as they were.
abbrev pub stepped : Test → Turn → Stepped
stepped t x = stepped_with t.vehicle t.last t.window x

-- A refusal leaves the test as it was.
abbrev pub refused : Refusal → Test → Stepped
refused r t = record { answer = Err r; test = t }

-- A test of a vehicle with no seconds.
abbrev pub test_of : Vehicle → Progress → Test
test_of v p = record {
  vehicle = v;
  progress = p;
  last = replicate 10 blank_measured;
  window = replicate 10 blank_measured;
}

-- "A test begins settling in mode 1, all counts 0."
abbrev pub began : Vehicle → Test
began v = test_of v (emptied One Settling no_voids)

-- What stands where there is no test: one that has not begun. It takes no second and no stop, and has no word.
abbrev pub none_running : Test
none_running = test_of blank_vehicle (emptied One NotBegun no_voids)

-- "windows empty": the last valid window, if there is one.
unfoldable pub last_window : Test → Option (List Measured)
last_window x = pick x.progress.measuring.kept (Some x.window) None

-- The averages of the last valid window, if there is one.
unfoldable pub averages_shown : Test → Option Averages
averages_shown x = option_map (averages_of x.vehicle) (last_window x)

-- The engine speed on the sheet (document 02, A.1): "The last valid window keeps its ten engine speeds, and their mean"; none without a window.
unfoldable pub engine_shown : Test → Option ℕ
engine_shown x = option_and_then engine_speed_of (last_window x)
