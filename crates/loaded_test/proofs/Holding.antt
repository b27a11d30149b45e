-- What holds of a test's state and of its log after every input: by stage, and the claims on the newest entry.
use Prim.Native.Nat.{ℕ, ◌+◌, ◌-◌, ◌≤◌, ◌<◌}
use native.Mathlib.Omega.{arith}
use mathlib.Core.Bool.{Bool, false, ◌||◌}
use mathlib.Core.Path.{◌≡◌}
use mathlib.Core.List.{List, [], ◌∷◌, ◌++◌, map}
use lib.ListN.{length, take}
use Rattle.reading.specs.declared.Second.{Second}
use Rattle.vehicle.specs.declared.Vehicle.{Vehicle}
use Rattle.vehicle.specs.declared.Mode.{Mode}
use Rattle.vehicle.specs.declared.Mode.TheVariants.{One, Two}
use Rattle.window.specs.declared.Measured.{Measured}
use Rattle.window.specs.Measuring.{measured_of}
use Rattle.loaded_test.specs.declared.Stage.{Stage}
use Rattle.loaded_test.specs.declared.Stage.TheVariants.{NotBegun, Settling, Measuring, Rest, Ended}
use Rattle.attempt.specs.declared.MeasuringCounts.{MeasuringCounts}
use Rattle.loaded_test.specs.declared.VoidCounts.{VoidCounts}
use Rattle.loaded_test.specs.declared.Progress.{Progress}
use Rattle.loaded_test.specs.declared.Turn.{Turn}
use Rattle.loaded_test.specs.declared.Test.{Test}
use Rattle.loaded_test.specs.declared.Stepped.{Stepped}
use Rattle.attempt.specs.Speeds.{speed_at, speed_held}
use Rattle.loaded_test.specs.Windows.{out_row, longest_out, out_all, valid_here, passing_in, failing_in, invalid_in, speeds_of}
use Rattle.loaded_test.specs.Log.{Entry, Input, logged}
use Rattle.loaded_test.specs.Claim.{mode_in, InAttempt, Measures, AllClean, attempt_in, NotYetIn, PassClaim}
use Rattle.loaded_test.specs.Sheet.{run_in}
use Rattle.loaded_test.specs.Laws.{Bounded, voids_in, nines_in, VoidClaim, IncompleteClaim, FailClaim, AccountedClaim}
use Rattle.loaded_test.proofs.Counting.{Counts}

-- The last n of settling before it ends.
unfoldable pub most_settling : Mode → ℕ
most_settling One = 24
most_settling Two = 14

pub settling_most : (m : Mode) → most_settling m ≤ 24
unfolding most_settling
settling_most One = omega arith
settling_most Two = omega arith

-- r and q are the voids of the log, the mode is the log's.
pub record Told (log : List Entry) (m : Mode) (k : VoidCounts) : Type 0 where
  pub mode : m ≡ mode_in log
  pub voids : k.voids ≡ length (voids_in log)
  pub nines : k.inconclusive ≡ nines_in (voids_in log)
  pub voids_left : k.voids ≤ 2
  pub nines_left : k.inconclusive ≤ 1

-- Between inputs, while the test has no verdict.
pub record Open (p : Progress) : Type 0 where
  pub counted : p.counted ≤ 144
  pub resting : p.resting ≤ 9
  pub seconds : p.settling.seconds ≤ most_settling p.mode
  pub ready : p.settling.ready ≤ 10
  pub row : p.settling.row ≤ 1
  pub all : p.settling.all ≤ 4
  pub measured : p.measuring.seconds ≤ 89
  pub out_row : p.measuring.row ≤ 2
  pub out_all : p.measuring.all ≤ 5
  pub windows : p.measuring.windows.passing + p.measuring.windows.failing + p.measuring.windows.invalid ≡ p.measuring.seconds - 9

-- Whether a run has a valid window.
unfoldable pub some_valid : Vehicle → Mode → List Second → Bool
some_valid v mode [] = false
some_valid v mode (s ∷ l) = valid_here v mode (s ∷ l) || some_valid v mode l

-- The counts of measuring, as they are counted from the run's seconds.
unfoldable pub tally_of : Vehicle → Mode → List Second → MeasuringCounts
tally_of v mode l = record {
  seconds = length l;
  row = out_row v mode l;
  all = out_all v mode l;
  windows = record { passing = passing_in v mode l; failing = failing_in v mode l; invalid = invalid_in v mode l };
  first = speed_at 1 (speeds_of l);
  held = speed_held (speeds_of l);
  kept = some_valid v mode l;
}

-- In measuring: the run's seconds, and what was in the last ten before them.
pub record Running (v : Vehicle) (log : List Entry) (p : Progress) (last : List Measured) : Type 0 where
  pub run : List Second
  pub old : List Measured
  pub measures : Measures run log
  pub same : run ≡ run_in log
  pub started : 1 ≤ p.counted
  pub tally : p.measuring ≡ tally_of v (mode_in log) run
  pub held : take 10 last ≡ take 10 (map (measured_of v (mode_in log)) run ++ old)
  pub clean : AllClean run
  pub rows : longest_out v (mode_in log) run < 3
  pub few : out_all v (mode_in log) run < 6
  pub not_yet : NotYetIn v (mode_in log) run

-- Each stage's part.
pub record Settles (log : List Entry) (p : Progress) : Type 0 where
  pub told : Told log p.mode p.voids
  pub bounds : Open p
  pub attempt : InAttempt log
  pub counting : Counts (attempt_in log) p.counted

pub record Runs (v : Vehicle) (log : List Entry) (p : Progress) (last : List Measured) : Type 0 where
  pub told : Told log p.mode p.voids
  pub bounds : Open p
  pub running : Running v log p last
  pub counting : Counts (attempt_in log) p.counted

pub record Resting (log : List Entry) (p : Progress) : Type 0 where
  pub told : Told log p.mode p.voids
  pub bounds : Open p

abbrev pub AtStage : Stage → Vehicle → List Entry → Progress → List Measured → Type 0
AtStage NotBegun v log p last = ⊥
AtStage Settling v log p last = Settles log p
AtStage Measuring v log p last = Runs v log p last
AtStage Rest v log p last = Resting log p
AtStage (Ended w) v log p last = Bounded p

-- What is claimed of the newest entry.
pub record Claims (v : Vehicle) (log : List Entry) : Type 0 where
  pub pass : PassClaim v log
  pub void : VoidClaim log
  pub incomplete : IncompleteClaim log
  pub fail : FailClaim log
  pub accounted : AccountedClaim log

abbrev pub entry : Input → Turn → Entry
entry i x = record { input = i; did = x.told.did; next = x.told.next }

-- A turn is good where, told as the newest entry, it leaves all this standing.
pub record Good (v : Vehicle) (i : Input) (log : List Entry) (last : List Measured) (x : Turn) : Type 0 where
  pub stage : AtStage x.progress.stage v (entry i x ∷ log) x.progress last
  pub claims : Claims v (entry i x ∷ log)

-- What stands of a test and its log.
pub record Stands (v : Vehicle) (log : List Entry) (x : Test) : Type 0 where
  pub vehicle : x.vehicle ≡ v
  pub stage : AtStage x.progress.stage v log x.progress x.last
  pub claims : Claims v log

-- A step leaves it standing: what it tells is added to the log.
abbrev pub Kept : Vehicle → Input → List Entry → Stepped → Type 0
Kept v i log y = Stands v (logged i y.answer log) y.test
