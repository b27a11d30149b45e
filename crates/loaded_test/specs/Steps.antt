-- One test: its beginning, a second and a stop.
use Rattle.refusal.specs.declared.Refusal.TheVariants.{NoTest, CauseUnfit}
use Rattle.refusal.specs.declared.Refusal.{Refusal}
use Rattle.vehicle.specs.declared.Vehicle.{Vehicle}
use Rattle.std.specs.Prelude.{ℕ, Bool, true, false, ◌&&◌, ◌||◌, leb, eqb, Ok, Err, Result}
use Rattle.refusal.specs.Choice.{pick}
use Rattle.reading.specs.declared.Second.{Second}
use Rattle.vehicle.specs.declared.Settings.{Settings}
use Rattle.vehicle.specs.Checked.{checked_of}
use Rattle.window.specs.Measuring.{second_out, measured_of}
use Rattle.loaded_test.specs.declared.Stage.{Stage}
use Rattle.loaded_test.specs.declared.Stage.TheVariants.{NotBegun, Settling, Measuring, Rest, Ended}
use Rattle.attempt.specs.declared.Screen.{Screen}
use Rattle.attempt.specs.declared.Screen.TheVariants.{Waits, Flawed, Clear}
use Rattle.loaded_test.specs.declared.Progress.{Progress}
use Rattle.loaded_test.specs.declared.Turn.{Turn}
use Rattle.loaded_test.specs.declared.Test.{Test}
use Rattle.loaded_test.specs.declared.Stepped.{Stepped}
use Rattle.loaded_test.specs.State.{with_counted, nothing, stepped, refused, began}
use Rattle.attempt.specs.Counting.{bump}
use Rattle.loaded_test.specs.Going.{is_running}
use Rattle.loaded_test.specs.Voids.{voided}
use Rattle.loaded_test.specs.Rest.{rest_count, rested}
use Rattle.attempt.specs.Screening.{screened}
use Rattle.loaded_test.specs.Settling.{settles}
use Rattle.attempt.specs.Measuring.{tallied}
use Rattle.loaded_test.specs.Measuring.{measures}

-- "Otherwise c grows by 1."
abbrev pub counted : Progress → Progress
counted p = with_counted (bump p.counted) p

-- A measured second: its units are kept, and t, u and w take it up.
unfoldable pub measured : Test → Second → Progress → Stepped
measured x s p =
    measures x
    (measured_of x.vehicle p.mode s)
    (tallied (second_out x.vehicle p.mode s) s.speed p.measuring)
    p

-- A second of settling.
abbrev pub settled : Test → Second → Progress → Stepped
settled x s p = stepped x (settles x.vehicle s p)

-- A second in an attempt: steps 2 and 3; where it neither waits nor is void, what step 4 makes of it.
unfoldable pub in_attempt : Screen → Test → Stepped → Stepped
in_attempt Waits x clear = stepped x (nothing x.progress)
in_attempt (Flawed n) x clear = stepped x (voided n (counted x.progress))
in_attempt Clear x clear = clear

-- What a second comes to at each stage. "second or stop, no test": refused where no test has begun and where it has ended.
unfoldable pub second_at : Stage → Test → Second → Stepped
second_at NotBegun x s = refused NoTest x
second_at Settling x s = in_attempt (screened x.progress.counted s) x (settled x s (counted x.progress))
second_at Measuring x s = in_attempt (screened x.progress.counted s) x (measured x s (counted x.progress))
second_at Rest x s = stepped x (rested (rest_count x.progress.resting s) x.progress)
second_at (Ended w) x s = refused NoTest x

-- A second.
unfoldable pub second : Test → Second → Stepped
second x s = second_at x.progress.stage x s

-- The stage "rest".
unfoldable pub is_resting : Stage → Bool
is_resting NotBegun = false
is_resting Settling = false
is_resting Measuring = false
is_resting Rest = true
is_resting (Ended w) = false

-- "A stop (1 brake, 2 stall, 3 operator, 4 low flow)"
abbrev pub cause_fit : ℕ → Bool
cause_fit n = leb 1 n && leb n 4

-- "is a void of that number; in rest or at c = 0 it changes only the bench clock."
unfoldable pub stop_taken : Bool → ℕ → Progress → Turn
stop_taken resting n p = pick (resting || eqb p.counted 0) (nothing p) (voided n p)

-- A stop: "second or stop, no test", then "stop cause", else it is taken.
unfoldable pub stop : Test → ℕ → Stepped
stop x n =
    pick (is_running x.progress.stage)
    (pick (cause_fit n) (stepped x (stop_taken (is_resting x.progress.stage) n x.progress)) (refused CauseUnfit x))
    (refused NoTest x)

-- A start by what its settings were checked to: where it is refused there is no test.
unfoldable pub begun_by : Result Vehicle Refusal → Result Test Refusal
begun_by (Ok v) = Ok (began v)
begun_by (Err r) = Err r

-- A test begins where its settings and its saturation pressure are fit, else the start is refused by document 01's number and place.
unfoldable pub begin : Settings → ℕ → Result Test Refusal
begin settings saturation = begun_by (checked_of settings saturation)
