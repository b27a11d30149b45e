-- Runs about coast-down events (document 02, A.2): what they do to lock 3, and which are refused.
use Rattle.refusal.specs.declared.Refusal.TheVariants.{ClockEarlier, TestRunning, StartLocked, InertiaUnfit, PowerUnfit}
use Rattle.std.specs.Prelude.{ℕ, List, [], ◌∷◌}
use Rattle.coast_down.specs.declared.SpeedRange.{SpeedRange}
use Rattle.coast_down.specs.declared.SpeedRange.TheVariants.{Faster, Slower}
use Rattle.locks.specs.declared.Calibration.TheVariants.{Passed}
use Rattle.locks.specs.declared.Event.{Event}
use Rattle.locks.specs.declared.Event.TheVariants.{PowerOn, ClockSetting, WarmUp, Calibration, CoastDown}
use Rattle.worked.specs.Events.{run_with, coasting, faster, slower, prepared, sign_in, ready, start}
use Rattle.worked.specs.Answers.{Exchange, accepts, refuses, accepted}

-- The events, at one clock, that leave no lock but 3 standing, and that for want of coast-down runs alone.
abbrev pub uncoasted : ℕ → List Event
uncoasted now = WarmUp now ∷ Calibration now Passed ∷ sign_in now ∷ prepared now ∷ []

-- A start is locked by 3 until both runs have passed; a failed run is accepted and lifts nothing.
abbrev pub coasted_first : List Exchange
coasted_first =
    accepted (uncoasted 1)
    (refuses (start 1) (StartLocked 3)
    ∷ accepts (faster 2)
    ∷ refuses (start 2) (StartLocked 3)
    ∷ accepts (coasting 3 Slower 3444)
    ∷ refuses (start 3) (StartLocked 3)
    ∷ accepts (slower 4)
    ∷ accepts (start 4)
    ∷ [])

-- All but the runs come again, and the start is locked by 3 until both runs have, these two in this order; in front of a run.
abbrev pub voided : ℕ → Event → Event → List Exchange → List Exchange
voided now first second run =
    accepted (uncoasted now)
    (refuses (start now) (StartLocked 3) ∷ accepts first ∷ refuses (start now) (StartLocked 3) ∷ accepts second ∷ run)

-- A clock setting voids both runs, and so does a power-on.
abbrev pub coast_down_voided : List Exchange
coast_down_voided =
    accepted (ready 5)
    (accepts (ClockSetting 6 3)
    ∷ voided 3 (slower 3) (faster 3)
    (accepts (PowerOn 4) ∷ voided 4 (faster 4) (slower 4) (accepts (start 4) ∷ [])))

-- A failed faster run after two passed ones locks, whatever slower run comes then: the latest of each speed decides.
abbrev pub failed_run_last : List Exchange
failed_run_last =
    accepted (ready 0)
    (accepts (coasting 1 Faster 6341)
    ∷ refuses (start 1) (StartLocked 3)
    ∷ accepts (slower 2)
    ∷ refuses (start 2) (StartLocked 3)
    ∷ accepts (faster 3)
    ∷ accepts (start 3)
    ∷ [])

-- A run does not renew lock 2.
abbrev pub run_renews_nothing : List Exchange
run_renews_nothing = accepted (ready 0) (accepts (faster 1801) ∷ refuses (start 1801) (StartLocked 2) ∷ [])

-- A run of this inertia and power, with a time that passes for none.
abbrev pub timeless : ℕ → ℕ → ℕ → SpeedRange → Event
timeless now inertia power speeds = CoastDown now (run_with inertia power speeds 0)

-- 11, then 12, then 16, then 17; a refused run leaves the passed ones, and one with any time is accepted.
abbrev pub runs_refused : List Exchange
runs_refused =
    accepted (ready 5)
    (refuses (timeless 4 1049 49 Faster) (ClockEarlier 5)
    ∷ refuses (timeless 6 1049 49 Faster) InertiaUnfit
    ∷ refuses (timeless 6 1351 326 Slower) InertiaUnfit
    ∷ refuses (timeless 6 1050 49 Faster) PowerUnfit
    ∷ refuses (timeless 6 1350 326 Slower) PowerUnfit
    ∷ accepts (start 5)
    ∷ refuses (timeless 4 1049 49 Faster) (ClockEarlier 5)
    ∷ refuses (timeless 6 1049 49 Faster) TestRunning
    ∷ accepts (PowerOn 6)
    ∷ accepts (timeless 6 1050 50 Faster)
    ∷ accepts (CoastDown 6 (run_with 1350 325 Slower 4294967295))
    ∷ [])
