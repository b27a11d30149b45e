-- Step 4: measuring.
use Rattle.std.specs.Prelude.{ℕ, Bool, ◌&&◌, List, ◌∷◌, take}
use Rattle.refusal.specs.Choice.{pick}
use Rattle.vehicle.specs.declared.Vehicle.{Vehicle}
use Rattle.window.specs.declared.Measured.{Measured}
use Rattle.window.specs.Measuring.{window_valid}
use Rattle.window.specs.Judging.{window_passes}
use Rattle.loaded_test.specs.declared.Word.TheVariants.{Pass}
use Rattle.loaded_test.specs.declared.Did.TheVariants as did
use Rattle.attempt.specs.declared.MeasuringCounts.{MeasuringCounts}
use Rattle.attempt.specs.declared.WindowOutcome.{WindowOutcome}
use Rattle.attempt.specs.declared.WindowOutcome.TheVariants.{Passing, Failing, Invalid}
use Rattle.loaded_test.specs.declared.Progress.{Progress}
use Rattle.loaded_test.specs.declared.Turn.{Turn}
use Rattle.attempt.specs.declared.Ending.{Ending}
use Rattle.attempt.specs.declared.Ending.TheVariants.{NotYet, Passes, ModeEnds, Inconclusive}
use Rattle.loaded_test.specs.declared.Test.{Test}
use Rattle.loaded_test.specs.declared.Stepped.{Stepped}
use Rattle.loaded_test.specs.State.{with_measuring, stepped, stepped_with}
use Rattle.attempt.specs.Ending.{ending_rule}
use Rattle.attempt.specs.Measuring.{window_ends, window_counted, restarts, restarted}
use Rattle.loaded_test.specs.Voids.{ended, mode_ended, voided, step_five}

-- What the ending rule says is done: a pass; the end of the mode; "else void 9"; else the attempt goes on to step 5.
unfoldable pub closed : Ending → Progress → Turn
closed NotYet p = step_five (did.Measured p.measuring.seconds) p
closed Passes p = ended (did.Measured p.measuring.seconds) Pass p.voids p
closed ModeEnds p = mode_ended p.mode (did.Measured p.measuring.seconds) p.voids p
closed Inconclusive p = voided 9 p

-- The ending rule on the counts of this second.
unfoldable pub concluded : MeasuringCounts → Progress → Turn
concluded k p = closed (ending_rule k.seconds k.windows k.held) (with_measuring k p)

-- "from t = 10, the window ending here is valid if none of its seconds is out and engine speed was good in all"
unfoldable pub window_taken : ℕ → List Measured → Bool
window_taken t last = window_ends t && window_valid last

-- "a valid one passes if all three gases pass, else fails"; one that is not valid is invalid (document 02, A.8).
unfoldable pub outcome_of : Bool → Vehicle → List Measured → WindowOutcome
outcome_of valid v last = pick valid (pick (window_passes v last) Passing Failing) Invalid

-- The window that ends here, counted; before t = 10 none ends.
unfoldable pub window_judged : Bool → Vehicle → List Measured → MeasuringCounts → MeasuringCounts
window_judged valid v last k = window_counted (outcome_of valid v last) k

-- The last valid window, with the one that ends here.
unfoldable pub window_kept : Bool → List Measured → List Measured → List Measured
window_kept valid last window = pick valid last window

-- The window that ends here is counted, and kept where it is valid; the ending rule follows.
unfoldable pub judged : Bool → Test → MeasuringCounts → Progress → List Measured → Stepped
judged valid x k p last =
    stepped_with x.vehicle last (window_kept valid last x.window)
    (concluded (window_judged valid x.vehicle last k) p)

-- A measured second, its units in m, after t, u and w have taken it up: at a restart "t, u, w, counts and windows become empty and step 5 follows."
unfoldable pub measures : Test → Measured → MeasuringCounts → Progress → Stepped
measures x m k p =
    pick (restarts k)
    (stepped x (step_five did.Restarted (with_measuring (restarted k) p)))
    (judged (window_taken k.seconds (take 10 (m ∷ x.last))) x k p (take 10 (m ∷ x.last)))
