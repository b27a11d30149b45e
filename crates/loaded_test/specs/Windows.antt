-- What is counted from a run of measured seconds, newest first, by the window rule and by the rules on "out". No state of a test occurs here.
use Rattle.std.specs.Prelude.{ℕ, suc, max, Bool, not, ◌&&◌, List, [], ◌∷◌, map, leb, length, take}
use Rattle.refusal.specs.Choice.{pick}
use Rattle.reading.specs.declared.Second.{Second}
use Rattle.vehicle.specs.declared.Vehicle.{Vehicle}
use Rattle.vehicle.specs.declared.Mode.{Mode}
use Rattle.window.specs.declared.Measured.{Measured}
use Rattle.window.specs.Measuring.{second_out, measured_of, window_valid}
use Rattle.window.specs.Judging.{window_passes}
use Rattle.attempt.specs.declared.Ending.{Ending}
use Rattle.attempt.specs.Ending.{ending_rule}
use Rattle.attempt.specs.Speeds.{speed_held}
use Rattle.attempt.specs.Counting.{row_of, all_of}

-- "Out" is speed more than 15 from target or load out of tolerance.
abbrev pub out_of : Vehicle → Mode → Second → Bool
out_of v mode s = second_out v mode s

-- How many of the newest seconds are out in a row.
unfoldable pub out_row : Vehicle → Mode → List Second → ℕ
out_row v mode l = row_of (map (out_of v mode) l)

-- The longest row of out seconds.
unfoldable pub longest_out : Vehicle → Mode → List Second → ℕ
longest_out v mode [] = 0
longest_out v mode (s ∷ l) = max (out_row v mode (s ∷ l)) (longest_out v mode l)

-- How many seconds are out in all.
unfoldable pub out_all : Vehicle → Mode → List Second → ℕ
out_all v mode l = all_of (map (out_of v mode) l)

-- "A window is ten consecutive measured seconds": the one that ends with the newest second.
unfoldable pub window_of : Vehicle → Mode → List Second → List Measured
window_of v mode l = take 10 (map (measured_of v mode) l)

-- "from t = 10, the window ending here is valid if .."
unfoldable pub valid_here : Vehicle → Mode → List Second → Bool
valid_here v mode l = leb 10 (length l) && window_valid (window_of v mode l)

-- The window ending here is valid and passes.
unfoldable pub passes_here : Vehicle → Mode → List Second → Bool
passes_here v mode l = valid_here v mode l && window_passes v (window_of v mode l)

-- The window ending here is valid and fails.
unfoldable pub fails_here : Vehicle → Mode → List Second → Bool
fails_here v mode l = valid_here v mode l && not (window_passes v (window_of v mode l))

-- The valid windows of a run that pass.
unfoldable pub passing_in : Vehicle → Mode → List Second → ℕ
passing_in v mode [] = 0
passing_in v mode (s ∷ l) = pick (passes_here v mode (s ∷ l)) (suc (passing_in v mode l)) (passing_in v mode l)

-- The valid windows of a run that fail.
unfoldable pub failing_in : Vehicle → Mode → List Second → ℕ
failing_in v mode [] = 0
failing_in v mode (s ∷ l) = pick (fails_here v mode (s ∷ l)) (suc (failing_in v mode l)) (failing_in v mode l)

-- "Invalid" (document 02, A.8): from t = 10, the window ending here is not valid.
unfoldable pub invalid_here : Vehicle → Mode → List Second → Bool
invalid_here v mode l = leb 10 (length l) && not (valid_here v mode l)

-- The windows of a run that are not valid.
unfoldable pub invalid_in : Vehicle → Mode → List Second → ℕ
invalid_in v mode [] = 0
invalid_in v mode (s ∷ l) = pick (invalid_here v mode (s ∷ l)) (suc (invalid_in v mode l)) (invalid_in v mode l)

-- The last valid window of a run: its ten seconds, newest first; no second where no window of the run is valid.
unfoldable pub last_valid : Vehicle → Mode → List Second → List Second
last_valid v mode [] = []
last_valid v mode (s ∷ l) = pick (valid_here v mode (s ∷ l)) (take 10 (s ∷ l)) (last_valid v mode l)

-- The speeds of a run.
abbrev pub speeds_of : List Second → List ℕ
speeds_of l = map (λ s. s.speed) l

-- What the ending rule says at the newest second of a run.
unfoldable pub ending_of : Vehicle → Mode → List Second → Ending
ending_of v mode l =
    ending_rule (length l)
    (record { passing = passing_in v mode l; failing = failing_in v mode l; invalid = invalid_in v mode l })
    (speed_held (speeds_of l))
