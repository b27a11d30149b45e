-- What is shown of a test's last valid window, as its log tells it (document 01, "A verdict keeps the last attempt's counts and window";
-- document 02, A.1). The run is read from the log: t is told by each measured second and by a verdict. Newest first.
use Rattle.std.specs.Prelude.{ℕ, ◌-◌, ◌≡◌, List, [], ◌∷◌, map, length, drop, Some, None, IsSome}
use Rattle.reading.specs.declared.Second.{Second}
use Rattle.vehicle.specs.declared.Vehicle.{Vehicle}
use Rattle.window.specs.Measuring.{measured_of}
use Rattle.window.specs.Plain.{EngineTold}
use Rattle.loaded_test.specs.declared.Did.{Did}
use Rattle.loaded_test.specs.declared.Did.TheVariants as did
use Rattle.loaded_test.specs.declared.Next.{Next}
use Rattle.loaded_test.specs.declared.Next.TheVariants.{GoesOn, Rests, RestEnded, ModeTwo, Ends}
use Rattle.loaded_test.specs.declared.Test.{Test}
use Rattle.loaded_test.specs.State.{last_window, engine_shown}
use Rattle.loaded_test.specs.Windows.{last_valid}
use Rattle.loaded_test.specs.Log.{Entry, Input, a_second, a_stop}
use Rattle.loaded_test.specs.Claim.{mode_in, AllClean}

-- t after an entry with which the attempt goes on, from t before it: 0 where measuring begins or begins anew.
unfoldable pub t_going : Did → ℕ → ℕ
t_going did.Nothing t = t
t_going did.MeasuringBegan t = 0
t_going (did.Measured n) t = n
t_going did.Restarted t = 0
t_going (did.Voided n) t = t

-- t after an entry: 0 in rest and in a new attempt; "A verdict carries word, t, passing, failing".
unfoldable pub t_after : Did → Next → ℕ → ℕ
t_after d GoesOn t = t_going d t
t_after d Rests t = 0
t_after d RestEnded t = 0
t_after d ModeTwo t = 0
t_after d (Ends x) t = x.t

-- Seconds with one more input: a stop is no second.
unfoldable pub with_input : Input → List Second → List Second
with_input (a_second s) l = s ∷ l
with_input (a_stop n) l = l

-- The oldest n of these seconds.
unfoldable pub oldest : ℕ → List Second → List Second
oldest n l = drop (length l - n) l

-- The run that a log tells: the measured seconds that t counts, of the attempt that runs or that the verdict ended. Of the run before an
-- entry and the entry's own second these are the oldest t: a second that is not measured is none of them.
unfoldable pub run_in : List Entry → List Second
run_in [] = []
run_in (e ∷ log) = oldest (t_after e.did e.next (length (run_in log))) (with_input e.input (run_in log))

-- The ten seconds of the last valid window that a log tells; no second where there is none.
abbrev pub last_valid_in : Vehicle → List Entry → List Second
last_valid_in v log = last_valid v (mode_in log) (run_in log)

-- Where there is a last valid window, what is shown is of its ten seconds.
pub record WindowTold (v : Vehicle) (log : List Entry) (x : Test) : Type 0 where
  pub ten : length (last_valid_in v log) ≡ 10
  pub window : last_window x ≡ Some (map (measured_of v (mode_in log)) (last_valid_in v log))
  -- "their mean, rounded half up .. With any of the ten missing the field is "-"."
  pub engine : EngineTold (last_valid_in v log) (engine_shown x)
  -- none of the ten is over range in codes 4 to 7 or diluted (document 02, A.11: every valid window meets the premise)
  pub clean : AllClean (last_valid_in v log)

-- What is shown of a test after a log; t counts the seconds of its run.
pub record SheetTold (v : Vehicle) (log : List Entry) (x : Test) : Type 0 where
  pub seconds : x.progress.measuring.seconds ≡ length (run_in log)
  pub none : last_valid_in v log ≡ [] → (last_window x ≡ None) × (engine_shown x ≡ None)
  pub some : (last_valid_in v log ≡ [] → ⊥) → WindowTold v log x

-- Every second among these inputs has its engine speed.
abbrev pub AllPresentIn : List Input → Type 0
AllPresentIn [] = Unit {0}
AllPresentIn (a_second s ∷ l) = IsSome s.engine × AllPresentIn l
AllPresentIn (a_stop n ∷ l) = AllPresentIn l
