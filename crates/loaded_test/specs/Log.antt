-- What a test is given and what it tells, newest first: the log. Attempts, modes and voids are read from it.
use Rattle.std.specs.Prelude.{ℕ, List, [], ◌∷◌, Ok, Err, Result}
use Rattle.reading.specs.declared.Second.{Second}
use Rattle.vehicle.specs.declared.Vehicle.{Vehicle}
use Rattle.loaded_test.specs.declared.Did.{Did}
use Rattle.loaded_test.specs.declared.Next.{Next}
use Rattle.loaded_test.specs.declared.Told.{Told}
use Rattle.refusal.specs.declared.Refusal.{Refusal}
use Rattle.loaded_test.specs.declared.Test.{Test}
use Rattle.loaded_test.specs.declared.Stepped.{Stepped}
use Rattle.loaded_test.specs.State.{began}
use Rattle.loaded_test.specs.Steps.{second, stop}

-- What a test is given: a second, or a stop with its cause.
pub data Input : Type 0 where
  a_second : Second → Input
  a_stop : ℕ → Input

-- What one second or stop told.
pub record Entry : Type 0 where
  pub input : Input
  pub did : Did
  pub next : Next

-- A second or a stop, taken by a test.
abbrev pub step : Test → Input → Stepped
step x (a_second s) = second x s
step x (a_stop n) = stop x n

-- The test after a list of inputs from its beginning, newest first.
unfoldable pub replay : Vehicle → List Input → Test
replay v [] = began v
replay v (i ∷ l) = (step (replay v l) i).test

-- What is told is added; what is refused is not.
unfoldable pub logged : Input → Result Told Refusal → List Entry → List Entry
logged i (Ok told) log = record { input = i; did = told.did; next = told.next } ∷ log
logged i (Err r) log = log

-- The log after a list of inputs.
unfoldable pub log_of : Vehicle → List Input → List Entry
log_of v [] = []
log_of v (i ∷ l) = logged i (step (replay v l) i).answer (log_of v l)
