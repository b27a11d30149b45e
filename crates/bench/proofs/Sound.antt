-- What holds of the plain history after any list of events: a running test has not ended, and is what document 01's steps make of the
-- accepted seconds and stops since its start; verdicts since the last upload are at most U, and fewer while a test runs.
use Prim.Native.Nat.{ℕ, ◌≤◌, ◌<◌}
use mathlib.Core.Bool.{true}
use mathlib.Core.Path.{◌≡◌}
use mathlib.Core.List.{List}
use Rattle.std.specs.Prelude.{Ok, Some, None, Option}
use Rattle.vehicle.specs.declared.Settings.{Settings}
use Rattle.vehicle.specs.Checked.{vehicle_of, checked_of}
use Rattle.loaded_test.specs.declared.Test.{Test}
use Rattle.loaded_test.specs.Log.{replay, log_of}
use Rattle.loaded_test.specs.Going.{is_running}
use Rattle.locks.specs.Accepted.{Accepted}
use Rattle.locks.specs.Locks.{unsent_in}
use Rattle.bench.specs.History.{History}
use Rattle.bench.specs.Causes.{automatic_in}
use Rattle.vehicle.specs.Settings.{automatic}
use Rattle.bench.specs.Running.{inputs_since}
use Rattle.bench.specs.Passes.{Since}

-- A test follows the accepted events since its start.
pub record Follows (l : List Accepted) (t : Test) : Type 0 where
  pub settings : Settings
  pub saturation : ℕ
  pub fit : checked_of settings saturation ≡ Ok (vehicle_of settings saturation)
  pub gearbox : automatic_in l ≡ automatic settings
  pub replayed : t ≡ replay (vehicle_of settings saturation) (inputs_since l)
  pub since : Since settings saturation l (log_of (vehicle_of settings saturation) (inputs_since l))

-- What holds of a test or none after the accepted events.
abbrev pub Runs : ℕ → List Accepted → Option Test → Type 0
Runs limit l None = Unit {0}
Runs limit l (Some t) = (is_running t.progress.stage ≡ true) × (unsent_in l < limit) × Follows l t

pub record Sound (limit : ℕ) (h : History) : Type 0 where
  pub unsent : unsent_in h.events ≤ limit
  pub test : Runs limit h.events h.test
