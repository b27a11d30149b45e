-- The test that runs, and what it was given, read from the accepted events alone.
use Rattle.std.specs.Prelude.{Bool, ◌||◌, List, [], ◌∷◌, Some, None, Option, is_some}
use Rattle.vehicle.specs.Checked.{vehicle_of}
use Rattle.loaded_test.specs.declared.Test.{Test}
use Rattle.loaded_test.specs.Log.{Input, replay}
use Rattle.locks.specs.declared.Kind.TheVariants as kind
use Rattle.locks.specs.Events.{start_in, Starting}
use Rattle.locks.specs.Accepted.{Accepted, is_kind, since, latest_of}
use Rattle.bench.specs.Causes.{automatic_in}
use Rattle.bench.specs.Telling.{input_of}

-- An input more, where an event gives one.
unfoldable pub with_input : Option Input → List Input → List Input
with_input None l = l
with_input (Some i) l = i ∷ l

-- What accepted events give a test with this gearbox, newest first: the units of each second, the cause of each stop.
unfoldable pub inputs_of : Bool → List Accepted → List Input
inputs_of automatic [] = []
inputs_of automatic (a ∷ l) = with_input (input_of automatic a.event) (inputs_of automatic l)

-- What the accepted seconds and stops since the newest start give its test, newest first.
abbrev pub inputs_since : List Accepted → List Input
inputs_since l = inputs_of (automatic_in l) (since (is_kind kind.Start) l)

-- "a verdict or power-on leaves none"
abbrev pub ends_test : Accepted → Bool
ends_test a = is_kind kind.PowerOn a || is_some a.verdict

-- The test that a start begins, after document 01's steps on these inputs.
unfoldable pub replayed_from : Option Starting → List Input → Option Test
replayed_from None inputs = None
replayed_from (Some s) inputs = Some (replay (vehicle_of s.settings s.saturation) inputs)

-- "An accepted (admitted) start begins a test, seconds and stops take the steps, a verdict or power-on leaves none."
unfoldable pub test_in : List Accepted → Option Test
test_in l = replayed_from (latest_of start_in (since ends_test l)) (inputs_since l)
