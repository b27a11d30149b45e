-- The plain history is fed V, U and the events: what it answers to each, and what it holds after it.
use Rattle.std.specs.Result.{result_ok}
use Rattle.reading.specs.declared.Second.{Second}
use Rattle.std.specs.Prelude.{ℕ, Bool, List, [], ◌∷◌, Some, None, Ok, Err, Result, Option}
use Rattle.refusal.specs.Choice.{pick}
use Rattle.refusal.specs.declared.Refusal.{Refusal}
use Rattle.reading.specs.Units.{second_of}
use Rattle.loaded_test.specs.declared.Verdict.{Verdict}
use Rattle.loaded_test.specs.declared.Next.{Next}
use Rattle.loaded_test.specs.declared.Next.TheVariants.{Ends}
use Rattle.loaded_test.specs.declared.Told.{Told as TestTold}
use Rattle.loaded_test.specs.declared.Test.{Test}
use Rattle.loaded_test.specs.Steps.{begin}
use Rattle.loaded_test.specs.Log.{Input, a_second, a_stop, step}
use Rattle.locks.specs.declared.Event.{Event}
use Rattle.locks.specs.declared.Kind.{Kind}
use Rattle.locks.specs.declared.Kind.TheVariants as kind
use Rattle.locks.specs.declared.Carried.{Carried}
use Rattle.locks.specs.declared.Carried.TheVariants as carried
use Rattle.locks.specs.Events.{kind_of, same_kind, carried_by, clock_after}
use Rattle.locks.specs.Accepted.{accepted}
use Rattle.bench.specs.History.{History, Answer}
use Rattle.bench.specs.Causes.{automatic_in, causes, first_cause}

-- What a test is given by an event: a second's units, or a stop.
unfoldable pub second_input : Result Second Refusal → Option Input
second_input (Ok s) = Some (a_second s)
second_input (Err r) = None

-- What is given to the test: the units of a second, the cause of a stop, or nothing.
abbrev pub input_with : Bool → Carried → Option Input
input_with automatic (carried.Second readings) = second_input (second_of readings automatic)
input_with automatic (carried.Stop cause) = Some (a_stop cause)
input_with automatic _ = None

-- What an event gives the test.
abbrev pub input_of : Bool → Event → Option Input
input_of automatic e = input_with automatic (carried_by e)

-- The verdict that a step tells, if it tells one.
unfoldable pub verdict_next : Next → Option Verdict
verdict_next (Ends x) = Some x
verdict_next _ = None

-- The verdict in what the test answered, if there is one.
unfoldable pub verdict_told : Result TestTold Refusal → Option Verdict
verdict_told (Ok told) = verdict_next told.next
verdict_told (Err r) = None

-- What an accepted event brings: its verdict, if it brings one, and the test that it leaves, if it leaves one.
pub record Outcome : Type 0 where
  pub verdict : Option Verdict
  pub test : Option Test

-- A test or none is left, and no verdict came.
abbrev pub leaves : Option Test → Outcome
leaves test = record { verdict = None; test = test }

-- "a verdict .. leaves none"
unfoldable pub ended_by : Option Verdict → Test → Outcome
ended_by None t = leaves (Some t)
ended_by (Some x) t = record { verdict = Some x; test = None }

-- "seconds and stops take the steps"
unfoldable pub step_taken : Option Test → Option Input → Outcome
step_taken None i = leaves None
step_taken (Some t) None = leaves (Some t)
step_taken (Some t) (Some i) = ended_by (verdict_told (step t i).answer) (step t i).test

-- "power-on leaves none"
unfoldable pub left_by : Kind → Option Test → Option Test
left_by k test = pick (same_kind k kind.PowerOn) None test

-- "An accepted (admitted) start begins a test, seconds and stops take the steps, a verdict or power-on leaves none."
abbrev pub outcome_with : History → Event → Carried → Outcome
outcome_with h e (carried.Service x) = leaves (left_by (kind_of e) h.test)
outcome_with h e (carried.Start settings p) = leaves (result_ok (begin settings p))
outcome_with h e (carried.Second readings) = step_taken h.test (input_of (automatic_in h.events) e)
outcome_with h e (carried.Stop cause) = step_taken h.test (input_of (automatic_in h.events) e)

-- What an accepted event brings.
abbrev pub outcome_of : History → Event → Outcome
outcome_of h e = outcome_with h e (carried_by e)

-- What the history answers, and the history after it.
pub record Told : Type 0 where
  pub answer : Answer
  pub history : History

-- "An accepted one answers so, with its verdict if it brings one, and is added; its clock, or a clock setting's new one, becomes the last."
unfoldable pub added : History → Event → Outcome → Told
added h e o = record {
  answer = Ok o.verdict;
  history = record { events = accepted e o.verdict ∷ h.events; last = clock_after e; test = o.test };
}

-- "A refused one answers its number and place and changes nothing."
unfoldable pub judged : Option Refusal → History → Event → Told
judged (Some r) h e = record { answer = Err r; history = h }
judged None h e = added h e (outcome_of h e)

-- One event told to the history: "A refused one answers its number and place and changes nothing"; an accepted one is added.
unfoldable pub tell : ℕ → ℕ → History → Event → Told
tell validity limit h e = judged (first_cause (causes validity limit h e)) h e

-- The history after a list of events, and what it answers to each.
unfoldable pub history_after : ℕ → ℕ → History → List Event → History
history_after validity limit h [] = h
history_after validity limit h (e ∷ es) = history_after validity limit (tell validity limit h e).history es

-- The answers of the history to the events fed to it in turn.
unfoldable pub history_answers : ℕ → ℕ → History → List Event → List Answer
history_answers validity limit h [] = []
history_answers validity limit h (e ∷ es) =
    (tell validity limit h e).answer ∷ history_answers validity limit (tell validity limit h e).history es
