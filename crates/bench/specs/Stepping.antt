-- The step of the bench, as the function `step` takes it, and a fresh bench.
use Rattle.refusal.specs.declared.Refusal.TheVariants.{ClockEarlier, TestRunning, NoTest, StartLocked, CauseUnfit, InertiaUnfit, PowerUnfit, BackgroundUnfit}
use Rattle.refusal.specs.Checking.{Check, fine, ◌⨾◌, need}
use Rattle.std.specs.Prelude.{ℕ, Bool, not, ◌&&◌, ltb, Some, None, Option, Ok, Err, Result}
use Rattle.std.specs.Result.{result_and}
use Rattle.refusal.specs.Choice.{pick}
use Rattle.refusal.specs.declared.Refusal.{Refusal}
use Rattle.reading.specs.declared.Channel.{Channel}
use Rattle.reading.specs.Channel.{code_of}
use Rattle.reading.specs.Kind.{Readings}
use Rattle.reading.specs.Units.{second_of}
use Rattle.vehicle.specs.declared.Settings.{Settings}
use Rattle.loaded_test.specs.declared.Verdict.{Verdict}
use Rattle.loaded_test.specs.declared.Next.{Next}
use Rattle.loaded_test.specs.declared.Next.TheVariants.{Ends}
use Rattle.loaded_test.specs.declared.Stepped.{Stepped}
use Rattle.loaded_test.specs.declared.Test.{Test}
use Rattle.loaded_test.specs.State.{none_running}
use Rattle.loaded_test.specs.Going.{is_running}
use Rattle.loaded_test.specs.Steps.{begin, second, stop}
use Rattle.coast_down.specs.declared.Run.{Run}
use Rattle.coast_down.specs.Passing.{inertia_fit, power_fit}
use Rattle.prepare.specs.Standing.{above_greatest}
use Rattle.locks.specs.declared.Lock.{Lock}
use Rattle.locks.specs.declared.Locks.{Locks}
use Rattle.locks.specs.declared.Event.{Event}
use Rattle.locks.specs.declared.Service.{Service}
use Rattle.locks.specs.declared.Service.TheVariants as service
use Rattle.locks.specs.declared.Carried.{Carried}
use Rattle.locks.specs.declared.Carried.TheVariants as carried
use Rattle.locks.specs.declared.Contents.{Contents}
use Rattle.locks.specs.Events.{contents_of, clock_of, clock_after}
use Rattle.locks.specs.Locks.{lock_number, parameters_fit}
use Rattle.locks.specs.State.{fresh_locks, locks_after, verdict_counted, first_lock}
use Rattle.bench.specs.declared.Desk.{Desk}
use Rattle.bench.specs.declared.Bench.{Bench}
use Rattle.bench.specs.declared.Handled.{Handled}
use Rattle.bench.specs.Causes.{outside_test, inside_test, number_in, free}

-- A refused event gives back the same bench.
abbrev pub refused : Refusal → Bench → Handled
refused r b = record { answer = Err r; bench = b }

-- An event by its check: refused, or taken with what the check gives.
abbrev pub unless_refused : {A : Type 0} → Result A Refusal → Bench → (A → Handled) → Handled
unless_refused (Ok x) b take = take x
unless_refused (Err r) b take = refused r b

-- The desk after an accepted event.
abbrev pub desk_after : Desk → Event → Locks → Desk
desk_after d e k = record d { clock = clock_after e; locks = k }

-- An accepted event that brings no verdict, and leaves this test or none.
abbrev pub gone_on : Desk → Event → Test → Handled
gone_on d e t = record { answer = Ok None; bench = record { desk = desk_after d e (locks_after d.locks e); test = t } }

-- An event that is no start, second or stop leaves no test: power-on ends one, the others come where there is none.
abbrev pub plain_taken : Desk → Event → Handled
plain_taken d e = gone_on d e none_running

-- "16 inertia out of range, then 17 power"
abbrev pub run_check : Run → Check
run_check run = need (inertia_fit run.inertia) InertiaUnfit ⨾ need (power_fit run.power) PowerUnfit

-- 18 at this channel's code, the lowest whose background is above its channel's greatest; taken where there is none.
abbrev pub background_check : Option Channel → Check
background_check None = fine
background_check (Some channel) = Err (BackgroundUnfit (code_of channel))

-- Of the events that are no start, second or stop, a coast-down run and a prepare alone can be unfit.
abbrev pub service_check : Service → Check
service_check (service.Ran run) = run_check run
service_check (service.Prepared check) = background_check (above_greatest check)
service_check _ = fine

-- An event that is no start, second or stop.
unfoldable pub service_taken : Bench → Event → Service → Handled
service_taken b e x = unless_refused (service_check x) b λ _. plain_taken b.desk e

-- 14, by the first standing lock.
abbrev pub lock_check : Option Lock → Check
lock_check lock = need (free lock) (StartLocked (number_in lock_number lock))

-- "then 4, 5 .., then 14": the test that begins, unless its settings, its p or a lock refuse it.
abbrev pub test_unless : Check → Result Test Refusal → Result Test Refusal
test_unless lock (Ok t) = result_and lock (Ok t)
test_unless lock (Err r) = Err r

-- The same of a start at this clock.
abbrev pub start_check : Desk → ℕ → Settings → ℕ → Result Test Refusal
start_check d now settings p = test_unless (lock_check (first_lock d.validity d.limit d.locks now)) (begin settings p)

-- A start: judged by its settings, p and the locks; where nothing refuses it, its test begins.
unfoldable pub start_taken : Bench → Event → Settings → ℕ → Handled
start_taken b e settings p = unless_refused (start_check b.desk (clock_of e) settings p) b λ t. gone_on b.desk e t

-- A verdict ends the test and is unsent.
abbrev pub judged_with : Desk → Event → Verdict → Handled
judged_with d e x = record {
  answer = Ok (Some x);
  bench = record { desk = desk_after d e (verdict_counted (locks_after d.locks e)); test = none_running };
}

-- "a verdict or power-on leaves none": what comes next of the test, after this event.
abbrev pub followed : Next → Desk → Event → Test → Handled
followed (Ends x) d e t = judged_with d e x
followed _ d e t = gone_on d e t

-- A second or a stop that was given to the test, by what the test answered.
abbrev pub test_taken : Stepped → Bench → Event → Handled
test_taken x b e = unless_refused x.answer b λ told. followed told.next b.desk e x.test

-- A second: its readings are judged with the running test's gearbox, and refused 8 or given to the test.
unfoldable pub second_taken : Bench → Event → Readings → Handled
second_taken b e readings =
    unless_refused (second_of readings b.test.vehicle.automatic) b λ s. test_taken (second b.test s) b e

-- A stop.
unfoldable pub stop_taken : Bench → Event → ℕ → Handled
stop_taken b e cause = test_taken (stop b.test cause) b e

-- An event that 11, 12 and 13 do not refuse, by what it carries.
abbrev pub taken : Bench → Event → Carried → Handled
taken b e (carried.Service x) = service_taken b e x
taken b e (carried.Start settings p) = start_taken b e settings p
taken b e (carried.Second readings) = second_taken b e readings
taken b e (carried.Stop cause) = stop_taken b e cause

-- A test runs on the bench.
abbrev pub running : Bench → Bool
running b = is_running b.test.progress.stage

-- 11, then 12 or 13: the clock, and whether a test runs.
abbrev pub order_check : Bench → Contents → Check
order_check b x =
    need (not (ltb x.clock b.desk.clock)) (ClockEarlier b.desk.clock)
    ⨾ need (not (running b && outside_test x.kind)) TestRunning
    ⨾ need (not (not (running b) && inside_test x.kind)) NoTest

-- One event by its kind, its clock and what it carries: 11, then 12 or 13, then the others.
unfoldable pub step_by : Bench → Event → Contents → Handled
step_by b e x = unless_refused (order_check b x) b λ _. taken b e x.carried

-- One event.
unfoldable pub step : Bench → Event → Handled
step b e = step_by b e (contents_of e)

-- "Fresh: last clock 0, parameters V .. and U".
abbrev pub fresh_bench : ℕ → ℕ → Bench
fresh_bench validity limit = record {
  desk = record { validity = validity; limit = limit; clock = 0; locks = fresh_locks };
  test = none_running;
}

-- "V or U unfit" is refused 15, and there is no bench: none on which a start could be admitted.
unfoldable pub opened_of : ℕ → ℕ → Result Bench Refusal
opened_of validity limit = pick (parameters_fit validity limit) (Ok (fresh_bench validity limit)) (Err CauseUnfit)
