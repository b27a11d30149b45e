-- The thirteen kinds of event (document 01, "Locks of the bench"; document 02, A.2 and A.5), and what each carries.
use Rattle.std.specs.Prelude.{ℕ, Bool, true, false, eqb, Some, None, Option}
use Rattle.reading.specs.Kind.{Readings}
use Rattle.vehicle.specs.declared.Settings.{Settings}
use Rattle.refusal.specs.Choice.{pick}
use Rattle.coast_down.specs.declared.SpeedRange.{SpeedRange}
use Rattle.coast_down.specs.declared.SpeedRange.TheVariants.{Faster, Slower}
use Rattle.coast_down.specs.declared.Run.{Run}
use Rattle.prepare.specs.declared.ZeroCheck.{ZeroCheck}
use Rattle.locks.specs.declared.Calibration.{Calibration as Outcome}
use Rattle.locks.specs.declared.Try.{Try as Tried}
use Rattle.locks.specs.declared.Event.{Event}
use Rattle.locks.specs.declared.Event.TheVariants.{PowerOn, ClockSetting, WarmUp, Calibration, Try, AuthorityLock, AuthorityUnlock, Upload, Start, Second, Stop, CoastDown, Prepare}
use Rattle.locks.specs.declared.Kind.{Kind}
use Rattle.locks.specs.declared.Kind.TheVariants as kind
use Rattle.locks.specs.declared.Service.{Service}
use Rattle.locks.specs.declared.Service.TheVariants as service
use Rattle.locks.specs.declared.Carried.{Carried}
use Rattle.locks.specs.declared.Carried.TheVariants as carried
use Rattle.locks.specs.declared.Contents.{Contents}

-- "Kinds: 1 power-on; 2 clock setting ..; 3 warm-up finished; 4 calibration ..; 5 try ..; 6 authority lock; 7 authority unlock; 8 upload;
-- 9 start ..; 10 second ..; 11 stop ..", "A run is event kind 12", "A prepare event, kind 13".
abbrev pub kind_number : Kind → ℕ
kind_number kind.PowerOn = 1
kind_number kind.ClockSetting = 2
kind_number kind.WarmUp = 3
kind_number kind.Calibration = 4
kind_number kind.Try = 5
kind_number kind.AuthorityLock = 6
kind_number kind.AuthorityUnlock = 7
kind_number kind.Upload = 8
kind_number kind.Start = 9
kind_number kind.Second = 10
kind_number kind.Stop = 11
kind_number kind.CoastDown = 12
kind_number kind.Prepare = 13

-- Two kinds are one if their numbers are.
abbrev pub same_kind : Kind → Kind → Bool
same_kind a b = eqb (kind_number a) (kind_number b)

-- An event's kind, its clock and what it carries beside it.
abbrev pub described : Kind → ℕ → Carried → Contents
described k clock x = record { kind = k; clock = clock; carried = x }

-- "Events carry a clock (32 bits, seconds)": a clock setting also its new clock, a calibration whether it passed, a try whether it was good
-- and its expiry, a start "the seven settings, then p", a second "codes 1 to 8", a stop its cause. "A run is .. inertia, power .., which
-- run .., milliseconds". "A prepare event .. carries background HC, CO, NO in units and the HC residue".
abbrev pub contents_of : Event → Contents
contents_of (PowerOn clock) = described kind.PowerOn clock (carried.Service service.Nothing)
contents_of (ClockSetting clock new) = described kind.ClockSetting clock (carried.Service (service.NewClock new))
contents_of (WarmUp clock) = described kind.WarmUp clock (carried.Service service.Nothing)
contents_of (Calibration clock outcome) = described kind.Calibration clock (carried.Service (service.Outcome outcome))
contents_of (Try clock outcome) = described kind.Try clock (carried.Service (service.Tried outcome))
contents_of (AuthorityLock clock) = described kind.AuthorityLock clock (carried.Service service.Nothing)
contents_of (AuthorityUnlock clock) = described kind.AuthorityUnlock clock (carried.Service service.Nothing)
contents_of (Upload clock) = described kind.Upload clock (carried.Service service.Nothing)
contents_of (Start clock settings p) = described kind.Start clock (carried.Start settings p)
contents_of (Second clock readings) = described kind.Second clock (carried.Second readings)
contents_of (Stop clock cause) = described kind.Stop clock (carried.Stop cause)
contents_of (CoastDown clock run) = described kind.CoastDown clock (carried.Service (service.Ran run))
contents_of (Prepare clock check) = described kind.Prepare clock (carried.Service (service.Prepared check))

-- Its kind.
abbrev pub kind_of : Event → Kind
kind_of e = (contents_of e).kind

-- Its own clock.
abbrev pub clock_of : Event → ℕ
clock_of e = (contents_of e).clock

-- What it carries.
abbrev pub carried_by : Event → Carried
carried_by e = (contents_of e).carried

-- What an event that is no start, second or stop carries; nothing in these.
abbrev pub served_by : Carried → Service
served_by (carried.Service x) = x
served_by _ = service.Nothing

-- The same, of the event.
abbrev pub service_in : Event → Service
service_in e = served_by (carried_by e)

-- "its clock, or a clock setting's new one, becomes the last"
abbrev pub clock_after : Event → ℕ
clock_after (ClockSetting clock new) = new
clock_after e = clock_of e

-- What a calibration carries, with its clock.
pub record Calibrating : Type 0 where
  pub clock : ℕ
  pub outcome : Outcome

-- The calibration in an event, with its clock.
abbrev pub calibration_in : Event → Option Calibrating
calibration_in (Calibration clock outcome) = Some (record { clock = clock; outcome = outcome })
calibration_in _ = None

-- The try in an event.
abbrev pub try_in : Event → Option Tried
try_in (Try clock outcome) = Some outcome
try_in _ = None

-- A coast-down run.
abbrev pub run_with : Service → Option Run
run_with (service.Ran run) = Some run
run_with _ = None

-- The coast-down run in an event.
abbrev pub run_in : Event → Option Run
run_in e = run_with (service_in e)

-- Both are the faster, or both the slower.
abbrev pub same_speeds : SpeedRange → SpeedRange → Bool
same_speeds Faster Faster = true
same_speeds Faster Slower = false
same_speeds Slower Faster = false
same_speeds Slower Slower = true

-- A run, if it is of these speeds.
unfoldable pub of_speeds : SpeedRange → Option Run → Option Run
of_speeds speeds None = None
of_speeds speeds (Some run) = pick (same_speeds speeds run.speeds) (Some run) None

-- The coast-down run of these speeds in an event.
abbrev pub run_at : SpeedRange → Event → Option Run
run_at speeds e = of_speeds speeds (run_in e)

-- What a prepare carries, with its clock.
pub record Preparing : Type 0 where
  pub clock : ℕ
  pub check : ZeroCheck

-- A prepare at this clock.
abbrev pub prepare_with : ℕ → Service → Option Preparing
prepare_with clock (service.Prepared check) = Some (record { clock = clock; check = check })
prepare_with clock _ = None

-- The prepare in an event, with its clock.
abbrev pub prepare_in : Event → Option Preparing
prepare_in e = prepare_with (clock_of e) (service_in e)

-- "start (the seven settings, then p ..)"
pub record Starting : Type 0 where
  pub settings : Settings
  pub saturation : ℕ

-- A start.
abbrev pub start_with : Carried → Option Starting
start_with (carried.Start settings p) = Some (record { settings = settings; saturation = p })
start_with _ = None

-- The start in an event.
abbrev pub start_in : Event → Option Starting
start_in e = start_with (carried_by e)

-- The readings of a second.
abbrev pub readings_with : Carried → Option Readings
readings_with (carried.Second readings) = Some readings
readings_with _ = None

-- The readings in an event.
abbrev pub readings_in : Event → Option Readings
readings_in e = readings_with (carried_by e)

-- The cause of a stop.
abbrev pub cause_with : Carried → Option ℕ
cause_with (carried.Stop cause) = Some cause
cause_with _ = None

-- The stop's cause in an event.
abbrev pub cause_in : Event → Option ℕ
cause_in e = cause_with (carried_by e)
