-- The rows of document 01's refusal table that can refuse an event, in their order: "Events: 11, 12 or 13, then 4, 5, 15 or 8, then 14.",
-- with those that document 02 adds for a coast-down run (A.2: "16 inertia out of range, then 17 power, after 12") and for a prepare (A.5:
-- "18 a prepare with a background value above its channel's greatest, .. after 12").
-- They judge by V, U and the history alone.
use Rattle.refusal.specs.declared.Refusal.TheVariants.{ClockEarlier, TestRunning, NoTest, SettingUnfit, SaturationUnfit, CauseUnfit, ReadingUnfit, InertiaUnfit, PowerUnfit, BackgroundUnfit, StartLocked}
use Rattle.std.specs.Prelude.{ℕ, Bool, true, false, not, ◌&&◌, ◌||◌, List, [], ◌∷◌, ltb, eqb, Some, None, Option, is_some, option_map, unwrap_or}
use Rattle.refusal.specs.Choice.{pick}
use Rattle.refusal.specs.declared.Refusal.{Refusal}
use Rattle.reading.specs.declared.Channel.{Channel}
use Rattle.reading.specs.Channel.{code_of}
use Rattle.reading.specs.Kind.{Readings}
use Rattle.reading.specs.Fitness.{least_unfit}
use Rattle.correction.specs.Humidity.{saturation_fit}
use Rattle.vehicle.specs.Settings.{automatic, unfit_place}
use Rattle.loaded_test.specs.Steps.{cause_fit}
use Rattle.coast_down.specs.declared.Run.{Run}
use Rattle.coast_down.specs.Passing.{inertia_fit, power_fit}
use Rattle.prepare.specs.Standing.{above_greatest}
use Rattle.locks.specs.declared.Event.{Event}
use Rattle.locks.specs.declared.Kind.{Kind}
use Rattle.locks.specs.declared.Kind.TheVariants as kind
use Rattle.locks.specs.Events.{kind_of, same_kind, clock_of, start_in, readings_in, cause_in, run_in, prepare_in, Starting, Preparing}
use Rattle.locks.specs.Accepted.{Accepted, latest_of}
use Rattle.locks.specs.declared.Lock.{Lock}
use Rattle.locks.specs.Locks.{lock_number, lock_of}
use Rattle.bench.specs.History.{History}

-- A row: whether its cause stands, and what it returns.
pub record Cause : Type 0 where
  pub stands : Bool
  pub refusal : Refusal

-- A row of the table: whether it stands, and its number and place.
abbrev pub cause : Bool → Refusal → Cause
cause stands refusal = record { stands = stands; refusal = refusal }

-- A row that returns a place, and stands where there is one.
abbrev pub cause_at : ℕ → (ℕ → Refusal) → Cause
cause_at place row = cause (not (eqb place 0)) (row place)

-- The number of what was found, 0 where nothing was.
abbrev pub number_in : {A : Type 0} → (A → ℕ) → Option A → ℕ
number_in number o = unwrap_or (option_map number o) 0

-- A row that returns the number of what was found, and stands where something was.
abbrev pub cause_of : {A : Type 0} → Option A → (A → ℕ) → (ℕ → Refusal) → Cause
cause_of o number row = cause (is_some o) (row (number_in number o))

-- "second or stop"
abbrev pub inside_test : Kind → Bool
inside_test k = same_kind k kind.Second || same_kind k kind.Stop

-- "test running (all but power-on, second, stop)"
abbrev pub outside_test : Kind → Bool
outside_test k = not (same_kind k kind.PowerOn || inside_test k)

-- "setting out of range": the first unfit setting of a start, 1 to 7; 0 where there is none.
unfoldable pub setting_at : Option Starting → ℕ
setting_at None = 0
setting_at (Some s) = unfit_place s.settings

-- "saturation value unfit", in a start.
unfoldable pub saturation_bad : Option Starting → Bool
saturation_bad None = false
saturation_bad (Some s) = not (saturation_fit s.saturation)

-- "stop cause .. unfit"
unfoldable pub cause_bad : Option ℕ → Bool
cause_bad None = false
cause_bad (Some n) = not (cause_fit n)

-- "16 inertia out of range", in a coast-down run.
unfoldable pub inertia_bad : Option Run → Bool
inertia_bad None = false
inertia_bad (Some run) = not (inertia_fit run.inertia)

-- "then 17 power"
unfoldable pub power_bad : Option Run → Bool
power_bad None = false
power_bad (Some run) = not (power_fit run.power)

-- "18 a prepare with a background value above its channel's greatest, place the lowest such code": its channel.
unfoldable pub background_in : Option Preparing → Option Channel
background_in None = None
background_in (Some p) = above_greatest p.check

-- The gearbox (2 automatic) is that of the latest start.
unfoldable pub automatic_of : Option Starting → Bool
automatic_of None = false
automatic_of (Some s) = automatic s.settings

-- The same, from the list of accepted events.
abbrev pub automatic_in : List Accepted → Bool
automatic_in l = automatic_of (latest_of start_in l)

-- "reading unfit .. code in an event": the least code whose reading is unfit by that code's own fitness; 0 where there is none.
unfoldable pub reading_at : Bool → Option Readings → ℕ
reading_at automatic None = 0
reading_at automatic (Some r) = least_unfit automatic r

-- No lock stands.
abbrev pub free : Option Lock → Bool
free None = true
free (Some lock) = false

-- "start locked", by the first standing lock.
unfoldable pub locked : Option Lock → Option Starting → Bool
locked lock None = false
locked lock (Some s) = not (free lock)

-- A start's row, by that lock.
abbrev pub locked_row : Option Lock → Option Starting → Cause
locked_row lock x = cause (locked lock x) (StartLocked (number_in lock_number lock))

-- The table's rows for an event after a history.
unfoldable pub causes : ℕ → ℕ → History → Event → List Cause
causes validity limit h e =
    cause (ltb (clock_of e) h.last) (ClockEarlier h.last)
    ∷ cause (is_some h.test && outside_test (kind_of e)) TestRunning
    ∷ cause (not (is_some h.test) && inside_test (kind_of e)) NoTest
    ∷ cause_at (setting_at (start_in e)) SettingUnfit
    ∷ cause (saturation_bad (start_in e)) (SaturationUnfit 0)
    ∷ cause (cause_bad (cause_in e)) CauseUnfit
    ∷ cause_at (reading_at (automatic_in h.events) (readings_in e)) ReadingUnfit
    ∷ cause (inertia_bad (run_in e)) InertiaUnfit
    ∷ cause (power_bad (run_in e)) PowerUnfit
    ∷ cause_of (background_in (prepare_in e)) code_of BackgroundUnfit
    ∷ locked_row (lock_of validity limit (clock_of e) h.events) (start_in e)
    ∷ []

-- What the first standing cause returns.
unfoldable pub first_cause : List Cause → Option Refusal
first_cause [] = None
first_cause (c ∷ l) = pick c.stands (Some c.refusal) (first_cause l)
