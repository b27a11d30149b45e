-- The eight locks, read from the accepted events, newest first, the start's clock, V and U. Document 01: "A start is locked by the
-- first standing one"; lock 3 with document 02, A.2, and lock 8 by document 02, A.5. specs/Plain.antt says the same of each in plain
-- propositions.
use Rattle.std.specs.Prelude.{ℕ, suc, ◌+◌, Bool, true, false, not, ◌&&◌, ◌||◌, List, [], ◌∷◌, find, ltb, leb, eqb, Some, None, Option}
use Rattle.refusal.specs.Choice.{pick}
use Rattle.loaded_test.specs.declared.Verdict.{Verdict}
use Rattle.coast_down.specs.declared.SpeedRange.{SpeedRange}
use Rattle.coast_down.specs.declared.SpeedRange.TheVariants.{Faster, Slower}
use Rattle.coast_down.specs.declared.Run.{Run}
use Rattle.coast_down.specs.Passing.{run_passed}
use Rattle.prepare.specs.Standing.{prepare_stands}
use Rattle.locks.specs.declared.Calibration.{Calibration}
use Rattle.locks.specs.declared.Calibration.TheVariants.{Passed, Failed}
use Rattle.locks.specs.declared.Try.{Try}
use Rattle.locks.specs.declared.Try.TheVariants.{Good, Wrong}
use Rattle.locks.specs.declared.Kind.{Kind}
use Rattle.locks.specs.declared.Kind.TheVariants as kind
use Rattle.locks.specs.declared.Event.{Event}
use Rattle.locks.specs.declared.Event.TheVariants as event
use Rattle.locks.specs.declared.Lock.{Lock}
use Rattle.locks.specs.declared.Lock.TheVariants.{NotWarm, Inactive, NotCalibrated, NotSignedIn, Password, Authority, Unsent, Unprepared}
use Rattle.locks.specs.Events.{kind_of, clock_of, calibration_in, try_in, run_at, prepare_in, Calibrating, Preparing}
use Rattle.locks.specs.Accepted.{Accepted, is_kind, since, any, latest_of}

-- "V (calibration validity, 1 to 2,592,000 s) and U (unsent limit, 1 to 255)"
abbrev pub parameters_fit : ℕ → ℕ → Bool
parameters_fit validity limit = leb 1 validity && leb validity 2592000 && (leb 1 limit && leb limit 255)

-- "Power-on and clock setting void warm-up, calibration and sign-in (as none)".
abbrev pub voids : Kind → Bool
voids kind.PowerOn = true
voids kind.ClockSetting = true
voids _ = false

-- Such an accepted event.
abbrev pub voiding : Accepted → Bool
voiding a = voids (kind_of a.event)

-- "1 no finished warm-up"
unfoldable pub not_warm : List Accepted → Bool
not_warm l = not (any (is_kind kind.WarmUp) (since voiding l))

-- "the latest warm-up or accepted second"
abbrev pub renews : Kind → Bool
renews kind.WarmUp = true
renews kind.Second = true
renews _ = false

-- The clock of a warm-up or a second.
unfoldable pub active_clock : Event → Option ℕ
active_clock e = pick (renews (kind_of e)) (Some (clock_of e)) None

-- "over 1,800 s since"
abbrev pub overdue : ℕ → Option ℕ → Bool
overdue now None = false
overdue now (Some clock) = ltb (clock + 1800) now

-- "2 over 1,800 s since the latest warm-up or accepted second". Where there is none, lock 1 stands.
unfoldable pub inactive : ℕ → List Accepted → Bool
inactive now l = overdue now (latest_of active_clock l)

-- "3 no calibration, latest not passed, or older than V"
unfoldable pub expired : ℕ → ℕ → ℕ → Calibration → Bool
expired validity now clock Passed = ltb (clock + validity) now
expired validity now clock Failed = true

-- "no calibration, latest not passed, or older than V"
unfoldable pub none_valid : ℕ → ℕ → Option Calibrating → Bool
none_valid validity now None = true
none_valid validity now (Some c) = expired validity now c.clock c.outcome

-- The latest calibration that is not void.
unfoldable pub latest_calibration : List Accepted → Option Calibrating
latest_calibration l = latest_of calibration_in (since voiding l)

-- The latest coast-down run of these speeds that is not void.
unfoldable pub latest_run : SpeedRange → List Accepted → Option Run
latest_run speeds l = latest_of (run_at speeds) (since voiding l)

-- There is a run, and it passed.
unfoldable pub some_passed : Option Run → Bool
some_passed None = false
some_passed (Some run) = run_passed run

-- "Lock 3 now also holds unless the latest run of each speed passed and came after the latest power-on or clock setting"
unfoldable pub not_coasted : List Accepted → Bool
not_coasted l = not (some_passed (latest_run Faster l)) || not (some_passed (latest_run Slower l))

-- Lock 3: "V still counts from the analyser's calibration".
unfoldable pub not_calibrated : ℕ → ℕ → List Accepted → Bool
not_calibrated validity now l = none_valid validity now (latest_calibration l) || not_coasted l

-- "4 no try, latest not good, or its expiry before now"
unfoldable pub none_good : ℕ → Option Try → Bool
none_good now None = true
none_good now (Some (Good expiry)) = ltb expiry now
none_good now (Some Wrong) = true

-- The latest try that is not void.
unfoldable pub latest_try : List Accepted → Option Try
latest_try l = latest_of try_in (since voiding l)

-- Lock 4.
unfoldable pub not_signed_in : ℕ → List Accepted → Bool
not_signed_in now l = none_good now (latest_try l)

-- A wrong try.
abbrev pub is_wrong : Event → Bool
is_wrong (event.Try clock Wrong) = true
is_wrong _ = false

-- "a good try ends a row"
abbrev pub ends_row : Event → Bool
ends_row (event.Try clock (Good expiry)) = true
ends_row _ = false

-- "Authority unlock clears the wrong-try row, password lock and authority lock."
abbrev pub unlocks : Accepted → Bool
unlocks a = is_kind kind.AuthorityUnlock a

-- What ends a row of wrong tries: an unlock or a good try.
abbrev pub row_end : Accepted → Bool
row_end a = unlocks a || ends_row a.event

-- How many of them are wrong tries.
unfoldable pub wrong_tries : List Accepted → ℕ
wrong_tries [] = 0
wrong_tries (a ∷ l) = pick (is_wrong a.event) (suc (wrong_tries l)) (wrong_tries l)

-- The wrong tries in a row: those since the row began.
unfoldable pub wrong_row : List Accepted → ℕ
wrong_row l = wrong_tries (since row_end l)

-- "5 four wrong tries in a row at any time since the last unlock (a good try ends a row but lifts no lock)"
unfoldable pub password_lock : List Accepted → Bool
password_lock [] = false
password_lock (a ∷ l) = not (unlocks a) && (leb 4 (wrong_row (a ∷ l)) || password_lock l)

-- "6 authority lock", until an unlock.
unfoldable pub authority_lock : List Accepted → Bool
authority_lock l = any (is_kind kind.AuthorityLock) (since unlocks l)

-- One verdict more, where an event brought one.
unfoldable pub with_verdict : Option Verdict → ℕ → ℕ
with_verdict None n = n
with_verdict (Some x) n = suc n

-- How many verdicts these accepted events brought.
unfoldable pub verdicts_in : List Accepted → ℕ
verdicts_in [] = 0
verdicts_in (a ∷ l) = with_verdict a.verdict (verdicts_in l)

-- The verdicts since the last upload.
unfoldable pub unsent_in : List Accepted → ℕ
unsent_in l = verdicts_in (since (is_kind kind.Upload) l)

-- "7 verdicts since the last upload = U"
unfoldable pub unsent_lock : ℕ → List Accepted → Bool
unsent_lock limit l = eqb (unsent_in l) limit

-- "Power-on and clock setting void it", and a start, "once admitted, uses it up".
abbrev pub ends_prepare : Kind → Bool
ends_prepare kind.Start = true
ends_prepare k = voids k

-- An accepted event that ends a prepare; an accepted start is an admitted one.
abbrev pub prepare_end : Accepted → Bool
prepare_end a = ends_prepare (kind_of a.event)

-- The latest prepare that is neither void nor used up.
unfoldable pub latest_prepare : List Accepted → Option Preparing
latest_prepare l = latest_of prepare_in (since prepare_end l)

-- "A start needs the latest prepare to stand and to be at most 120 s old"
unfoldable pub none_stands : ℕ → Option Preparing → Bool
none_stands now None = true
none_stands now (Some p) = not (prepare_stands p.check) || ltb (p.clock + 120) now

-- "Otherwise lock 8 holds, after lock 7."
unfoldable pub not_prepared : ℕ → List Accepted → Bool
not_prepared now l = none_stands now (latest_prepare l)

-- Which of the eight stand.
abbrev pub standing_in : ℕ → ℕ → ℕ → List Accepted → Lock → Bool
standing_in validity limit now l NotWarm = not_warm l
standing_in validity limit now l Inactive = inactive now l
standing_in validity limit now l NotCalibrated = not_calibrated validity now l
standing_in validity limit now l NotSignedIn = not_signed_in now l
standing_in validity limit now l Password = password_lock l
standing_in validity limit now l Authority = authority_lock l
standing_in validity limit now l Unsent = unsent_lock limit l
standing_in validity limit now l Unprepared = not_prepared now l

-- "1 no finished warm-up .. 2 .. 7", and lock 8 "after lock 7".
abbrev pub lock_number : Lock → ℕ
lock_number NotWarm = 1
lock_number Inactive = 2
lock_number NotCalibrated = 3
lock_number NotSignedIn = 4
lock_number Password = 5
lock_number Authority = 6
lock_number Unsent = 7
lock_number Unprepared = 8

-- The eight in their order: one list, for the accepted events and for what the bench keeps.
abbrev pub in_order : List Lock
in_order = NotWarm ∷ Inactive ∷ NotCalibrated ∷ NotSignedIn ∷ Password ∷ Authority ∷ Unsent ∷ Unprepared ∷ []

-- "A start is locked by the first standing one", if one stands.
unfoldable pub first_standing : (Lock → Bool) → Option Lock
first_standing stands = find stands in_order

-- The same, from the accepted events.
unfoldable pub lock_of : ℕ → ℕ → ℕ → List Accepted → Option Lock
lock_of validity limit now l = first_standing (standing_in validity limit now l)
