-- What the bench keeps to tell the locks by, as the functions of this crate change it.
use Rattle.std.specs.Prelude.{ℕ, ◌+◌, min, Bool, true, false, not, ◌||◌, ltb, leb, eqb, if◌then◌else◌, Some, None, Option}
use Rattle.coast_down.specs.declared.SpeedRange.{SpeedRange}
use Rattle.coast_down.specs.declared.SpeedRange.TheVariants.{Faster, Slower}
use Rattle.coast_down.specs.Passing.{run_passed}
use Rattle.prepare.specs.Standing.{prepare_stands}
use Rattle.locks.specs.declared.Calibration.TheVariants.{Passed, Failed}
use Rattle.locks.specs.declared.Try.TheVariants.{Good, Wrong}
use Rattle.locks.specs.declared.Rollers.{Rollers}
use Rattle.locks.specs.declared.Session.{Session}
use Rattle.locks.specs.declared.Security.{Security}
use Rattle.locks.specs.declared.Locks.{Locks}
use Rattle.locks.specs.declared.Event.{Event}
use Rattle.locks.specs.declared.Event.TheVariants.{PowerOn, ClockSetting, WarmUp, Calibration, Try, Upload, Start, Second, CoastDown, Prepare}
use Rattle.locks.specs.declared.Kind.TheVariants as kind
use Rattle.locks.specs.declared.Lock.{Lock}
use Rattle.locks.specs.declared.Lock.TheVariants as lock
use Rattle.locks.specs.Events.{kind_of, same_kind}
use Rattle.locks.specs.Locks.{overdue, is_wrong, ends_row, first_standing}

-- No run that passed.
abbrev pub no_runs : Rollers
no_runs = record { faster = false; slower = false }

-- No warm-up, no calibration, no coast-down, no sign-in.
abbrev pub no_session : Session
no_session = record { warm = false; calibrated = None; rollers = no_runs; signed = None }

-- No wrong try, no lock.
abbrev pub no_security : Security
no_security = record { wrong = 0; password = false; authority = false }

-- A fresh bench: nothing warmed up, calibrated, tried, locked, unsent or prepared.
abbrev pub fresh_locks : Locks
fresh_locks = record { session = no_session; active = None; security = no_security; unsent = 0; prepared = None }

-- A coast-down run in place of the one before of its speeds: whether it passed.
abbrev pub ran_by : SpeedRange → Bool → Rollers → Rollers
ran_by Faster passed k = record k { faster = passed }
ran_by Slower passed k = record k { slower = passed }

-- "Power-on and clock setting void warm-up, calibration and sign-in (as none)", and with document 02, A.2, coast-down runs. A calibration, a
-- run and a try come in place of the one before: a calibration that did not pass leaves none, a good try signs in until its expiry, and "A
-- wrong try also signs out."
abbrev pub session_after : Session → Event → Session
session_after s (PowerOn clock) = no_session
session_after s (ClockSetting clock new) = no_session
session_after s (WarmUp clock) = record s { warm = true }
session_after s (Calibration clock Passed) = record s { calibrated = Some clock }
session_after s (Calibration clock Failed) = record s { calibrated = None }
session_after s (CoastDown clock run) = record s { rollers = ran_by run.speeds (run_passed run) s.rollers }
session_after s (Try clock (Good expiry)) = record s { signed = Some expiry }
session_after s (Try clock Wrong) = record s { signed = None }
session_after s _ = s

-- "the latest warm-up or accepted second": its clock.
abbrev pub active_after : Option ℕ → Event → Option ℕ
active_after active (WarmUp clock) = Some clock
active_after active (Second clock readings) = Some clock
active_after active _ = active

-- Wrong tries in a row are counted up to four, which set the password lock.
abbrev pub one_wrong : ℕ → ℕ
one_wrong n = min (n + 1) 4

-- The wrong tries in a row: "a good try ends a row".
abbrev pub wrong_after : Event → ℕ → ℕ
wrong_after e wrong = if ends_row e then 0 else (if is_wrong e then one_wrong wrong else wrong)

-- "Wrong tries survive both. .. Authority unlock clears the wrong-try row, password lock and authority lock." A good try "lifts no lock".
abbrev pub security_after : Security → Event → Security
security_after s e =
    if same_kind (kind_of e) kind.AuthorityUnlock
    then no_security
    else record {
      wrong = wrong_after e s.wrong;
      password = leb 4 (wrong_after e s.wrong) || s.password;
      authority = same_kind (kind_of e) kind.AuthorityLock || s.authority;
    }

-- The verdicts since the last upload.
abbrev pub unsent_after : ℕ → Event → ℕ
unsent_after unsent (Upload clock) = 0
unsent_after unsent _ = unsent

-- A prepare in place of the one before, until power-on or clock setting voids it or a start uses it up: one that stands does so from its
-- clock on, another leaves none.
abbrev pub prepared_after : Option ℕ → Event → Option ℕ
prepared_after k (PowerOn clock) = None
prepared_after k (ClockSetting clock new) = None
prepared_after k (Start clock settings p) = None
prepared_after k (Prepare clock check) = if prepare_stands check then Some clock else None
prepared_after k _ = k

-- After an accepted event, but for its verdict.
abbrev pub locks_after : Locks → Event → Locks
locks_after k e = record {
  session = session_after k.session e;
  active = active_after k.active e;
  security = security_after k.security e;
  unsent = unsent_after k.unsent e;
  prepared = prepared_after k.prepared e;
}

-- One unsent verdict more. It is held at the greatest number of its type, which no bench reaches (`bench/specs/Claims: Bounded`): read + 1.
abbrev pub one_more : ℕ → ℕ
one_more n = min (n + 1) 65535

-- After a verdict.
abbrev pub verdict_counted : Locks → Locks
verdict_counted k = record k { unsent = one_more k.unsent }

-- Older than V, or none.
abbrev pub calibration_old : ℕ → ℕ → Option ℕ → Bool
calibration_old validity now None = true
calibration_old validity now (Some clock) = ltb (clock + validity) now

-- A run of either speed that did not pass, or none.
abbrev pub uncoasted : Rollers → Bool
uncoasted k = not k.faster || not k.slower

-- Lock 3.
abbrev pub uncalibrated : ℕ → ℕ → Session → Bool
uncalibrated validity now s = calibration_old validity now s.calibrated || uncoasted s.rollers

-- Lock 4: its expiry before now, or none.
abbrev pub sign_in_over : ℕ → Option ℕ → Bool
sign_in_over now None = true
sign_in_over now (Some expiry) = ltb expiry now

-- Lock 8: no prepare that stands, or one more than 120 s old.
abbrev pub unprepared : ℕ → Option ℕ → Bool
unprepared now None = true
unprepared now (Some clock) = ltb (clock + 120) now

-- Lock 5.
abbrev pub password_stands : Locks → Bool
password_stands k = k.security.password

-- Which of the eight stand for a start at this clock: 1 where no warm-up is finished, 7 where the verdicts since the last upload = U.
abbrev pub standing_of : ℕ → ℕ → Locks → ℕ → Lock → Bool
standing_of validity limit k now lock.NotWarm = not k.session.warm
standing_of validity limit k now lock.Inactive = overdue now k.active
standing_of validity limit k now lock.NotCalibrated = uncalibrated validity now k.session
standing_of validity limit k now lock.NotSignedIn = sign_in_over now k.session.signed
standing_of validity limit k now lock.Password = k.security.password
standing_of validity limit k now lock.Authority = k.security.authority
standing_of validity limit k now lock.Unsent = eqb k.unsent limit
standing_of validity limit k now lock.Unprepared = unprepared now k.prepared

-- The first standing lock, if one stands.
unfoldable pub first_lock : ℕ → ℕ → Locks → ℕ → Option Lock
first_lock validity limit k now = first_standing (standing_of validity limit k now)
