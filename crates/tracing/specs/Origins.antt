-- Which event left a lock standing, read from the accepted events, newest first, each with its number among all events. Document 01's locks go by
-- "the latest": of the events that decide a lock, the newest one left it as it is.
use Rattle.std.specs.Prelude.{ℕ, Bool, not, ◌&&◌, ◌||◌, List, [], ◌∷◌, map, find, Some, None, Option, option_and_then, is_some, Ok, Err, if◌then◌else◌}
use Rattle.coast_down.specs.declared.SpeedRange.{SpeedRange}
use Rattle.coast_down.specs.declared.SpeedRange.TheVariants.{Faster, Slower}
use Rattle.locks.specs.declared.Event.{Event}
use Rattle.locks.specs.declared.Kind.TheVariants as kind
use Rattle.locks.specs.declared.Lock.{Lock}
use Rattle.locks.specs.declared.Lock.TheVariants.{NotWarm, Inactive, NotCalibrated, NotSignedIn, Password, Authority, Unsent, Unprepared}
use Rattle.locks.specs.Accepted.{Accepted, accepted, is_kind}
use Rattle.locks.specs.Events.{kind_of, calibration_in, run_at}
use Rattle.locks.specs.Locks.{voiding, renews, none_valid, some_passed, is_wrong, password_lock, prepare_end}
use Rattle.bench.specs.History.{Answer}
use Rattle.tracing.specs.declared.Told.{Told}
use Rattle.tracing.specs.declared.trail.Trail.{Trail}

-- An event that was told, as an accepted one.
abbrev pub accepted_in : Told → Accepted
accepted_in x = accepted x.event x.verdict

-- An accepted event comes before those accepted earlier; a refused one changes nothing.
abbrev pub told_after : ℕ → Event → Answer → List Told → List Told
told_after n e (Ok verdict) l = record { number = n; event = e; verdict = verdict } ∷ l
told_after n e (Err r) l = l

-- The newest of a sort.
unfoldable pub newest : (Accepted → Bool) → List Told → Option Told
newest sort l = find (λ x. sort (accepted_in x)) l

-- A warm-up or a second.
abbrev pub active : Accepted → Bool
active a = renews (kind_of a.event)

-- A calibration, or what voids one.
abbrev pub calibrates_or_voids : Accepted → Bool
calibrates_or_voids a = is_kind kind.Calibration a || voiding a

-- A coast-down run of these speeds, or what voids one.
abbrev pub runs_or_voids : SpeedRange → Accepted → Bool
runs_or_voids speeds a = is_some (run_at speeds a.event) || voiding a

-- A try, or what voids one.
abbrev pub tries_or_voids : Accepted → Bool
tries_or_voids a = is_kind kind.Try a || voiding a

-- A prepare, or what ends one.
abbrev pub prepares_or_ends : Accepted → Bool
prepares_or_ends a = is_kind kind.Prepare a || prepare_end a

-- An event that brought a verdict.
abbrev pub judges : Accepted → Bool
judges a = is_some a.verdict

-- The wrong try that made four in a row: the newest before which lock 5 did not stand.
unfoldable pub fourth_try : List Told → Option Told
fourth_try [] = None
fourth_try (x ∷ l) = if is_wrong x.event && not (password_lock (map accepted_in l)) then Some x else fourth_try l

-- None of any sort.
abbrev pub no_trail : Trail
no_trail = record {
  voided = None;
  active = None;
  calibrated = None;
  faster = None;
  slower = None;
  tried = None;
  fourth = None;
  authority = None;
  judged = None;
  prepared = None;
}

-- The newest of each sort.
abbrev pub trail_of : List Told → Trail
trail_of l = record {
  voided = newest voiding l;
  active = newest active l;
  calibrated = newest calibrates_or_voids l;
  faster = newest (runs_or_voids Faster) l;
  slower = newest (runs_or_voids Slower) l;
  tried = newest tries_or_voids l;
  fourth = fourth_try l;
  authority = newest (is_kind kind.AuthorityLock) l;
  judged = newest judges l;
  prepared = newest prepares_or_ends l;
}

-- Of lock 3's three parts, calibration, faster and slower run, the first that is wanting.
abbrev pub wanting : ℕ → ℕ → Trail → Option Told
wanting validity now x =
    if none_valid validity now (option_and_then (λ a. calibration_in a.event) x.calibrated)
    then x.calibrated
    else (if some_passed (option_and_then (λ a. run_at Faster a.event) x.faster) then x.slower else x.faster)

-- The event that left a lock standing for a start at this clock, by the newest of each sort.
abbrev pub left_by : ℕ → ℕ → Lock → Trail → Option Told
left_by validity now NotWarm x = x.voided
left_by validity now Inactive x = x.active
left_by validity now NotCalibrated x = wanting validity now x
left_by validity now NotSignedIn x = x.tried
left_by validity now Password x = x.fourth
left_by validity now Authority x = x.authority
left_by validity now Unsent x = x.judged
left_by validity now Unprepared x = x.prepared

-- The same of the accepted events.
abbrev pub left_standing : ℕ → ℕ → Lock → List Told → Option Told
left_standing validity now lock l = left_by validity now lock (trail_of l)
