-- The newest of each sort, as the functions of trail.rt change it.
use Rattle.std.specs.Prelude.{◌+◌, ◌≡◌, Bool, not, ◌&&◌, Some, Option, Ok, Err, if◌then◌else◌}
use Rattle.coast_down.specs.declared.SpeedRange.TheVariants.{Faster, Slower}
use Rattle.locks.specs.declared.Kind.TheVariants as kind
use Rattle.locks.specs.Accepted.{is_kind}
use Rattle.locks.specs.Locks.{voiding, is_wrong}
use Rattle.locks.specs.State.{fresh_locks, locks_after, password_stands}
use Rattle.locks.specs.declared.Event.{Event}
use Rattle.locks.specs.declared.Locks.{Locks}
use Rattle.bench.specs.History.{Answer}
use Rattle.bench.specs.declared.Handled.{Handled}
use Rattle.tracing.specs.declared.Told.{Told}
use Rattle.tracing.specs.declared.Watch.{Watch}
use Rattle.tracing.specs.declared.trail.Trail.{Trail}
use Rattle.tracing.specs.Origins.{accepted_in, no_trail, active, calibrates_or_voids, runs_or_voids, tries_or_voids, prepares_or_ends, judges}

-- This event where it is of the sort, else the one before.
abbrev pub newer : Bool → Told → Option Told → Option Told
newer is told old = if is then Some told else old

-- After one accepted event more; lock 5 stood before it or not.
abbrev pub trail_after : Trail → Bool → Told → Trail
trail_after x locked told = record {
  voided = newer (voiding (accepted_in told)) told x.voided;
  active = newer (active (accepted_in told)) told x.active;
  calibrated = newer (calibrates_or_voids (accepted_in told)) told x.calibrated;
  faster = newer (runs_or_voids Faster (accepted_in told)) told x.faster;
  slower = newer (runs_or_voids Slower (accepted_in told)) told x.slower;
  tried = newer (tries_or_voids (accepted_in told)) told x.tried;
  fourth = newer (is_wrong told.event && not locked) told x.fourth;
  authority = newer (is_kind kind.AuthorityLock (accepted_in told)) told x.authority;
  judged = newer (judges (accepted_in told)) told x.judged;
  prepared = newer (prepares_or_ends (accepted_in told)) told x.prepared;
}

-- An accepted event changes the locks, a refused one nothing.
abbrev pub locks_answered : Watch → Event → Answer → Locks
locks_answered w e (Ok verdict) = locks_after w.locks e
locks_answered w e (Err r) = w.locks

-- An accepted event is followed, with its number and its verdict.
abbrev pub trail_answered : Watch → Event → Answer → Trail
trail_answered w e (Ok verdict) =
    trail_after w.trail (password_stands w.locks) (record { number = w.number; event = e; verdict = verdict })
trail_answered w e (Err r) = w.trail

-- After an event and what the bench made of it: the next has one number more.
abbrev pub watch_after : Watch → Event → Handled → Watch
watch_after w e h = record w {
  number = w.number + 1;
  bench = h.bench;
  locks = locks_answered w e h.answer;
  trail = trail_answered w e h.answer;
}

-- Before the first event.
abbrev pub Begins : Watch → Type 0
Begins w = (w.number ≡ 1) × (w.locks ≡ fresh_locks) × (w.trail ≡ no_trail)
