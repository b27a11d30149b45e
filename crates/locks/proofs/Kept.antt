-- What the bench keeps is what is read from the accepted events, after every event and verdict, and so is the first lock. Assumes nothing.
use Prim.Native.Nat.{ℕ, suc, ◌+◌, ◌≤◌, ◌<◌, min}
use native.Mathlib.Omega.{arith}
use mathlib.Core.Bool.{Bool, true, false, not, ◌&&◌, ◌||◌, true≢false}
use Rattle.std.proofs.lemmas.Bool.Decides.{nat_tests}
use mathlib.Core.Path.{◌≡◌, refl, ap, fun_ext}
use mathlib.Core.List.{List, [], ◌∷◌}
use lib.Dec.{leb}
use Rattle.std.specs.Prelude.{Some, None, Option, option_and_then, if◌then◌else◌}
use Rattle.refusal.specs.Choice.{pick}
use Rattle.loaded_test.specs.declared.Verdict.{Verdict}
use Rattle.coast_down.specs.declared.SpeedRange.{SpeedRange}
use Rattle.coast_down.specs.declared.SpeedRange.TheVariants.{Faster, Slower}
use Rattle.coast_down.specs.declared.Run.{Run}
use Rattle.coast_down.specs.Passing.{run_passed}
use Rattle.prepare.specs.Standing.{prepare_stands}
use Rattle.locks.specs.declared.Calibration.{Calibration as Outcome}
use Rattle.locks.specs.declared.Calibration.TheVariants.{Passed, Failed}
use Rattle.locks.specs.declared.Try.{Try as Tried}
use Rattle.locks.specs.declared.Try.TheVariants.{Good, Wrong}
use Rattle.locks.specs.declared.Rollers.{Rollers}
use Rattle.locks.specs.declared.Session.{Session}
use Rattle.locks.specs.declared.Security.{Security}
use Rattle.locks.specs.declared.Locks.{Locks}
use Rattle.locks.specs.declared.Event.{Event}
use Rattle.locks.specs.declared.Event.TheVariants.{PowerOn, ClockSetting, WarmUp, Calibration, Try, Upload, Start, Second, CoastDown, Prepare}
use Rattle.locks.specs.declared.Kind.TheVariants as kind
use Rattle.locks.specs.declared.Lock.{Lock}
use Rattle.locks.specs.declared.Lock.TheVariants as lock
use Rattle.locks.specs.Events.{kind_of, same_kind, same_speeds, of_speeds, Calibrating, Preparing}
use Rattle.locks.specs.Accepted.{Accepted, accepted, is_kind, since, any, or_else, latest_of}
use Rattle.locks.specs.Locks.{voiding, not_warm, active_clock, inactive, expired, none_valid, latest_calibration, latest_run, some_passed, not_coasted, not_calibrated, none_good, latest_try, not_signed_in, is_wrong, unlocks, row_end, wrong_tries, wrong_row, password_lock, authority_lock, with_verdict, verdicts_in, unsent_in, unsent_lock, latest_prepare, none_stands, not_prepared, standing_in, first_standing, lock_of}
use Rattle.locks.specs.State.{ran_by, one_wrong, fresh_locks, active_after, security_after, unsent_after, session_after, prepared_after, locks_after, verdict_counted, calibration_old, sign_in_over, unprepared, standing_of, first_lock}

abbrev passed_at : Outcome → ℕ → Option ℕ
passed_at Passed clock = Some clock
passed_at Failed clock = None

abbrev expiry_of : Tried → Option ℕ
expiry_of (Good expiry) = Some expiry
expiry_of Wrong = None

abbrev calibrated_of : Option Calibrating → Option ℕ
calibrated_of o = option_and_then (λ c. passed_at c.outcome c.clock) o

abbrev sign_in_of : Option Tried → Option ℕ
sign_in_of o = option_and_then expiry_of o

abbrev prepared_of : Option Preparing → Option ℕ
prepared_of o = option_and_then (λ p. if prepare_stands p.check then Some p.clock else None) o

abbrev rollers_of : Option Run → Option Run → Rollers
rollers_of f s = record { faster = some_passed f; slower = some_passed s }

abbrev session_of : List Accepted → Session
session_of l = record {
  warm = any (is_kind kind.WarmUp) (since voiding l);
  calibrated = calibrated_of (latest_calibration l);
  rollers = rollers_of (latest_run Faster l) (latest_run Slower l);
  signed = sign_in_of (latest_try l);
}

abbrev pub security_of : List Accepted → Security
security_of l = record { wrong = min (wrong_row l) 4; password = password_lock l; authority = authority_lock l }

-- What the bench keeps, as a function of the accepted events.
unfoldable pub locks_of : List Accepted → Locks
locks_of l = record {
  session = session_of l;
  active = latest_of active_clock l;
  security = security_of l;
  unsent = unsent_in l;
  prepared = prepared_of (latest_prepare l);
}

pub fresh_of : locks_of [] ≡ fresh_locks
unfolding locks_of since any latest_of latest_calibration latest_run latest_try wrong_tries wrong_row password_lock authority_lock verdicts_in unsent_in latest_prepare some_passed
fresh_of = refl

-- What is read from a list since an event, with one accepted event more.
pub any_since :
    (p q : Accepted → Bool) (a : Accepted) (l : List Accepted) →
    any p (since q (a ∷ l)) ≡ pick (q a) false (p a || any p (since q l))
unfolding since any pick
any_since p q a l = grind arith

pub latest_since :
    {A : Type 0} (f : Event → Option A) (q : Accepted → Bool) (a : Accepted) (l : List Accepted) →
    latest_of f (since q (a ∷ l)) ≡ pick (q a) None (or_else (f a.event) (latest_of f (since q l)))
unfolding since latest_of pick
latest_since f q a l = grind arith

pub wrong_since :
    (q : Accepted → Bool) (a : Accepted) (l : List Accepted) →
    wrong_tries (since q (a ∷ l))
    ≡ pick (q a) 0 (pick (is_wrong a.event) (suc (wrong_tries (since q l))) (wrong_tries (since q l)))
unfolding since wrong_tries pick
wrong_since q a l = grind arith

-- Each part, with one accepted event more, with a verdict or none. A run of one speed leaves the other's.
session_kept : (e : Event) (v : Option Verdict) (l : List Accepted) → session_of (accepted e v ∷ l) ≡ session_after (session_of l) e
unfolding since any latest_of or_else of_speeds some_passed latest_calibration latest_run latest_try pick
session_kept (PowerOn clock) v l = refl
session_kept (ClockSetting clock new) v l = refl
session_kept (Calibration clock Passed) v l = refl
session_kept (Calibration clock Failed) v l = refl
session_kept (Try clock (Good expiry)) v l = refl
session_kept (Try clock Wrong) v l = refl
session_kept (CoastDown clock run) v l = ap with_rollers (go run.speeds)
  where
    with_rollers : Rollers → Session
    with_rollers r = record (session_of l) { rollers = r }

    go :
        (s : SpeedRange) →
        rollers_of
        (or_else (pick (same_speeds Faster s) (Some run) None) (latest_run Faster l))
        (or_else (pick (same_speeds Slower s) (Some run) None) (latest_run Slower l))
        ≡ ran_by s (run_passed run) (rollers_of (latest_run Faster l) (latest_run Slower l))
    go Faster = refl
    go Slower = refl
session_kept _ v l = refl

active_kept :
    (e : Event) (v : Option Verdict) (l : List Accepted) →
    latest_of active_clock (accepted e v ∷ l) ≡ active_after (latest_of active_clock l) e
unfolding latest_of active_clock or_else pick
active_kept (WarmUp clock) v l = refl
active_kept (Second clock readings) v l = refl
active_kept _ v l = refl

-- Only an upload makes them fewer.
unsent_kept :
    (e : Event) (v : Option Verdict) (l : List Accepted) →
    same_kind (kind_of e) kind.Upload ≡ false →
    unsent_in (accepted e v ∷ l) ≡ with_verdict v (unsent_in l)
unfolding since verdicts_in unsent_in pick
unsent_kept (Upload clock) v l h = absurd (true≢false h)
unsent_kept _ v l h = refl

unsent_left : (e : Event) (n : ℕ) → same_kind (kind_of e) kind.Upload ≡ false → unsent_after n e ≡ n
unsent_left (Upload clock) n h = absurd (true≢false h)
unsent_left _ n h = refl

unsent_none : (e : Event) (l : List Accepted) → unsent_in (accepted e None ∷ l) ≡ unsent_after (unsent_in l) e
unfolding since verdicts_in unsent_in with_verdict pick
unsent_none (Upload clock) l = refl
unsent_none _ l = refl

prepared_kept :
    (e : Event) (v : Option Verdict) (l : List Accepted) →
    prepared_of (latest_prepare (accepted e v ∷ l)) ≡ prepared_after (prepared_of (latest_prepare l)) e
unfolding since latest_of latest_prepare or_else pick
prepared_kept (PowerOn clock) v l = refl
prepared_kept (ClockSetting clock new) v l = refl
prepared_kept (Start clock settings p) v l = refl
prepared_kept (Prepare clock check) v l = refl
prepared_kept _ v l = refl

-- Wrong tries: counted up to four on one side, all on the other.
wrong_counted :
    (x b : Bool) (row : ℕ) →
    min (pick b 0 (pick x (suc row) row)) 4 ≡ (if b then 0 else (if x then one_wrong (min row 4) else min row 4))
unfolding pick
wrong_counted x b row = grind (arith, nat_tests)

four_counted : (row : ℕ) → leb 4 (min row 4) ≡ leb 4 row
four_counted row = grind (arith, nat_tests)

-- Authority unlock ends the row too.
security_with :
    (e : Event) (v : Option Verdict) (row : ℕ) (password authority b : Bool) →
    unlocks (accepted e v) ≡ b →
    ◌≡◌ {A = Security}
    (record {
      wrong = min (pick (row_end (accepted e v)) 0 (pick (is_wrong e) (suc row) row)) 4;
      password = not b && (leb 4 (pick (row_end (accepted e v)) 0 (pick (is_wrong e) (suc row) row)) || password);
      authority = pick b false (same_kind (kind_of e) kind.AuthorityLock || authority);
    })
    (security_after (record { wrong = min row 4; password = password; authority = authority }) e)
unfolding pick
security_with e v row password authority true h = rw (wrong_counted (is_wrong e), h)
security_with e v row password authority false h =
    rw (← four_counted (pick (row_end (accepted e v)) 0 (pick (is_wrong e) (suc row) row)), wrong_counted (is_wrong e), h)

pub security_kept :
    (e : Event) (v : Option Verdict) (l : List Accepted) → security_of (accepted e v ∷ l) ≡ security_after (security_of l) e
unfolding wrong_row password_lock authority_lock
security_kept e v l =
    rw (wrong_since row_end (accepted e v) l, any_since (is_kind kind.AuthorityLock) unlocks (accepted e v) l)
    (security_with e v (wrong_tries (since row_end l)) (password_lock l)
    (any (is_kind kind.AuthorityLock) (since unlocks l)) (unlocks (accepted e v)) refl)

-- After an accepted event with no verdict.
pub locks_after_lem : (e : Event) (l : List Accepted) → locks_of (accepted e None ∷ l) ≡ locks_after (locks_of l) e
unfolding locks_of
locks_after_lem e l =
    rw (session_kept e None l, active_kept e None l, security_kept e None l, unsent_none e l, prepared_kept e None l)

more : (n : ℕ) → n < 65535 → min (n + 1) 65535 ≡ suc n
more n h = omega arith

-- After one with a verdict, which no upload brings.
pub verdict_counted_lem :
    (e : Event) (x : Verdict) (l : List Accepted) →
    same_kind (kind_of e) kind.Upload ≡ false →
    unsent_in l < 65535 →
    locks_of (accepted e (Some x) ∷ l) ≡ verdict_counted (locks_after (locks_of l) e)
unfolding locks_of with_verdict
verdict_counted_lem e x l k h =
    rw (
      session_kept e (Some x) l,
      active_kept e (Some x) l,
      security_kept e (Some x) l,
      unsent_kept e (Some x) l k,
      prepared_kept e (Some x) l,
      unsent_left e (unsent_in l) k,
      more (unsent_in l) h,
    )

-- Each lock stands by what is kept where it stands by the accepted events.
module _ (validity limit now : ℕ) where
  old_none : (o : Option Calibrating) → calibration_old validity now (calibrated_of o) ≡ none_valid validity now o
  unfolding none_valid expired
  old_none None = refl
  old_none (Some c) = go c.outcome
    where
      go : (x : Outcome) → calibration_old validity now (passed_at x c.clock) ≡ expired validity now c.clock x
      go Passed = refl
      go Failed = refl

  over_none : (o : Option Tried) → sign_in_over now (sign_in_of o) ≡ none_good now o
  unfolding none_good
  over_none None = refl
  over_none (Some (Good expiry)) = refl
  over_none (Some Wrong) = refl

  unprepared_none : (o : Option Preparing) → unprepared now (prepared_of o) ≡ none_stands now o
  unfolding none_stands
  unprepared_none None = refl
  unprepared_none (Some p) = go (prepare_stands p.check)
    where
      go : (b : Bool) → unprepared now (if b then Some p.clock else None) ≡ not b || unprepared now (Some p.clock)
      go true = refl
      go false = refl

  standing_same : (l : List Accepted) (k : Lock) → standing_of validity limit (locks_of l) now k ≡ standing_in validity limit now l k
  unfolding locks_of not_warm inactive not_calibrated not_coasted not_signed_in unsent_lock not_prepared
  standing_same l lock.NotCalibrated = rw (old_none (latest_calibration l))
  standing_same l lock.NotSignedIn = over_none (latest_try l)
  standing_same l lock.Unprepared = unprepared_none (latest_prepare l)
  standing_same l _ = refl

  -- The bench's first lock is that of the accepted events.
  pub first_lock_lem : (l : List Accepted) → first_lock validity limit (locks_of l) now ≡ lock_of validity limit now l
  unfolding first_lock lock_of
  first_lock_lem l = ap first_standing (fun_ext (standing_same l))

-- Wrong tries are held at four.
pub wrong_most : (l : List Accepted) → (locks_of l).security.wrong ≤ 4
unfolding locks_of
wrong_most l = omega arith

pub unsent_same : (l : List Accepted) → (locks_of l).unsent ≡ unsent_in l
unfolding locks_of
unsent_same l = refl
