-- How a bench follows the steps of its test. Assumes nothing.
use Prim.Native.Nat.{ℕ, ◌≤◌}
use mathlib.Core.Bool.{Bool, true, false, true≢false}
use mathlib.Core.Path.{◌≡◌, refl, ap}
use native.Mathlib.Omega.{arith}
use borrow.Author.Tests.{le-ltb}
use Rattle.std.specs.Prelude.{None, Option, Ok, Err, Result}
use Rattle.refusal.specs.Checking.{Check, ◌⨾◌, need}
use Rattle.refusal.specs.declared.Refusal.{Refusal}
use Rattle.refusal.specs.declared.Refusal.TheVariants.{StartLocked}
use Rattle.reading.specs.Kind.{Readings}
use Rattle.vehicle.specs.declared.Settings.{Settings}
use Rattle.loaded_test.specs.Going.{ends_in, Goes}
use Rattle.loaded_test.specs.Steps.{begin, stop}
use Rattle.loaded_test.specs.declared.Next.{Next}
use Rattle.loaded_test.specs.declared.Next.TheVariants.{GoesOn, Rests, RestEnded, ModeTwo, Ends}
use Rattle.loaded_test.specs.declared.Stepped.{Stepped}
use Rattle.loaded_test.specs.declared.Test.{Test}
use Rattle.loaded_test.specs.declared.Verdict.{Verdict}
use Rattle.locks.specs.Events.{contents_of}
use Rattle.locks.specs.Locks.{lock_number}
use Rattle.locks.specs.declared.Lock.{Lock}
use Rattle.locks.specs.declared.Event.{Event}
use Rattle.locks.specs.declared.Event.TheVariants.{Start, Second, Stop}
use Rattle.bench.specs.Stepping.{unless_refused, test_unless, lock_check, start_taken, gone_on, judged_with, followed, test_taken, second_taken, stop_taken, running, order_check, step_by, step}
use Rattle.bench.specs.declared.Bench.{Bench}
use Rattle.bench.specs.Causes.{free, number_in}

-- A start whose test begins, by the lock that stands.
admitted_start :
    (lock : Option Lock) (x : Result Test Refusal) (b : Bench) (e : Event) (t : Test) →
    x ≡ Ok t →
    (unless_refused (test_unless (lock_check lock) x) b λ u. gone_on b.desk e u).answer ≡ Ok None →
    (unless_refused (test_unless (lock_check lock) x) b λ u. gone_on b.desk e u).bench ≡ (gone_on b.desk e t).bench
unfolding need
admitted_start lock (Err r) b e t f h = let z : ◌≡◌ {A = ℕ} 0 1 = cc in absurd (omega arith)
admitted_start lock (Ok u) b e t f h = go (free lock) h
  where
    same : u ≡ t
    same = cc

    go :
        (unlocked : Bool) →
        (unless_refused (test_unless (need unlocked (StartLocked (number_in lock_number lock))) (Ok u)) b λ u. gone_on b.desk e u).answer ≡ Ok None →
        (unless_refused (test_unless (need unlocked (StartLocked (number_in lock_number lock))) (Ok u)) b λ u. gone_on b.desk e u).bench
        ≡ (gone_on b.desk e t).bench
    go true k = ap (λ (x : Test). (gone_on b.desk e x).bench) same
    go false k = let z : ◌≡◌ {A = ℕ} 0 1 = cc in absurd (omega arith)

-- The bench after a start that was accepted.
pub admitted :
    (b : Bench) (clock : ℕ) (settings : Settings) (p : ℕ) (t : Test) →
    begin settings p ≡ Ok t →
    (step b (Start clock settings p)).answer ≡ Ok None →
    (step b (Start clock settings p)).bench ≡ (gone_on b.desk (Start clock settings p) t).bench
unfolding step step_by start_taken
admitted b clock settings p t f h = go (order_check b (contents_of e)) h
  where
    e : Event
    e = Start clock settings p

    go :
        (x : Check) →
        (unless_refused x b λ _. start_taken b e settings p).answer ≡ Ok None →
        (unless_refused x b λ _. start_taken b e settings p).bench ≡ (gone_on b.desk e t).bench
    go (Ok _) k = admitted_start _ (begin settings p) b e t f k
    go (Err r) k = cc

-- A second and a stop in a running test, in clock order.
module _ (b : Bench) (clock : ℕ) (r : running b ≡ true) (k : b.desk.clock ≤ clock) where
  pub second_taken_lem : (x : Readings) → step b (Second clock x) ≡ second_taken b (Second clock x) x
  unfolding step step_by ◌⨾◌ need
  second_taken_lem x = rw (le-ltb clock b.desk.clock k, r)

  pub stop_taken_lem : (n : ℕ) → step b (Stop clock n) ≡ test_taken (stop b.test n) b (Stop clock n)
  unfolding step step_by stop_taken ◌⨾◌ need
  stop_taken_lem n = rw (le-ltb clock b.desk.clock k, r)

-- What the bench does with what its test told.
followed_on :
    (n : Next) (b : Bench) (e : Event) (t : Test) → ends_in n ≡ false → followed n b.desk e t ≡ gone_on b.desk e t
unfolding ends_in
followed_on GoesOn b e t h = refl
followed_on Rests b e t h = refl
followed_on RestEnded b e t h = refl
followed_on ModeTwo b e t h = refl
followed_on (Ends v) b e t h = absurd (true≢false h)

pub goes_on :
    (x : Stepped) (b : Bench) (e : Event) (g : Goes x) →
    ends_in g.told.next ≡ false →
    test_taken x b e ≡ gone_on b.desk e x.test
goes_on x b e g h = rw g.taken (followed_on g.told.next b e x.test h)

pub ends :
    (x : Stepped) (b : Bench) (e : Event) (g : Goes x) (v : Verdict) →
    g.told.next ≡ Ends v →
    test_taken x b e ≡ judged_with b.desk e v
ends x b e g v h = rw (g.taken, h)
