-- What is claimed of the events named, for every list of bytes and of events. Their proofs are in proofs/.
use Rattle.std.specs.Prelude.{ℕ, ◌+◌, ◌≤◌, ◌<◌, ◌≡◌, true, false, Bool, List, [], ◌∷◌, ◌++◌, length, map, take, Some, None, Ok}
use Rattle.locks.specs.declared.Event.{Event}
use Rattle.locks.specs.declared.Lock.{Lock}
use Rattle.locks.specs.declared.Kind.TheVariants as kind
use Rattle.locks.specs.Accepted.{Accepted, is_kind}
use Rattle.locks.specs.Locks.{is_wrong, password_lock, authority_lock, unsent_lock}
use Rattle.bench.specs.Demand.{bench_answers}
use Rattle.bench.specs.History.{Answer, fresh_history}
use Rattle.bench.specs.Stepping.{fresh_bench}
use Rattle.bench.specs.Telling.{history_answers}
use Rattle.journaling.specs.Content.{Content}
use Rattle.journaling.specs.Claims.{IsRead}
use Rattle.replaying.specs.Starts.{events_of}
use Rattle.tracing.specs.declared.Told.{Told}
use Rattle.tracing.specs.Origins.{accepted_in, told_after, newest, judges, fourth_try, left_standing}
use Rattle.tracing.specs.Whys.{whys, text_of}

-- The accepted events of a list by its answers, newest first, behind those that were told before, from a number on.
unfoldable pub told_by : ℕ → List Told → List Event → List Answer → List Told
told_by n l [] answers = l
told_by n l (e ∷ es) [] = l
told_by n l (e ∷ es) (a ∷ answers) = told_by (n + 1) (told_after n e a l) es answers

-- An event that was given with its number, and accepted with its verdict.
pub record Given (es : List Event) (answers : List Answer) (x : Told) : Type 0 where
  pub before : List Event
  pub after : List Event
  pub events : es ≡ before ++ x.event ∷ after
  pub number : x.number ≡ length before + 1
  pub answers_before : List Answer
  pub answers_after : List Answer
  pub answered : answers ≡ answers_before ++ Ok x.verdict ∷ answers_after
  pub same : length answers_before ≡ length before

-- One of a list: what came after it and what came before it, newest first.
pub record Among (x : Told) (l : List Told) : Type 0 where
  pub after : List Told
  pub before : List Told
  pub split : l ≡ after ++ x ∷ before

pub record TraceClaims : Type 0 where
  -- the lines of a fit journal are those of a fresh bench of its V and U that is given its events in turn, and so of the plain history
  pub live :
      (s : List ℕ) (x : Content) →
      IsRead s x →
      text_of s
      ≡ whys x.validity 1 [] (events_of x.entries) (bench_answers (fresh_bench x.validity x.limit) (events_of x.entries))
  pub plain :
      (s : List ℕ) (x : Content) →
      IsRead s x →
      text_of s
      ≡ whys x.validity 1 [] (events_of x.entries) (history_answers x.validity x.limit fresh_history (events_of x.entries))
  -- and for every n above 62,911 the first n bytes decide them
  pub first_bytes : (s : List ℕ) (n : ℕ) → 62911 < n → text_of (take n s) ≡ text_of s
  -- the event named was given before the start, with its number, and accepted
  pub named :
      (validity limit now : ℕ) (lock : Lock) (es : List Event) (x : Told) →
      left_standing validity now lock (told_by 1 [] es (bench_answers (fresh_bench validity limit) es)) ≡ Some x →
      Given es (bench_answers (fresh_bench validity limit) es) x
  -- the newest of a sort is one of it, and none after it is
  pub newest_is :
      (sort : Accepted → Bool) (l : List Told) (x : Told) →
      newest sort l ≡ Some x →
      (a : Among x l) × (sort (accepted_in x) ≡ true) × (newest sort a.after ≡ None)
  -- the try named for lock 5 is a wrong one, before which the lock did not stand
  pub fourth_is :
      (l : List Told) (x : Told) →
      fourth_try l ≡ Some x →
      (a : Among x l) × (is_wrong x.event ≡ true) × (password_lock (map accepted_in a.before) ≡ false)
  -- where lock 5, 6 or 7 stands, there is an event to name
  pub password_named : (l : List Told) → password_lock (map accepted_in l) ≡ true → (x : Told) × (fourth_try l ≡ Some x)
  pub authority_named :
      (l : List Told) → authority_lock (map accepted_in l) ≡ true → (x : Told) × (newest (is_kind kind.AuthorityLock) l ≡ Some x)
  pub unsent_named :
      (limit : ℕ) (l : List Told) →
      1 ≤ limit →
      unsent_lock limit (map accepted_in l) ≡ true →
      (x : Told) × (newest judges l ≡ Some x)
