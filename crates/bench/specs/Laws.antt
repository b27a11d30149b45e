-- Laws beside demand 3, for a bench of this V and U: what they say of the answers is read from the list of events and from the accepted ones alone.
use Rattle.refusal.specs.declared.Refusal.TheVariants.{ClockEarlier, TestRunning, StartLocked, InertiaUnfit, PowerUnfit, BackgroundUnfit}
use Rattle.std.specs.Prelude.{ℕ, ◌≤◌, ◌<◌, true, ◌≡◌, ◌↔◌, List, [], ◌∷◌, ◌++◌, map, length, take, drop, None, Ok, Err, Some}
use Rattle.refusal.specs.declared.Refusal.{Refusal}
use Rattle.refusal.specs.Table.{number_of}
use Rattle.loaded_test.specs.declared.Test.{Test}
use Rattle.loaded_test.specs.declared.Verdict.{Verdict}
use Rattle.loaded_test.specs.Laws.{VerdictAccounted}
use Rattle.coast_down.specs.declared.Run.{Run}
use Rattle.coast_down.specs.Claims.{Between}
use Rattle.prepare.specs.declared.ZeroCheck.{ZeroCheck}
use Rattle.prepare.specs.Claims.{HcAbove, CoAbove, NoAbove, NoneAbove}
use Rattle.locks.specs.declared.Event.{Event}
use Rattle.locks.specs.declared.Event.TheVariants.{CoastDown, Prepare}
use Rattle.locks.specs.Events.{clock_of, clock_after}
use Rattle.locks.specs.Accepted.{Accepted}
use Rattle.locks.specs.Claims.{StandsExactly}
use Rattle.locks.specs.Locks.{not_warm, inactive, not_calibrated, not_signed_in, password_lock, authority_lock, unsent_lock, not_prepared}
use Rattle.bench.specs.declared.Bench.{Bench}
use Rattle.bench.specs.declared.Handled.{Handled}
use Rattle.bench.specs.History.{History, Answer}
use Rattle.bench.specs.Causes.{causes}
use Rattle.bench.specs.Running.{test_in}
use Rattle.bench.specs.Stepping.{fresh_bench}
use Rattle.bench.specs.Demand.{bench_answers, answer_after, history_of}

-- "A refused one .. changes nothing": where the answer is a refusal, the bench is the one that was given, whatever its state.
abbrev pub BackIfRefused : Bench → Handled → Type 0
BackIfRefused b x = (r : Refusal) → x.answer ≡ Err r → x.bench ≡ b

-- The last clock: that of the newest accepted event, or its new clock if it is a clock setting; 0 at first.
unfoldable pub last_clock : List Accepted → ℕ
last_clock [] = 0
last_clock (a ∷ l) = clock_after a.event

-- The lock of this number stands for a start at this clock.
pub data LockStands (validity limit now : ℕ) (l : List Accepted) : ℕ → Type 0 where
  lock1 : not_warm l ≡ true → LockStands validity limit now l 1
  lock2 : inactive now l ≡ true → LockStands validity limit now l 2
  lock3 : not_calibrated validity now l ≡ true → LockStands validity limit now l 3
  lock4 : not_signed_in now l ≡ true → LockStands validity limit now l 4
  lock5 : password_lock l ≡ true → LockStands validity limit now l 5
  lock6 : authority_lock l ≡ true → LockStands validity limit now l 6
  lock7 : unsent_lock limit l ≡ true → LockStands validity limit now l 7
  lock8 : not_prepared now l ≡ true → LockStands validity limit now l 8

-- This lock stands, and none of a lower number.
pub record LeastLock (validity limit now : ℕ) (l : List Accepted) (n : ℕ) : Type 0 where
  pub stands : LockStands validity limit now l n
  pub none_lower : (k : ℕ) → k < n → LockStands validity limit now l k → ⊥

-- What a coast-down run is answered where its clock and a running test do not refuse it: "16 inertia out of range, then 17 power", and
-- accepted whatever its time.
pub record RunAnswered (run : Run) (a : Answer) : Type 0 where
  pub inertia : (a ≡ Err InertiaUnfit) ↔ (Between 1050 1350 run.inertia → ⊥)
  pub power : (a ≡ Err PowerUnfit) ↔ (Between 1050 1350 run.inertia × (Between 50 325 run.power → ⊥))
  pub fit : (a ≡ Ok None) ↔ (Between 1050 1350 run.inertia × Between 50 325 run.power)

-- What a prepare is answered where its clock and a running test do not refuse it: "18 .., place the lowest such code", and accepted whether
-- it stands or not, with any residue.
pub record PrepareAnswered (check : ZeroCheck) (a : Answer) : Type 0 where
  pub hc : (a ≡ Err (BackgroundUnfit 4)) ↔ HcAbove check
  pub co : (a ≡ Err (BackgroundUnfit 5)) ↔ CoAbove check
  pub no : (a ≡ Err (BackgroundUnfit 6)) ↔ NoAbove check
  pub fit : (a ≡ Ok None) ↔ NoneAbove check

-- For every list of events, of any kinds in any order.
pub record Laws (validity limit : ℕ) : Type 0 where
  -- an event that is refused might as well not have been given: whatever comes after it is answered as without it
  pub struck :
      (es : List Event) (e : Event) (r : Refusal) (fs : List Event) (f : Event) →
      answer_after validity limit es e ≡ Err r →
      answer_after validity limit (es ++ e ∷ fs) f ≡ answer_after validity limit (es ++ fs) f
  -- "Events: 11, 12 or 13, then 4, 5, 15 or 8, then 14.", and "16 .., then 17 .., after 12", "18 .. after 12": the rows, of which the
  -- first that stands refuses
  pub order :
      (h : History) (e : Event) →
      map (λ c. number_of c.refusal) (causes validity limit h e) ≡ 11 ∷ 12 ∷ 13 ∷ 4 ∷ 5 ∷ 15 ∷ 8 ∷ 16 ∷ 17 ∷ 18 ∷ 14 ∷ []
  -- "A start is locked by the first standing one"
  pub least :
      (es : List Event) (e : Event) (n : ℕ) →
      answer_after validity limit es e ≡ Err (StartLocked n) →
      LeastLock validity limit (clock_of e) (history_of validity limit es).events n
  -- when each of the eight locks stands, in plain words
  pub locks : (now : ℕ) (l : List Accepted) → StandsExactly validity limit now l
  -- 11 is answered exactly when the event's clock is below the last one, whatever its kind
  pub clock :
      (es : List Event) (e : Event) (n : ℕ) →
      (answer_after validity limit es e ≡ Err (ClockEarlier n)) ↔
      ((n ≡ last_clock (history_of validity limit es).events) × (clock_of e < n))
  -- a coast-down run in clock order: by its inertia and power where no test runs, refused 12 where one does
  pub coast_down :
      (es : List Event) (clock : ℕ) (run : Run) →
      (history_of validity limit es).last ≤ clock →
      (history_of validity limit es).test ≡ None →
      RunAnswered run (answer_after validity limit es (CoastDown clock run))
  pub coast_down_in_test :
      (es : List Event) (clock : ℕ) (run : Run) (test : Test) →
      (history_of validity limit es).last ≤ clock →
      (history_of validity limit es).test ≡ Some test →
      answer_after validity limit es (CoastDown clock run) ≡ Err TestRunning
  -- a prepare in clock order: by its background where no test runs, refused 12 where one does
  pub prepare :
      (es : List Event) (clock : ℕ) (check : ZeroCheck) →
      (history_of validity limit es).last ≤ clock →
      (history_of validity limit es).test ≡ None →
      PrepareAnswered check (answer_after validity limit es (Prepare clock check))
  pub prepare_in_test :
      (es : List Event) (clock : ℕ) (check : ZeroCheck) (test : Test) →
      (history_of validity limit es).last ≤ clock →
      (history_of validity limit es).test ≡ Some test →
      answer_after validity limit es (Prepare clock check) ≡ Err TestRunning
  -- document 02, A.8: in every verdict "passing, failing and invalid together shall be exactly t − 9", and 0 before t = 10; while
  -- measuring the same holds of the bench's test (`Claims: Bounded`)
  pub accounted :
      (es : List Event) (e : Event) (x : Verdict) →
      answer_after validity limit es e ≡ Ok (Some x) →
      VerdictAccounted x
  -- the answer at each split of a list is the list's element there
  pub split :
      (es : List Event) (e : Event) (fs : List Event) →
      take 1 (drop (length es) (bench_answers (fresh_bench validity limit) (es ++ e ∷ fs))) ≡ answer_after validity limit es e ∷ []
  -- the test that runs is document 01's steps replayed over the accepted seconds and stops since the newest start; a verdict or power-on leaves none
  pub test : (es : List Event) → (history_of validity limit es).test ≡ test_in (history_of validity limit es).events
