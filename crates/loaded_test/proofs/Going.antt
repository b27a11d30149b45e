-- A test that runs takes every second and every stop of a fit cause, and runs on but where a verdict was told; one that does not run
-- refuses both. Assumes nothing.
use Prim.Native.Nat.{ℕ}
use mathlib.Core.Bool.{Bool, true, false, not, ◌||◌, true≢false}
use mathlib.Core.Path.{◌≡◌, refl, sym, ap, ◌∙◌, subst}
use lib.Dec.{eqb}
use Rattle.refusal.specs.declared.Refusal.TheVariants.{NoTest, CauseUnfit}
use Rattle.refusal.specs.Choice.{pick}
use Rattle.refusal.proofs.Picked.{on_pick}
use Rattle.reading.specs.declared.Second.{Second}
use Rattle.vehicle.specs.declared.Vehicle.{Vehicle}
use Rattle.vehicle.specs.declared.Mode.{Mode}
use Rattle.vehicle.specs.declared.Mode.TheVariants.{One, Two}
use Rattle.window.specs.declared.Measured as window
use Rattle.attempt.specs.declared.Screen.{Screen}
use Rattle.attempt.specs.declared.Screen.TheVariants.{Waits, Flawed, Clear}
use Rattle.attempt.specs.declared.Ending.{Ending}
use Rattle.attempt.specs.declared.Ending.TheVariants.{NotYet, Passes, ModeEnds, Inconclusive}
use Rattle.attempt.specs.declared.SettlingCounts.{SettlingCounts}
use Rattle.attempt.specs.declared.MeasuringCounts.{MeasuringCounts}
use Rattle.attempt.specs.Measuring.{restarts}
use Rattle.loaded_test.specs.declared.Word.{Word}
use Rattle.loaded_test.specs.declared.Verdict.{Verdict}
use Rattle.loaded_test.specs.declared.Did.{Did}
use Rattle.loaded_test.specs.declared.Next.TheVariants.{Ends}
use Rattle.loaded_test.specs.declared.Stage.{Stage}
use Rattle.loaded_test.specs.declared.Stage.TheVariants.{NotBegun, Settling, Measuring, Rest, Ended}
use Rattle.loaded_test.specs.declared.VoidCounts.{VoidCounts}
use Rattle.loaded_test.specs.declared.Progress.{Progress}
use Rattle.loaded_test.specs.declared.Turn.{Turn}
use Rattle.loaded_test.specs.declared.Test.{Test}
use Rattle.loaded_test.specs.declared.Stepped.{Stepped}
use Rattle.loaded_test.specs.State.{with_measuring, verdict_of, stepped, refused}
use Rattle.loaded_test.specs.Voids.{ended, mode_ended, void_counted, void_next, twice_inconclusive, third_void, void_followed, voided, step_five}
use Rattle.loaded_test.specs.Rest.{rested}
use Rattle.loaded_test.specs.Settling.{settling_left, closed_one, closed_two, settles_in, settles}
use Rattle.loaded_test.specs.Measuring.{closed, concluded, judged, measures}
use Rattle.loaded_test.specs.Steps.{counted, measured, in_attempt, second_at, second, cause_fit, stop_taken, stop}
use Rattle.loaded_test.specs.Going.{is_running, has_ended, ends_in, Goes}
use Rattle.loaded_test.proofs.Voiding.{same_end}

-- After a turn the test runs, but where the turn tells a verdict: then it has ended, with that word and those counts.
record Level (x : Turn) : Type 0 where
  stage : is_running x.progress.stage ≡ not (ends_in x.told.next)
  verdict :
      (v : Verdict) →
      x.told.next ≡ Ends v →
      (x.progress.stage ≡ Ended v.word) × (v ≡ verdict_of v.word x.progress.measuring)

-- No verdict is told, and the test runs.
open_level :
    (x : Turn) → is_running x.progress.stage ≡ true → ends_in x.told.next ≡ false → Level x
unfolding ends_in
open_level x e f = record { stage = rw (e, f); verdict = λ v q. absurd (true≢false (sym (ap ends_in q) ∙ f)) }

ended_level : (d : Did) (w : Word) (k : VoidCounts) (p : Progress) → Level (ended d w k p)
unfolding is_running ends_in
ended_level d w k p = record {
  stage = refl;
  verdict = λ v q.
      subst (λ (y : Verdict). (Ended w ≡ Ended y.word) × (y ≡ verdict_of y.word p.measuring)) (same_end q) (refl, refl);
}

turned : (x : Test) (y : Turn) → Level y → Goes (stepped x y)
turned x y h = record { told = y.told; taken = refl; stage = h.stage; verdict = h.verdict }

mode_level : (m : Mode) (d : Did) (k : VoidCounts) (p : Progress) → Level (mode_ended m d k p)
unfolding mode_ended is_running ends_in
mode_level One d k p = open_level _ refl refl
mode_level Two d k p = ended_level d _ k p

void_level : (n : ℕ) (p : Progress) → Level (voided n p)
unfolding voided void_followed void_next is_running ends_in
void_level n p =
    on_pick Level (twice_inconclusive (void_counted n p.voids)) _ _
    (λ _. mode_level p.mode _ _ p)
    (λ _. on_pick Level (third_void (void_counted n p.voids)) _ _
    (λ _. ended_level _ _ _ p)
    (λ _. open_level _ refl refl))

five_level : (d : Did) (q : Progress) → is_running q.stage ≡ true → Level (step_five d q)
unfolding step_five ends_in
five_level d q e = on_pick Level (eqb q.counted 145) _ _ (λ _. void_level 8 q) (λ _. open_level _ e refl)

module _ (p : Progress) (running : is_running p.stage ≡ true) where
  left_level : (starts used : Bool) (k : SettlingCounts) → Level (settling_left starts used k p)
  unfolding settling_left is_running
  left_level starts used k =
      on_pick Level starts _ _
      (λ _. five_level _ _ refl)
      (λ _. on_pick Level used _ _ (λ _. void_level 7 _) (λ _. five_level _ _ running))

  settles_level : (m : Mode) (v : Vehicle) (s : Second) → Level (settles_in m v s p)
  unfolding settles_in closed_one closed_two
  settles_level One v s = left_level _ _ _
  settles_level Two v s = left_level _ _ _

  rest_level : (k : ℕ) → Level (rested k p)
  unfolding rested is_running ends_in
  rest_level k = on_pick Level (eqb k 10) _ _ (λ _. open_level _ refl refl) (λ _. open_level _ running refl)

  closed_level : (e : Ending) (k : MeasuringCounts) → Level (closed e (with_measuring k p))
  unfolding closed
  closed_level NotYet k = five_level _ _ running
  closed_level Passes k = ended_level _ _ p.voids (with_measuring k p)
  closed_level ModeEnds k = mode_level p.mode _ _ _
  closed_level Inconclusive k = void_level 9 _

  stop_level : (resting : Bool) (n : ℕ) → Level (stop_taken resting n p)
  unfolding stop_taken ends_in
  stop_level resting n =
      on_pick Level (resting || eqb p.counted 0) _ _ (λ _. open_level _ running refl) (λ _. void_level n p)

  measures_goes : (x : Test) (m : window.Measured) (k : MeasuringCounts) → Goes (measures x m k p)
  unfolding measures judged concluded
  measures_goes x m k =
      on_pick Goes (restarts k) _ _
      (λ _. turned x _ (five_level _ _ running))
      (λ _. let h = closed_level _ _ in record { told = _; taken = refl; stage = h.stage; verdict = h.verdict })

-- What a second of a test that runs comes to, from what step 4 makes of it.
attempt_goes :
    (x : Test) (clear : Stepped) (y : Screen) →
    is_running x.progress.stage ≡ true →
    Goes clear →
    Goes (in_attempt y x clear)
unfolding in_attempt ends_in
attempt_goes x clear Waits e g = turned x _ (open_level _ e refl)
attempt_goes x clear (Flawed n) e g = turned x _ (void_level n _)
attempt_goes x clear Clear e g = g

at_goes :
    (x : Test) (s : Second) (st : Stage) →
    is_running x.progress.stage ≡ true →
    is_running st ≡ true →
    Goes (second_at st x s)
unfolding second_at is_running settles measured
at_goes x s NotBegun e o = absurd (true≢false (sym o))
at_goes x s Settling e o =
    attempt_goes x _ _ e (turned x _ (settles_level (counted x.progress) e x.progress.mode x.vehicle s))
at_goes x s Measuring e o = attempt_goes x _ _ e (measures_goes (counted x.progress) e x _ _)
at_goes x s Rest e o = turned x _ (rest_level x.progress e _)
at_goes x s (Ended w) e o = absurd (true≢false (sym o))

pub second_goes : (x : Test) (s : Second) → is_running x.progress.stage ≡ true → Goes (second x s)
unfolding second
second_goes x s e = at_goes x s x.progress.stage e e

pub stop_goes :
    (x : Test) (n : ℕ) → cause_fit n ≡ true → is_running x.progress.stage ≡ true → Goes (stop x n)
unfolding stop pick
stop_goes x n f e = rw (e, f) (turned x _ (stop_level x.progress e _ n))

-- A stop of an unfit cause is refused 15 by a test that runs.
pub stop_refused_lem :
    (x : Test) (n : ℕ) → cause_fit n ≡ false → is_running x.progress.stage ≡ true → stop x n ≡ refused CauseUnfit x
unfolding stop pick
stop_refused_lem x n f e = rw (e, f)

-- A second is refused 13 by a test that does not run.
idle_at : (x : Test) (s : Second) (st : Stage) → is_running st ≡ false → second_at st x s ≡ refused NoTest x
unfolding second_at is_running
idle_at x s NotBegun e = refl
idle_at x s Settling e = absurd (true≢false e)
idle_at x s Measuring e = absurd (true≢false e)
idle_at x s Rest e = absurd (true≢false e)
idle_at x s (Ended w) e = refl

pub second_idle : (x : Test) (s : Second) → is_running x.progress.stage ≡ false → second x s ≡ refused NoTest x
unfolding second
second_idle x s e = idle_at x s x.progress.stage e

-- So is a stop, of whatever cause.
pub stop_idle : (x : Test) (n : ℕ) → is_running x.progress.stage ≡ false → stop x n ≡ refused NoTest x
unfolding stop pick
stop_idle x n e = rw e

-- A test that runs has no verdict.
pub running_open : (st : Stage) → is_running st ≡ true → has_ended st ≡ false
unfolding is_running has_ended
running_open NotBegun e = refl
running_open Settling e = refl
running_open Measuring e = refl
running_open Rest e = refl
running_open (Ended w) e = sym e
