-- The pass claim and the laws, for every list of seconds and stops from the beginning of a test. Assumes nothing.
use Prim.Native.Nat.{ℕ, suc, ◌≤◌, ◌<◌}
use native.Mathlib.Omega.{arith}
use mathlib.Core.Bool.{Bool, true, false, ◌||◌, true≢false}
use mathlib.Core.Path.{◌≡◌, refl, sym, ap, ◌∙◌, subst, subst⁻¹}
use mathlib.Core.List.{List, [], ◌∷◌, ◌++◌, map}
use lib.Dec.{eqb}
use lib.ListN.{length, take, length-take}
use lib.Seq.{take_all, take-take, take-append-le}
use borrow.Author.Tests.{eqb-true}
use Rattle.refusal.specs.declared.Refusal.TheVariants.{NoTest, CauseUnfit}
use Rattle.refusal.specs.declared.Refusal.{Refusal}
use Rattle.refusal.proofs.Picked.{on_pick}
use Rattle.reading.specs.declared.Second.{Second}
use Rattle.vehicle.specs.declared.Vehicle.{Vehicle}
use Rattle.window.specs.declared.Measured.{Measured}
use Rattle.window.specs.Measuring.{measured_of}
use Rattle.loaded_test.specs.declared.Did.TheVariants.{Nothing}
use Rattle.loaded_test.specs.declared.Stage.{Stage}
use Rattle.loaded_test.specs.declared.Stage.TheVariants.{NotBegun, Settling, Measuring, Rest, Ended}
use Rattle.attempt.specs.declared.Screen.{Screen}
use Rattle.attempt.specs.declared.Screen.TheVariants.{Waits, Flawed, Clear}
use Rattle.loaded_test.specs.declared.Progress.{Progress}
use Rattle.loaded_test.specs.declared.Test.{Test}
use Rattle.loaded_test.specs.declared.Stepped.{Stepped}
use Rattle.loaded_test.specs.State.{nothing, refused}
use Rattle.loaded_test.specs.Going.{is_running}
use Rattle.attempt.specs.Laws.{Screens}
use Rattle.attempt.proofs.Screens.{screened_exactly}
use Rattle.loaded_test.specs.Steps.{counted, measured, settled, in_attempt, second_at, second, is_resting, cause_fit, stop_taken, stop}
use Rattle.loaded_test.specs.Windows.{window_of}
use Rattle.loaded_test.specs.Log.{Entry, Input, a_second, a_stop, step, replay, logged, log_of}
use Rattle.loaded_test.specs.Claim.{mode_in, Measures, voids, Clean, at_start, goes_on, attempt_in, PassClaim}
use Rattle.loaded_test.specs.Laws.{Bounded, voids_in, nines_in, VoidClaim, IncompleteClaim, FailClaim, AccountedClaim, LastTen}
use Rattle.loaded_test.proofs.Counting.{Counts, none_counted, attempt_goes, waits_on, counts_on}
use Rattle.loaded_test.proofs.Holding.{most_settling, settling_most, Told, Open, Settles, Runs, AtStage, Good, entry, Stands, Kept}
use Rattle.loaded_test.proofs.Voiding.{voided_good}
use Rattle.loaded_test.proofs.Approach.{told_on, nothing_good, rest_good, settles_good}
use Rattle.loaded_test.proofs.Taking.{Takes, kept_turn, measures_good}

-- An open test's counts are within their bounds.
open_bounded : (p : Progress) → Open p → p.voids.voids ≤ 2 → p.voids.inconclusive ≤ 1 → Bounded p
open_bounded p o r q = let m = settling_most p.mode in omega arith

module _ (x : Test) (log : List Entry) where
  -- With a refusal nothing is told.
  refused_kept : (i : Input) (r : Refusal) → Stands x.vehicle log x → Kept x.vehicle i log (refused r x)
  unfolding logged
  refused_kept i r h = record { vehicle = h.vehicle; stage = h.stage; claims = h.claims }

  -- A second in an attempt, from what becomes of it where the test waits and where it is counted.
  screen_good :
      (s : Second) (clear : Stepped) →
      Told log x.progress.mode x.progress.voids →
      Open x.progress →
      (x.progress.counted ≡ 0 → s.speed ≤ 10 → Good x.vehicle (a_second s) log x.last (nothing x.progress)) →
      ((x.progress.counted ≡ 0 → 10 < s.speed) → Clean s → Kept x.vehicle (a_second s) log clear) →
      (y : Screen) →
      Screens x.progress.counted s y →
      Kept x.vehicle (a_second s) log (in_attempt y x clear)
  unfolding in_attempt
  screen_good s clear t o waiting taken' Waits q =
      kept_turn x.vehicle (a_second s) log x.last x.window _ (waiting q.0 q.1)
  screen_good s clear t o waiting taken' (Flawed n) q =
      let m = settling_most x.progress.mode in
      kept_turn x.vehicle (a_second s) log x.last x.window _
      (voided_good x.vehicle (a_second s) log x.last n (counted x.progress) t (omega arith))
  screen_good s clear t o waiting taken' Clear q = taken' q.0 (record { in_range = q.1; undiluted = q.2 })

  -- c has grown with a counted second.
  counted_on :
      (s : Second) →
      x.progress.counted ≤ 144 →
      (x.progress.counted ≡ 0 → 10 < s.speed) →
      Clean s →
      Counts (attempt_in log) x.progress.counted →
      Counts (a_second s ∷ attempt_in log) (counted x.progress).counted
  counted_on s most fast clean h =
      let e : suc x.progress.counted ≡ (counted x.progress).counted = omega arith in
      subst (Counts (a_second s ∷ attempt_in log)) e (counts_on s (attempt_in log) x.progress.counted fast clean most h)

  settling_good :
      (s : Second) (y : Screen) →
      Screens x.progress.counted s y →
      x.progress.stage ≡ Settling →
      Settles log x.progress →
      Kept x.vehicle (a_second s) log (in_attempt y x (settled x s (counted x.progress)))
  unfolding voids
  settling_good s y q e h =
      let o = h.bounds in
      screen_good s _ h.told h.bounds
      (λ z slow. nothing_good x.vehicle (a_second s) log x.last x.progress
      (subst⁻¹ (λ (y : Stage). AtStage y x.vehicle (entry (a_second s) (nothing x.progress) ∷ log) x.progress x.last) e
      (record {
        told = told_on (a_second s) log Nothing refl h.told;
        bounds = h.bounds;
        attempt = goes_on refl refl h.attempt;
        counting = attempt_goes (a_second s) Nothing log _ (waits_on (a_second s) (attempt_in log) _ z slow h.counting);
      })))
      (λ fast clean. kept_turn x.vehicle (a_second s) log x.last x.window _
      (settles_good x.vehicle (a_second s) log x.last s (counted x.progress) e h.told (omega arith) (omega arith) (omega arith) h.attempt
      (counted_on s o.counted fast clean h.counting)))
      y q

  -- A counted second of measuring.
  pub takes :
      (s : Second) →
      x.progress.stage ≡ Measuring →
      Runs x.vehicle log x.progress x.last →
      (x.progress.counted ≡ 0 → 10 < s.speed) →
      Clean s →
      Takes x.vehicle log s (counted x.progress) x.last
  takes s e h fast c =
      let o = h.bounds in
      let r = h.running.started in
      record {
        stage = e;
        told = h.told;
        bounds = omega arith;
        most = omega arith;
        running = record {
          run = h.running.run;
          old = h.running.old;
          measures = h.running.measures;
          same = h.running.same;
          started = omega arith;
          tally = h.running.tally;
          held = h.running.held;
          clean = h.running.clean;
          rows = h.running.rows;
          few = h.running.few;
          not_yet = h.running.not_yet;
        };
        unspoilt = c;
        counting = counted_on s o.counted fast c h.counting;
      }

  measuring_good :
      (s : Second) (y : Screen) →
      Screens x.progress.counted s y →
      x.progress.stage ≡ Measuring →
      Runs x.vehicle log x.progress x.last →
      Kept x.vehicle (a_second s) log (in_attempt y x (measured x s (counted x.progress)))
  unfolding measured
  measuring_good s y q e h =
      let r = h.running.started in
      screen_good s _ h.told h.bounds
      (λ z slow. absurd (omega arith))
      (λ fast c. measures_good x log s (counted x.progress) (takes s e h fast c) x.progress.mode h.told.mode)
      y q

  second_at_lem :
      (s : Second) (st : Stage) →
      x.progress.stage ≡ st →
      AtStage st x.vehicle log x.progress x.last →
      Stands x.vehicle log x →
      Kept x.vehicle (a_second s) log (second_at st x s)
  unfolding second_at
  second_at_lem s NotBegun e h k = absurd h
  second_at_lem s Settling e h k = settling_good s _ (screened_exactly x.progress.counted s) e h
  second_at_lem s Measuring e h k = measuring_good s _ (screened_exactly x.progress.counted s) e h
  second_at_lem s Rest e h k =
      kept_turn x.vehicle (a_second s) log x.last x.window _
      (rest_good x.vehicle (a_second s) log x.last s x.progress e h.told h.bounds)
  second_at_lem s (Ended w) e h k = refused_kept (a_second s) NoTest k

  -- A stop that an open test takes.
  stop_taken_lem :
      (n : ℕ) (resting : Bool) →
      Told log x.progress.mode x.progress.voids →
      Open x.progress →
      (resting || eqb x.progress.counted 0 ≡ true →
      AtStage x.progress.stage x.vehicle (entry (a_stop n) (nothing x.progress) ∷ log) x.progress x.last) →
      Good x.vehicle (a_stop n) log x.last (stop_taken resting n x.progress)
  unfolding stop_taken
  stop_taken_lem n resting told o idle =
      on_pick (Good x.vehicle (a_stop n) log x.last) (resting || eqb x.progress.counted 0) _ _
      (λ e. nothing_good x.vehicle (a_stop n) log x.last x.progress (idle e))
      (λ _. voided_good x.vehicle (a_stop n) log x.last n x.progress told
      (open_bounded x.progress o told.voids_left told.nines_left))

  stop_at :
      (n : ℕ) (st : Stage) →
      x.progress.stage ≡ st →
      AtStage st x.vehicle log x.progress x.last →
      is_running st ≡ true →
      Good x.vehicle (a_stop n) log x.last (stop_taken (is_resting st) n x.progress)
  unfolding is_resting is_running voids
  stop_at n NotBegun e h c = absurd h
  stop_at n Settling e h c =
      stop_taken_lem n false h.told h.bounds
      (λ f. let z : x.progress.counted ≡ 0 = eqb-true _ _ f in
      subst⁻¹ (λ (y : Stage). AtStage y x.vehicle (entry (a_stop n) (nothing x.progress) ∷ log) x.progress x.last) e
      (record {
        told = told_on (a_stop n) log Nothing refl h.told;
        bounds = h.bounds;
        attempt = goes_on refl refl h.attempt;
        counting = attempt_goes (a_stop n) Nothing log _ (waits_on (a_stop n) (attempt_in log) _ z tt h.counting);
      }))
  stop_at n Measuring e h c =
      stop_taken_lem n false h.told h.bounds
      (λ f. let z : x.progress.counted ≡ 0 = eqb-true _ _ f in let r = h.running.started in absurd (omega arith))
  stop_at n Rest e h c =
      stop_taken_lem n true h.told h.bounds
      (λ _. subst⁻¹ (λ (y : Stage). AtStage y x.vehicle (entry (a_stop n) (nothing x.progress) ∷ log) x.progress x.last) e
      (record { told = told_on (a_stop n) log Nothing refl h.told; bounds = h.bounds }))
  stop_at n (Ended w) e h c = absurd (true≢false (sym c))

  stop_good : (n : ℕ) → Stands x.vehicle log x → Kept x.vehicle (a_stop n) log (stop x n)
  unfolding stop
  stop_good n h =
      on_pick (Kept x.vehicle (a_stop n) log) (is_running x.progress.stage) _ _
      (λ e. on_pick (Kept x.vehicle (a_stop n) log) (cause_fit n) _ _
      (λ _. kept_turn x.vehicle (a_stop n) log x.last x.window _ (stop_at n x.progress.stage refl h.stage e))
      (λ _. refused_kept (a_stop n) CauseUnfit h))
      (λ _. refused_kept (a_stop n) NoTest h)

  step_good : (i : Input) → Stands x.vehicle log x → Kept x.vehicle i log (step x i)
  unfolding second
  step_good (a_second s) h = second_at_lem s x.progress.stage refl h.stage h
  step_good (a_stop n) h = stop_good n h

-- After every list of inputs.
pub stands : (v : Vehicle) (l : List Input) → Stands v (log_of v l) (replay v l)
unfolding log_of replay most_settling voids_in nines_in mode_in attempt_in
stands v [] = record {
  vehicle = refl;
  stage = record {
    told = record { mode = refl; voids = refl; nines = refl; voids_left = omega arith; nines_left = omega arith };
    bounds = omega arith;
    attempt = at_start;
    counting = none_counted;
  };
  claims = record { pass = tt; void = tt; incomplete = tt; fail = tt; accounted = tt };
}
stands v (i ∷ l) =
    let h : Stands v (log_of v l) (replay v l) = stands v l in
    subst (λ (w : Vehicle). Kept w i (log_of v l) (step (replay v l) i)) h.vehicle
    (step_good (replay v l) (log_of v l) i (subst⁻¹ (λ (w : Vehicle). Stands w (log_of v l) (replay v l)) h.vehicle h))

-- A pass is earned.
pub passes : (v : Vehicle) (l : List Input) → PassClaim v (log_of v l)
passes v l = (stands v l).claims.pass

-- What follows a void.
pub voids_followed : (v : Vehicle) (l : List Input) → VoidClaim (log_of v l)
voids_followed v l = (stands v l).claims.void

-- "incomplete" only at r = 3 with q not 2.
pub incomplete_only : (v : Vehicle) (l : List Input) → IncompleteClaim (log_of v l)
incomplete_only v l = (stands v l).claims.incomplete

-- A fail only in mode 2, and for one of two reasons.
pub fails_only : (v : Vehicle) (l : List Input) → FailClaim (log_of v l)
fails_only v l = (stands v l).claims.fail

-- In every verdict passing, failing and invalid are t − 9.
pub accounted_all : (v : Vehicle) (l : List Input) → AccountedClaim (log_of v l)
accounted_all v l = (stands v l).claims.accounted

stage_bounded :
    (v : Vehicle) (log : List Entry) (st : Stage) (p : Progress) (last : List Measured) → AtStage st v log p last → Bounded p
stage_bounded v log NotBegun p last h = absurd h
stage_bounded v log Settling p last h = open_bounded p h.bounds h.told.voids_left h.told.nines_left
stage_bounded v log Measuring p last h = open_bounded p h.bounds h.told.voids_left h.told.nines_left
stage_bounded v log Rest p last h = open_bounded p h.bounds h.told.voids_left h.told.nines_left
stage_bounded v log (Ended w) p last h = h

-- c ≤ 145, t ≤ 90, r ≤ 3, q ≤ 2, no counter at its cap; passing, failing and invalid are t − 9 from t = 9 on.
pub bounded : (v : Vehicle) (l : List Input) → Bounded (replay v l).progress
bounded v l = stage_bounded v (log_of v l) (replay v l).progress.stage (replay v l).progress (replay v l).last (stands v l).stage

-- The last ten seconds of a run, whatever stood there before it.
ten_held :
    (xs old last : List Measured) → take 10 last ≡ take 10 (xs ++ old) → take (length (take 10 xs)) last ≡ take 10 xs
ten_held xs old last held =
    let few : length (take 10 xs) ≤ 10 = omega (arith, length-take 10 xs) in
    let some : length (take 10 xs) ≤ length xs = omega (arith, length-take 10 xs) in
    sym (take-take (length (take 10 xs)) 10 last few) ∙
    ap (take (length (take 10 xs))) held ∙
    take-take (length (take 10 xs)) 10 (xs ++ old) few ∙
    take-append-le (length (take 10 xs)) xs old some ∙
    sym (take-take (length (take 10 xs)) 10 xs few) ∙
    take_all (length (take 10 xs)) (take 10 xs) (omega arith)

-- In measuring the last ten seconds are the last ten measured.
pub last_ten_lem :
    (v : Vehicle) (l : List Input) →
    (replay v l).progress.stage ≡ Measuring →
    LastTen v (log_of v l) (replay v l).last
unfolding window_of
last_ten_lem v l e =
    let h : Runs v (log_of v l) (replay v l).progress (replay v l).last =
    subst (λ (y : Stage). AtStage y v (log_of v l) (replay v l).progress (replay v l).last) e (stands v l).stage in
    record {
      measures = subst (λ (r : List Second). Measures r (log_of v l)) h.running.same h.running.measures;
      same =
          subst
          (λ (r : List Second).
          take (length (take 10 (map (measured_of v (mode_in (log_of v l))) r))) (replay v l).last ≡
          take 10 (map (measured_of v (mode_in (log_of v l))) r))
          h.running.same
          (ten_held (map (measured_of v (mode_in (log_of v l))) h.running.run) h.running.old (replay v l).last h.running.held);
    }
