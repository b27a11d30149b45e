-- Rest and settling leave all that holds of a test standing. Assumes nothing.
use Prim.Native.Nat.{ℕ, ◌≤◌, ◌<◌}
use native.Mathlib.Omega.{arith}
use mathlib.Core.Bool.{Bool, false, ◌&&◌, true≢false}
use mathlib.Core.Path.{◌≡◌, refl, sym, ap, subst⁻¹}
use mathlib.Core.List.{List, [], ◌∷◌}
use lib.Dec.{leb, ltb, eqb}
use borrow.Author.Tests.{eqb-false, leb-false}
use Rattle.refusal.proofs.Picked.{on_pick}
use Rattle.reading.specs.declared.Second.{Second}
use Rattle.vehicle.specs.declared.Vehicle.{Vehicle}
use Rattle.vehicle.specs.declared.Mode.{Mode}
use Rattle.vehicle.specs.declared.Mode.TheVariants.{One, Two}
use Rattle.window.specs.declared.Measured as window
use Rattle.loaded_test.specs.declared.Verdict.{Verdict}
use Rattle.loaded_test.specs.declared.Did.{Did}
use Rattle.loaded_test.specs.declared.Did.TheVariants.{Nothing, MeasuringBegan, Measured, Restarted, Voided}
use Rattle.loaded_test.specs.declared.Next.TheVariants.{GoesOn, RestEnded, Ends}
use Rattle.loaded_test.specs.declared.Stage.{Stage}
use Rattle.loaded_test.specs.declared.Stage.TheVariants.{Settling, Rest}
use Rattle.loaded_test.specs.declared.VoidCounts.{VoidCounts}
use Rattle.attempt.specs.declared.SettlingCounts.{SettlingCounts}
use Rattle.loaded_test.specs.declared.Progress.{Progress}
use Rattle.loaded_test.specs.State.{emptied, turn, with_counted, with_resting, with_settling}
use Rattle.attempt.specs.Counting.{in_row, row_of, all_of}
use Rattle.loaded_test.specs.Rest.{rest_count, rested}
use Rattle.attempt.specs.Settling.{second_one, second_two}
use Rattle.std.proofs.lemmas.Bool.{or_parts}
use Rattle.attempt.specs.Laws.{Settled}
use Rattle.attempt.proofs.Most.{row_most, first_most, next_most}
use Rattle.loaded_test.specs.Settling.{measuring_from, settling_left, closed_one, closed_two, settles_in, settles}
use Rattle.loaded_test.specs.Log.{Entry, Input}
use Rattle.loaded_test.specs.Claim.{mode_after, mode_in, begins, voids, InAttempt, begun, goes_on, none, no_second, attempt_in}
use Rattle.attempt.specs.Speeds.{speed_at, first_ten, all_held, speed_held}
use Rattle.loaded_test.specs.Windows.{out_row, longest_out, out_all, passing_in, failing_in, invalid_in}
use Rattle.loaded_test.specs.Sheet.{t_going, t_after, run_in}
use Rattle.loaded_test.proofs.Runs.{oldest_none}
use Rattle.loaded_test.specs.Laws.{void_added, voids_kept, voids_in}
use Rattle.loaded_test.proofs.Counting.{Counts, attempt_begins, attempt_goes}
use Rattle.loaded_test.proofs.Holding.{most_settling, some_valid, tally_of, Told, Open, AtStage, Good, entry}
use Rattle.loaded_test.proofs.Voiding.{going_ends_not, silent, voided_good, five_good}

ended_ends_not : (y : Verdict) → RestEnded ≡ Ends y → ⊥
ended_ends_not y e = let z : ◌≡◌ {A = ℕ} 0 1 = cc in omega arith

quiet_voids : (d : Did) (l : List ℕ) → voids d ≡ false → void_added d l ≡ l
unfolding voids void_added
quiet_voids Nothing l e = refl
quiet_voids MeasuringBegan l e = refl
quiet_voids (Measured t) l e = refl
quiet_voids Restarted l e = refl
quiet_voids (Voided n) l e = absurd (true≢false e)

-- An entry that voids nothing and after which the attempt goes on leaves the log's mode and voids.
pub told_on :
    (i : Input) (log : List Entry) (d : Did) {m : Mode} {k : VoidCounts} →
    voids d ≡ false →
    Told log m k →
    Told (record { input = i; did = d; next = GoesOn } ∷ log) m k
unfolding mode_in mode_after voids_in voids_kept
told_on i log d quiet told = record {
  mode = told.mode;
  voids = rw (quiet_voids d (voids_in log) quiet) told.voids;
  nines = rw (quiet_voids d (voids_in log) quiet) told.nines;
  voids_left = told.voids_left;
  nines_left = told.nines_left;
}

module _ (v : Vehicle) (i : Input) (log : List Entry) (last : List window.Measured) where
  -- Nothing happens.
  pub nothing_good :
      (p : Progress) → AtStage p.stage v (entry i (turn Nothing GoesOn p) ∷ log) p last → Good v i log last (turn Nothing GoesOn p)
  unfolding voids
  nothing_good p h = record { stage = h; claims = silent v i log (turn Nothing GoesOn p) refl going_ends_not }

  pub rest_good :
      (s : Second) (p : Progress) →
      p.stage ≡ Rest →
      Told log p.mode p.voids →
      Open p →
      Good v i log last (rested (rest_count p.resting s) p)
  unfolding rested rest_count mode_in mode_after voids_in voids_kept void_added begins voids most_settling
  rest_good s p stage told bounds =
      let k = in_row (ltb s.speed 10) p.resting in
      let most : k ≤ 10 = row_most 9 (ltb s.speed 10) p.resting bounds.resting in
      on_pick (Good v i log last) (eqb k 10) _ _
      (λ e. record {
        stage = record {
          told = record { mode = told.mode; voids = told.voids; nines = told.nines; voids_left = told.voids_left; nines_left = told.nines_left };
          bounds = omega arith;
          attempt = begun refl;
          counting = attempt_begins _ _ refl;
        };
        claims = silent v i log (turn Nothing RestEnded (emptied p.mode Settling p.voids)) refl ended_ends_not;
      })
      (λ e. let f : k ≡ 10 → ⊥ = eqb-false _ _ e in
      nothing_good (with_resting k p)
      (subst⁻¹ (λ (x : Stage). AtStage x v (entry i (turn Nothing GoesOn (with_resting k p)) ∷ log) (with_resting k p) last) stage
      (record { told = told_on i log Nothing refl told; bounds = omega arith })))

  -- Measuring begins: no second of its run is taken yet.
  began_good :
      (p : Progress) →
      Told log p.mode p.voids →
      Open p →
      1 ≤ p.counted →
      InAttempt log →
      Counts (i ∷ attempt_in log) p.counted →
      Good v i log last (turn MeasuringBegan GoesOn (measuring_from p))
  unfolding voids tally_of out_row longest_out out_all row_of all_of passing_in failing_in invalid_in speed_at first_ten all_held speed_held some_valid run_in t_after t_going
  began_good p told bounds least attempt counting = record {
    stage = record {
      told = told_on i log MeasuringBegan refl told;
      bounds = omega arith;
      running = record {
        run = [];
        old = last;
        measures = none (goes_on refl refl attempt);
        same = sym (oldest_none _);
        started = least;
        tally = refl;
        held = refl;
        clean = no_second;
        rows = omega arith;
        few = omega arith;
        not_yet = tt;
      };
      counting = attempt_goes i MeasuringBegan log _ counting;
    };
    claims = silent v i log (turn MeasuringBegan GoesOn (measuring_from p)) refl going_ends_not;
  }

  -- Settling that is left or goes on.
  left_good :
      (starts used : Bool) (k : SettlingCounts) (p : Progress) →
      p.stage ≡ Settling →
      Told log p.mode p.voids →
      Open (with_counted 0 p) →
      p.counted ≤ 145 →
      1 ≤ p.counted →
      InAttempt log →
      Counts (i ∷ attempt_in log) p.counted →
      k.row ≤ 1 →
      k.all ≤ 4 →
      (starts ≡ false → k.ready ≤ 10) →
      (used ≡ false → k.seconds ≤ most_settling p.mode) →
      k.seconds ≤ 25 →
      k.ready ≤ 11 →
      most_settling p.mode ≤ 24 →
      Good v i log last (settling_left starts used k p)
  unfolding settling_left voids
  left_good starts used k p stage told bounds most least attempt counting row all ready seconds s25 r11 m24 =
      on_pick (Good v i log last) starts _ _
      (λ e. five_good v i log last MeasuringBegan (measuring_from p) told (omega arith)
      (λ h. began_good p told (omega arith) least attempt counting))
      (λ e. on_pick (Good v i log last) used _ _
      (λ f. voided_good v i log last 7 (with_settling k p) told (omega arith))
      (λ f. five_good v i log last Nothing (with_settling k p) told (omega arith)
      (λ h. let a : k.ready ≤ 10 = ready e in
      let b : k.seconds ≤ most_settling p.mode = seconds f in
      nothing_good (with_settling k p)
      (subst⁻¹ (λ (x : Stage). AtStage x v (entry i (turn Nothing GoesOn (with_settling k p)) ∷ log) (with_settling k p) last) stage
      (record {
        told = told_on i log Nothing refl told;
        bounds = omega arith;
        attempt = goes_on refl refl attempt;
        counting = attempt_goes i Nothing log _ counting;
      })))))

  -- A counted second of settling.
  settles_in_lem :
      (s : Second) (m : Mode) (p : Progress) →
      p.mode ≡ m →
      p.stage ≡ Settling →
      Told log p.mode p.voids →
      Open (with_counted 0 p) →
      p.counted ≤ 145 →
      1 ≤ p.counted →
      InAttempt log →
      Counts (i ∷ attempt_in log) p.counted →
      Good v i log last (settles_in m v s p)
  unfolding settles_in closed_one closed_two most_settling
  settles_in_lem s One p mode stage told bounds most least attempt counting =
      let m24 : most_settling p.mode ≡ 24 = ap most_settling mode in
      let b : p.settling.seconds ≤ most_settling p.mode = bounds.seconds in
      let k = second_one v s p.settling in
      let h : Settled 25 k = first_most v s p.settling (omega arith) bounds.ready bounds.row bounds.all in
      left_good _ _ k p stage told bounds most least attempt counting h.row h.all
      (λ e. let f : k.ready < 11 = leb-false _ _ (or_parts (leb 11 k.ready) (eqb k.seconds 25 && leb 5 k.ready) e).0 in omega arith)
      (λ e. let f : k.seconds ≡ 25 → ⊥ = eqb-false _ _ e in omega arith)
      h.seconds h.ready (omega arith)
  settles_in_lem s Two p mode stage told bounds most least attempt counting =
      let m14 : most_settling p.mode ≡ 14 = ap most_settling mode in
      let b : p.settling.seconds ≤ most_settling p.mode = bounds.seconds in
      let k = second_two v s p.settling in
      let h : Settled 15 k = next_most v s p.settling (omega arith) bounds.ready bounds.row bounds.all in
      left_good _ _ k p stage told bounds most least attempt counting h.row h.all
      (λ e. let f : k.ready < 5 = leb-false _ _ e in omega arith)
      (λ e. let f : k.seconds ≡ 15 → ⊥ = eqb-false _ _ e in omega arith)
      (omega arith) h.ready (omega arith)

  pub settles_good :
      (s : Second) (p : Progress) →
      p.stage ≡ Settling →
      Told log p.mode p.voids →
      Open (with_counted 0 p) →
      p.counted ≤ 145 →
      1 ≤ p.counted →
      InAttempt log →
      Counts (i ∷ attempt_in log) p.counted →
      Good v i log last (settles v s p)
  unfolding settles
  settles_good s p = settles_in_lem s p.mode p refl
