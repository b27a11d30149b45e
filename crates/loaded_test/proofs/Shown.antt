-- What is shown of a test is of the last valid window that its log tells. Assumes nothing.
use Prim.Native.Nat.{ℕ, zero, suc, ◌-◌, ◌<◌}
use native.Mathlib.Omega.{arith}
use mathlib.Core.Bool.{Bool, true, false, true≢false, ◌||◌}
use mathlib.Core.Path.{◌≡◌, refl, sym, ap, ◌∙◌, subst, subst⁻¹}
use mathlib.Core.List.{List, [], ◌∷◌, map}
use lib.ListN.{length, take, drop}
use lib.Seq.{length-take-le}
use Rattle.std.specs.Prelude.{Some, None, Ok, Err, Option, Result, IsSome, is_some, option_and_then}
use Rattle.refusal.specs.declared.Refusal.{Refusal}
use Rattle.refusal.specs.Choice.{pick}
use Rattle.refusal.proofs.Picked.{on_pick}
use Rattle.reading.specs.declared.Second.{Second}
use Rattle.vehicle.specs.declared.Vehicle.{Vehicle}
use Rattle.vehicle.specs.declared.Mode.{Mode}
use Rattle.vehicle.specs.declared.Mode.TheVariants.{One, Two}
use Rattle.window.specs.declared.Measured as window
use Rattle.window.specs.Measuring.{measured_of}
use Rattle.window.specs.Engine.{engine_speed_of}
use Rattle.window.specs.Plain.{AllPresent, EngineTold}
use Rattle.window.proofs.Plainly.{engine_exactly}
use Rattle.attempt.specs.declared.Ending.{Ending}
use Rattle.attempt.specs.declared.Ending.TheVariants.{NotYet, Passes, ModeEnds, Inconclusive}
use Rattle.attempt.specs.declared.Screen.{Screen}
use Rattle.attempt.specs.declared.Screen.TheVariants.{Waits, Flawed, Clear}
use Rattle.attempt.specs.declared.MeasuringCounts.{MeasuringCounts}
use Rattle.attempt.specs.declared.SettlingCounts.{SettlingCounts}
use Rattle.attempt.specs.Laws.{Screens}
use Rattle.attempt.specs.Measuring.{no_measuring, tallied, restarts}
use Rattle.attempt.proofs.Screens.{screened_exactly}
use Rattle.loaded_test.specs.declared.Word.{Word}
use Rattle.loaded_test.specs.declared.Word.TheVariants.{Pass, Fail, Incomplete}
use Rattle.loaded_test.specs.declared.Did.{Did}
use Rattle.loaded_test.specs.declared.Did.TheVariants.{Nothing, MeasuringBegan, Measured, Restarted, Voided}
use Rattle.loaded_test.specs.declared.Next.{Next}
use Rattle.loaded_test.specs.declared.Next.TheVariants.{GoesOn, Rests, RestEnded, ModeTwo}
use Rattle.loaded_test.specs.declared.Stage.{Stage}
use Rattle.loaded_test.specs.declared.Stage.TheVariants.{NotBegun, Settling, Measuring, Rest, Ended}
use Rattle.loaded_test.specs.declared.VoidCounts.{VoidCounts}
use Rattle.loaded_test.specs.declared.Progress.{Progress}
use Rattle.loaded_test.specs.declared.Turn.{Turn}
use Rattle.loaded_test.specs.declared.Told.{Told}
use Rattle.loaded_test.specs.declared.Stepped.{Stepped}
use Rattle.loaded_test.specs.declared.Test.{Test}
use Rattle.loaded_test.specs.State.{emptied, no_voids, with_resting, with_settling, with_measuring, turn, nothing, stepped, last_window, engine_shown}
use Rattle.loaded_test.specs.Voids.{ended, mode_ended, void_counted, void_next, void_followed, voided, step_five}
use Rattle.loaded_test.specs.Rest.{rested}
use Rattle.loaded_test.specs.Settling.{measuring_from, settling_left, closed_one, closed_two, settles_in, settles}
use Rattle.loaded_test.specs.Measuring.{closed, concluded, window_taken, window_judged, window_kept, judged, measures}
use Rattle.loaded_test.specs.Steps.{counted, measured, in_attempt, second_at, second, stop_taken, stop}
use Rattle.loaded_test.specs.Windows.{out_of, window_of, valid_here, last_valid}
use Rattle.loaded_test.specs.Log.{Entry, Input, a_second, a_stop, step, replay, logged, log_of}
use Rattle.loaded_test.specs.Claim.{mode_after, mode_in, Clean, AllClean, no_second, and_clean}
use Rattle.loaded_test.specs.Sheet.{t_going, t_after, with_input, oldest, run_in, last_valid_in, WindowTold, SheetTold, AllPresentIn}
use Rattle.attempt.proofs.Runs.{restarted_none}
use Rattle.loaded_test.proofs.Runs.{oldest_none, oldest_before, oldest_more}
use Rattle.loaded_test.proofs.Holding.{some_valid, tally_of, AtStage, Stands, entry}
use Rattle.loaded_test.proofs.Tally.{valid_ten, taken_here, valid_window}
use Rattle.loaded_test.proofs.Taking.{Takes, short, judged_counts}
use Rattle.loaded_test.proofs.Passing.{takes, stands}

-- t counts the run, the window that is kept is the run's last valid one, and each second of the run is clean.
record Holds (v : Vehicle) (mode : Mode) (run : List Second) (k : MeasuringCounts) (window : List window.Measured) : Type 0 where
  seconds : k.seconds ≡ length run
  kept : k.kept ≡ some_valid v mode run
  held : some_valid v mode run ≡ true → window ≡ map (measured_of v mode) (last_valid v mode run)
  clean : AllClean run

abbrev Shows : Vehicle → List Entry → Progress → List window.Measured → Type 0
Shows v log p window = Holds v (mode_in log) (run_in log) p.measuring window

none_held : (v : Vehicle) (mode : Mode) (window : List window.Measured) → Holds v mode [] no_measuring window
unfolding some_valid
none_held v mode window = record { seconds = refl; kept = refl; held = λ e. absurd (true≢false (sym e)); clean = no_second }

module _ (v : Vehicle) (i : Input) (log : List Entry) (window : List window.Measured) where
  -- A turn, told as the newest entry.
  abbrev Tells : Turn → Type 0
  Tells x = Shows v (entry i x ∷ log) x.progress window

  -- The counts are those of the seconds that t counts, with this input.
  abbrev Counted : MeasuringCounts → Type 0
  Counted k = Holds v (mode_in log) (oldest k.seconds (with_input i (run_in log))) k window

  uncounted : (k : MeasuringCounts) → Holds v (mode_in log) (run_in log) k window → Counted k
  uncounted k h =
      subst⁻¹ (λ (r : List Second). Holds v (mode_in log) r k window) (oldest_before i k.seconds (run_in log) h.seconds) h

  emptied_counted : Counted no_measuring
  emptied_counted =
      subst⁻¹ (λ (r : List Second). Holds v (mode_in log) r no_measuring window) (oldest_none (with_input i (run_in log)))
      (none_held v (mode_in log) window)

  -- In rest and in a new attempt there is no run.
  emptied_tells :
      (d : Did) (next : Next) (mode : Mode) (stage : Stage) (k : VoidCounts) →
      ((t : ℕ) → t_after d next t ≡ 0) →
      Tells (turn d next (emptied mode stage k))
  unfolding run_in
  emptied_tells d next mode stage k e =
      subst⁻¹
      (λ (r : List Second). Holds v (mode_in (record { input = i; did = d; next = next } ∷ log)) r no_measuring window)
      (ap (λ (t : ℕ). oldest t (with_input i (run_in log))) (e (length (run_in log))) ∙ oldest_none (with_input i (run_in log)))
      (none_held v _ window)

  -- A verdict keeps the counts and the window.
  ended_tells : (d : Did) (word : Word) (k : VoidCounts) (p : Progress) → Counted p.measuring → Tells (ended d word k p)
  unfolding run_in t_after mode_in mode_after
  ended_tells d word k p h = h

  mode_ended_tells : (m : Mode) (d : Did) (k : VoidCounts) (p : Progress) → Counted p.measuring → Tells (mode_ended m d k p)
  unfolding mode_ended t_after
  mode_ended_tells One d k p h = emptied_tells d ModeTwo Two Settling no_voids (λ t. refl)
  mode_ended_tells Two d k p h = ended_tells d Fail k p h

  voided_tells : (n : ℕ) (p : Progress) → Counted p.measuring → Tells (voided n p)
  unfolding voided void_followed void_next t_after
  voided_tells n p h =
      on_pick Tells _ _ _
      (λ _. mode_ended_tells p.mode (Voided n) (void_counted n p.voids) p h)
      (λ _. on_pick Tells _ _ _
      (λ _. ended_tells (Voided n) Incomplete (void_counted n p.voids) p h)
      (λ _. emptied_tells (Voided n) Rests p.mode Rest (void_counted n p.voids) (λ t. refl)))

  goes_tells :
      (d : Did) (p : Progress) →
      Counted p.measuring →
      t_going d (length (run_in log)) ≡ p.measuring.seconds →
      Tells (turn d GoesOn p)
  unfolding run_in t_after mode_in mode_after
  goes_tells d p h e =
      subst⁻¹ (λ (t : ℕ). Holds v (mode_in log) (oldest t (with_input i (run_in log))) p.measuring window) e h

  five_tells :
      (d : Did) (p : Progress) →
      Counted p.measuring →
      t_going d (length (run_in log)) ≡ p.measuring.seconds →
      Tells (step_five d p)
  unfolding step_five
  five_tells d p h e = on_pick Tells _ _ _ (λ _. voided_tells 8 p h) (λ _. goes_tells d p h e)

  nothing_tells : (p : Progress) → Shows v log p window → Tells (nothing p)
  unfolding t_going
  nothing_tells p h = goes_tells Nothing p (uncounted _ h) (sym h.seconds)

  left_tells : (starts used : Bool) (k : SettlingCounts) (p : Progress) → Shows v log p window → Tells (settling_left starts used k p)
  unfolding settling_left t_going
  left_tells starts used k p h =
      on_pick Tells _ _ _
      (λ _. five_tells MeasuringBegan (measuring_from p) emptied_counted refl)
      (λ _. on_pick Tells _ _ _
      (λ _. voided_tells 7 (with_settling k p) (uncounted _ h))
      (λ _. five_tells Nothing (with_settling k p) (uncounted _ h) (sym h.seconds)))

  settles_tells : (m : Mode) (s : Second) (p : Progress) → Shows v log p window → Tells (settles_in m v s p)
  unfolding settles_in closed_one closed_two
  settles_tells One s p h = left_tells _ _ _ p h
  settles_tells Two s p h = left_tells _ _ _ p h

  rested_tells : (k : ℕ) (p : Progress) → Shows v log p window → Tells (rested k p)
  unfolding rested t_after
  rested_tells k p h =
      on_pick Tells _ _ _
      (λ _. emptied_tells Nothing RestEnded p.mode Settling p.voids (λ t. refl))
      (λ _. nothing_tells (with_resting k p) h)

  closed_tells : (r : Ending) (p : Progress) → Counted p.measuring → Tells (closed r p)
  unfolding closed t_going
  closed_tells NotYet p h = five_tells (Measured p.measuring.seconds) p h refl
  closed_tells Passes p h = ended_tells (Measured p.measuring.seconds) Pass p.voids p h
  closed_tells ModeEnds p h = mode_ended_tells p.mode (Measured p.measuring.seconds) p.voids p h
  closed_tells Inconclusive p h = voided_tells 9 p h

  concluded_tells : (k : MeasuringCounts) (p : Progress) → Counted k → Tells (concluded k p)
  unfolding concluded
  concluded_tells k p h = closed_tells _ (with_measuring k p) h

  stop_tells : (n : ℕ) (resting : Bool) (p : Progress) → Shows v log p window → Tells (stop_taken resting n p)
  unfolding stop_taken
  stop_tells n resting p h = on_pick Tells _ _ _ (λ _. nothing_tells p h) (λ _. voided_tells n p (uncounted _ h))

-- What is kept of the first n seconds.
kept_take : (v : Vehicle) (mode : Mode) (n : ℕ) (l : List Second) → take n (map (measured_of v mode) l) ≡ map (measured_of v mode) (take n l)
kept_take v mode zero l = refl
kept_take v mode (suc n) [] = refl
kept_take v mode (suc n) (s ∷ l) = ap (λ (x : List window.Measured). measured_of v mode s ∷ x) (kept_take v mode n l)

-- The window that ends here is kept where it is valid, else the one before stays.
window_held :
    (v : Vehicle) (mode : Mode) (s : Second) (l : List Second) (last window : List window.Measured) (valid : Bool) →
    valid_here v mode (s ∷ l) ≡ valid →
    (valid_here v mode (s ∷ l) ≡ true → last ≡ window_of v mode (s ∷ l)) →
    (some_valid v mode l ≡ true → window ≡ map (measured_of v mode) (last_valid v mode l)) →
    some_valid v mode (s ∷ l) ≡ true →
    window_kept valid last window ≡ map (measured_of v mode) (last_valid v mode (s ∷ l))
unfolding window_kept pick last_valid some_valid window_of
window_held v mode s l last window true e here before some = rw e (here e ∙ kept_take v mode 10 (s ∷ l))
window_held v mode s l last window false e here before some =
    rw e (before (sym (ap (λ (b : Bool). b || some_valid v mode l) e) ∙ some))

-- A test after a second or a stop.
abbrev ShowsAfter : Vehicle → Input → List Entry → Stepped → Type 0
ShowsAfter v i log y = Shows v (logged i y.answer log) y.test.progress y.test.window

-- A measured second of a test.
module _
    (x : Test) (log : List Entry) (s : Second) (p : Progress) (h : Takes x.vehicle log s p x.last)
    (q : Shows x.vehicle log p x.window)
  where
    abbrev last : List window.Measured
    last = take 10 (measured_of x.vehicle (mode_in log) s ∷ x.last)

    module _
        (k : MeasuringCounts)
        (counts : k ≡ tallied (out_of x.vehicle (mode_in log) s) s.speed (tally_of x.vehicle (mode_in log) h.running.run))
        (stays : restarts k ≡ false)
      where
        here : valid_here x.vehicle (mode_in log) (s ∷ h.running.run) ≡ window_taken k.seconds last
        unfolding tallied tally_of
        here =
            sym
            (ap (λ (c : MeasuringCounts). window_taken c.seconds last) counts ∙
            taken_here x.vehicle (mode_in log) s h.running.run x.last h.running.old h.running.held
            (short x.vehicle log s p x.last h))

        before :
            some_valid x.vehicle (mode_in log) h.running.run ≡ true →
            x.window ≡ map (measured_of x.vehicle (mode_in log)) (last_valid x.vehicle (mode_in log) h.running.run)
        before =
            subst⁻¹
            (λ (l : List Second).
            some_valid x.vehicle (mode_in log) l ≡ true →
            x.window ≡ map (measured_of x.vehicle (mode_in log)) (last_valid x.vehicle (mode_in log) l))
            h.running.same
            q.held

        more_held :
            Holds x.vehicle (mode_in log) (s ∷ h.running.run)
            (window_judged (window_taken k.seconds last) x.vehicle last k)
            (window_kept (window_taken k.seconds last) last x.window)
        unfolding tally_of
        more_held =
            let c = judged_counts x.vehicle log s p x.last h k counts stays in
            record {
              seconds = ap (λ (y : MeasuringCounts). y.seconds) c;
              kept = ap (λ (y : MeasuringCounts). y.kept) c;
              held =
                  window_held x.vehicle (mode_in log) s h.running.run last x.window (window_taken k.seconds last) here
                  (valid_window x.vehicle (mode_in log) s h.running.run x.last h.running.old h.running.held
                  (short x.vehicle log s p x.last h))
                  before;
              clean = and_clean h.unspoilt h.running.clean;
            }

        judged_shows :
            ShowsAfter x.vehicle (a_second s) log (judged (window_taken k.seconds last) x k p last)
        unfolding judged logged
        judged_shows =
            concluded_tells x.vehicle (a_second s) log _ _ p
            (subst⁻¹
            (λ (r : List Second).
            Holds x.vehicle (mode_in log) r
            (window_judged (window_taken k.seconds last) x.vehicle last k)
            (window_kept (window_taken k.seconds last) last x.window))
            (oldest_more s _ (run_in log)
            (more_held.seconds ∙ ap (λ (l : List Second). suc (length l)) h.running.same) ∙
            ap (λ (l : List Second). s ∷ l) (sym h.running.same))
            more_held)

    measures_shows :
        (mode : Mode) →
        mode ≡ mode_in log →
        ShowsAfter x.vehicle (a_second s) log
        (measures x (measured_of x.vehicle mode s) (tallied (out_of x.vehicle mode s) s.speed p.measuring) p)
    unfolding measures logged t_going
    measures_shows mode e =
        subst⁻¹
        (λ (y : Mode).
        ShowsAfter x.vehicle (a_second s) log
        (measures x (measured_of x.vehicle y s) (tallied (out_of x.vehicle y s) s.speed p.measuring) p))
        e
        (on_pick (ShowsAfter x.vehicle (a_second s) log)
        (restarts (tallied (out_of x.vehicle (mode_in log) s) s.speed p.measuring)) _ _
        (λ again.
        subst⁻¹ (λ (k : MeasuringCounts). ShowsAfter x.vehicle (a_second s) log (stepped x (step_five Restarted (with_measuring k p))))
        (restarted_none _ again)
        (five_tells x.vehicle (a_second s) log x.window Restarted (with_measuring no_measuring p)
        (emptied_counted x.vehicle (a_second s) log x.window) refl))
        (λ stays. judged_shows _ (ap (tallied (out_of x.vehicle (mode_in log) s) s.speed) h.running.tally) stays))

module _ (x : Test) (log : List Entry) (q : Shows x.vehicle log x.progress x.window) where
  screen_shows :
      (s : Second) (clear : Stepped) →
      ((x.progress.counted ≡ 0 → 10 < s.speed) → Clean s → ShowsAfter x.vehicle (a_second s) log clear) →
      (y : Screen) →
      Screens x.progress.counted s y →
      ShowsAfter x.vehicle (a_second s) log (in_attempt y x clear)
  unfolding in_attempt logged
  screen_shows s clear taken Waits z = nothing_tells x.vehicle (a_second s) log x.window x.progress q
  screen_shows s clear taken (Flawed n) z =
      voided_tells x.vehicle (a_second s) log x.window n (counted x.progress)
      (uncounted x.vehicle (a_second s) log x.window _ q)
  screen_shows s clear taken Clear z = taken z.0 (record { in_range = z.1; undiluted = z.2 })

  second_at_shows :
      (s : Second) (st : Stage) →
      x.progress.stage ≡ st →
      AtStage st x.vehicle log x.progress x.last →
      ShowsAfter x.vehicle (a_second s) log (second_at st x s)
  unfolding second_at measured settles logged
  second_at_shows s NotBegun e h = absurd h
  second_at_shows s Settling e h =
      screen_shows s _
      (λ fast clean. settles_tells x.vehicle (a_second s) log x.window x.progress.mode s (counted x.progress) q)
      _ (screened_exactly x.progress.counted s)
  second_at_shows s Measuring e h =
      screen_shows s _
      (λ fast clean. measures_shows x log s (counted x.progress) (takes x log s e h fast clean) q x.progress.mode h.told.mode)
      _ (screened_exactly x.progress.counted s)
  second_at_shows s Rest e h = rested_tells x.vehicle (a_second s) log x.window _ x.progress q
  second_at_shows s (Ended w) e h = q

  step_shows : (i : Input) → Stands x.vehicle log x → ShowsAfter x.vehicle i log (step x i)
  unfolding second stop logged
  step_shows (a_second s) h = second_at_shows s x.progress.stage refl h.stage
  step_shows (a_stop n) h =
      on_pick (ShowsAfter x.vehicle (a_stop n) log) _ _ _
      (λ _. on_pick (ShowsAfter x.vehicle (a_stop n) log) _ _ _
      (λ _. stop_tells x.vehicle (a_stop n) log x.window n _ x.progress q)
      (λ _. q))
      (λ _. q)

-- After every list of inputs.
shows : (v : Vehicle) (l : List Input) → Shows v (log_of v l) (replay v l).progress (replay v l).window
unfolding log_of replay run_in
shows v [] = none_held v _ _
shows v (i ∷ l) =
    let h : Stands v (log_of v l) (replay v l) = stands v l in
    subst (λ (w : Vehicle). ShowsAfter w i (log_of v l) (step (replay v l) i)) h.vehicle
    (step_shows (replay v l) (log_of v l)
    (subst⁻¹ (λ (w : Vehicle). Shows w (log_of v l) (replay v l).progress (replay v l).window) h.vehicle (shows v l))
    i
    (subst⁻¹ (λ (w : Vehicle). Stands w (log_of v l) (replay v l)) h.vehicle h))

-- A run with a valid window has ten seconds in the last one, and a run without has none.
some_ten : (v : Vehicle) (mode : Mode) (l : List Second) → some_valid v mode l ≡ true → length (last_valid v mode l) ≡ 10
unfolding some_valid last_valid
some_ten v mode [] e = absurd (true≢false (sym e))
some_ten v mode (s ∷ l) e =
    on_pick (λ (r : List Second). length r ≡ 10) (valid_here v mode (s ∷ l)) _ _
    (λ f. length-take-le 10 (s ∷ l) (valid_ten v mode (s ∷ l) f))
    (λ f. some_ten v mode l (sym (ap (λ (b : Bool). b || some_valid v mode l) f) ∙ e))

none_none : (v : Vehicle) (mode : Mode) (l : List Second) → some_valid v mode l ≡ false → last_valid v mode l ≡ []
unfolding some_valid last_valid
none_none v mode [] e = refl
none_none v mode (s ∷ l) e =
    on_pick (λ (r : List Second). r ≡ []) (valid_here v mode (s ∷ l)) _ _
    (λ f. absurd (true≢false (sym (ap (λ (b : Bool). b || some_valid v mode l) f) ∙ e)))
    (λ f. none_none v mode l (sym (ap (λ (b : Bool). b || some_valid v mode l) f) ∙ e))

-- Seconds taken from clean ones are clean, and so are those of a run's last valid window.
clean_take : (n : ℕ) (l : List Second) → AllClean l → AllClean (take n l)
clean_take zero l h = no_second
clean_take (suc n) [] h = h
clean_take (suc n) (s ∷ l) (and_clean c h) = and_clean c (clean_take n l h)

clean_last : (v : Vehicle) (mode : Mode) (l : List Second) → AllClean l → AllClean (last_valid v mode l)
unfolding last_valid
clean_last v mode [] h = h
clean_last v mode (s ∷ l) (and_clean c h) =
    on_pick AllClean _ _ _ (λ _. clean_take 10 (s ∷ l) (and_clean c h)) (λ _. clean_last v mode l h)

-- Without a window none is shown, and no engine speed, whatever the test's state.
none_shown : (x : Test) → x.progress.measuring.kept ≡ false → last_window x ≡ None
unfolding last_window pick
none_shown x e = rw e

unshown : (x : Test) → last_window x ≡ None → engine_shown x ≡ None
unfolding engine_shown
unshown x e = rw e

pub absent_shown : (x : Test) → x.progress.measuring.kept ≡ false → engine_shown x ≡ None
absent_shown x e = unshown x (none_shown x e)

window_shown_lem : (x : Test) → x.progress.measuring.kept ≡ true → last_window x ≡ Some x.window
unfolding last_window pick
window_shown_lem x e = rw e

module _ (v : Vehicle) (log : List Entry) (x : Test) (h : Shows v log x.progress x.window) where
  none_told : some_valid v (mode_in log) (run_in log) ≡ false → (last_window x ≡ None) × (engine_shown x ≡ None)
  none_told e = (none_shown x (h.kept ∙ e), absent_shown x (h.kept ∙ e))

  some_told : some_valid v (mode_in log) (run_in log) ≡ true → WindowTold v log x
  unfolding engine_shown
  some_told e =
      let w : last_window x ≡ Some (map (measured_of v (mode_in log)) (last_valid_in v log)) = window_shown_lem x (h.kept ∙ e) ∙ ap Some (h.held e) in
      record {
        ten = some_ten v (mode_in log) (run_in log) e;
        window = w;
        engine =
            subst⁻¹ (λ (m : Option (List window.Measured)). EngineTold (last_valid_in v log) (option_and_then engine_speed_of m)) w
            (engine_exactly v (mode_in log) (last_valid_in v log));
        clean = clean_last v (mode_in log) (run_in log) h.clean;
      }

  sheet_of_lem : SheetTold v log x
  sheet_of_lem = record {
    seconds = h.seconds;
    none = go_none (some_valid v (mode_in log) (run_in log)) refl;
    some = go_some (some_valid v (mode_in log) (run_in log)) refl;
  }
    where
      go_none :
          (b : Bool) →
          some_valid v (mode_in log) (run_in log) ≡ b →
          last_valid_in v log ≡ [] →
          (last_window x ≡ None) × (engine_shown x ≡ None)
      go_none true e f = let t = some_ten v (mode_in log) (run_in log) e in let z : length (last_valid_in v log) ≡ 0 = ap length f in absurd (omega arith)
      go_none false e f = none_told e

      go_some : (b : Bool) → some_valid v (mode_in log) (run_in log) ≡ b → (last_valid_in v log ≡ [] → ⊥) → WindowTold v log x
      go_some true e f = some_told e
      go_some false e f = absurd (f (none_none v (mode_in log) (run_in log) e))

-- The sheet, after every list of inputs.
pub sheet_told : (v : Vehicle) (l : List Input) → SheetTold v (log_of v l) (replay v l)
sheet_told v l = sheet_of_lem v (log_of v l) (replay v l) (shows v l)

-- Seconds of a list of seconds that all have their engine speed.
present_drop : (n : ℕ) (l : List Second) → AllPresent l → AllPresent (drop n l)
present_drop zero l h = h
present_drop (suc n) [] h = h
present_drop (suc n) (s ∷ l) h = present_drop n l h.1

present_take : (n : ℕ) (l : List Second) → AllPresent l → AllPresent (take n l)
present_take zero l h = tt
present_take (suc n) [] h = h
present_take (suc n) (s ∷ l) h = (h.0, present_take n l h.1)

present_last : (v : Vehicle) (mode : Mode) (l : List Second) → AllPresent l → AllPresent (last_valid v mode l)
unfolding last_valid
present_last v mode [] h = h
present_last v mode (s ∷ l) h =
    on_pick AllPresent (valid_here v mode (s ∷ l)) _ _ (λ _. present_take 10 (s ∷ l) h) (λ _. present_last v mode l h.1)

present_logged :
    (i : Input) (l : List Input) (a : Result Told Refusal) (log : List Entry) →
    AllPresentIn (i ∷ l) →
    AllPresent (run_in log) →
    AllPresent (run_in (logged i a log))
unfolding logged run_in oldest with_input
present_logged (a_second s) l (Ok told) log h k =
    present_drop (suc (length (run_in log)) - t_after told.did told.next (length (run_in log))) (s ∷ run_in log) (h.0, k)
present_logged (a_stop n) l (Ok told) log h k =
    present_drop (length (run_in log) - t_after told.did told.next (length (run_in log))) (run_in log) k
present_logged i l (Err r) log h k = k

others_present : (i : Input) (l : List Input) → AllPresentIn (i ∷ l) → AllPresentIn l
others_present (a_second s) l h = h.1
others_present (a_stop n) l h = h

present_run : (v : Vehicle) (l : List Input) → AllPresentIn l → AllPresent (run_in (log_of v l))
unfolding log_of run_in
present_run v [] h = tt
present_run v (i ∷ l) h = present_logged i l _ (log_of v l) h (present_run v l (others_present i l h))

-- Where no engine speed is missing and there is a window, a number is shown.
pub present_shown :
    (v : Vehicle) (l : List Input) →
    AllPresentIn l →
    IsSome (last_window (replay v l)) →
    (n : ℕ) × (engine_shown (replay v l) ≡ Some n)
present_shown v l h e =
    go (engine_shown (replay v l)) refl
    (some_told v (log_of v l) (replay v l) (shows v l) (valid (some_valid v (mode_in (log_of v l)) (run_in (log_of v l))) refl)).engine
  where
    valid :
        (b : Bool) →
        some_valid v (mode_in (log_of v l)) (run_in (log_of v l)) ≡ b →
        some_valid v (mode_in (log_of v l)) (run_in (log_of v l)) ≡ true
    valid true f = f
    valid false f = absurd (true≢false (sym e ∙ ap is_some (none_told v (log_of v l) (replay v l) (shows v l) f).0))

    go :
        (y : Option ℕ) →
        engine_shown (replay v l) ≡ y →
        EngineTold (last_valid_in v (log_of v l)) (engine_shown (replay v l)) →
        (n : ℕ) × (engine_shown (replay v l) ≡ Some n)
    go (Some n) f t = (n, f)
    go None f t =
        absurd
        (subst (EngineTold (last_valid_in v (log_of v l))) f t
        (present_last v (mode_in (log_of v l)) (run_in (log_of v l)) (present_run v l h)))
