-- A measured second leaves all that holds of a test standing, and a pass is earned. Assumes nothing.
use Prim.Native.Nat.{ℕ, suc, ◌+◌, ◌-◌, ◌≤◌, ◌<◌}
use native.Mathlib.Omega.{arith}
use mathlib.Core.Bool.{Bool, true, false}
use mathlib.Core.Path.{◌≡◌, refl, sym, ap, ◌∙◌, subst, subst⁻¹}
use mathlib.Core.List.{List, [], ◌∷◌, map}
use mathlib.Core.Logic.{◌⊎◌, inl, inr}
use lib.Dec.{eqb}
use lib.ListN.{length, take}
use lib.Seq.{take-take}
use borrow.Author.Tests.{eqb-false}
use Rattle.refusal.proofs.Picked.{on_pick}
use Rattle.reading.specs.declared.Second.{Second}
use Rattle.vehicle.specs.declared.Vehicle.{Vehicle}
use Rattle.vehicle.specs.declared.Mode.{Mode}
use Rattle.window.specs.declared.Measured as window
use Rattle.window.specs.Measuring.{measured_of}
use Rattle.loaded_test.specs.declared.Word.TheVariants.{Pass}
use Rattle.loaded_test.specs.declared.Verdict.{Verdict}
use Rattle.loaded_test.specs.declared.Did.TheVariants.{Measured, Restarted, Voided}
use Rattle.loaded_test.specs.declared.Next.TheVariants.{GoesOn}
use Rattle.loaded_test.specs.declared.Stage.{Stage}
use Rattle.loaded_test.specs.declared.Stage.TheVariants.{Measuring}
use Rattle.attempt.specs.declared.WindowCounts.{WindowCounts}
use Rattle.attempt.specs.declared.MeasuringCounts.{MeasuringCounts}
use Rattle.loaded_test.specs.declared.Progress.{Progress}
use Rattle.loaded_test.specs.declared.Turn.{Turn}
use Rattle.attempt.specs.declared.Ending.{Ending}
use Rattle.attempt.specs.declared.Ending.TheVariants.{NotYet, Passes}
use Rattle.loaded_test.specs.declared.Test.{Test}
use Rattle.loaded_test.specs.State.{turn, with_counted, with_measuring, stepped, stepped_with}
use Rattle.loaded_test.specs.Voids.{ended, step_five}
use Rattle.attempt.specs.Speeds.{speed_at, first_ten, all_held, speed_held, SpeedHeld}
use Rattle.attempt.specs.Measuring.{no_measuring, tallied, window_ends, window_counted, restarts}
use Rattle.attempt.specs.Counting.{row_of, all_of}
use Rattle.attempt.specs.Laws.{RuleSays}
use Rattle.loaded_test.specs.Measuring.{closed, concluded, window_taken, window_judged, judged, measures}
use Rattle.loaded_test.specs.Windows.{out_of, out_row, longest_out, out_all, passing_in, failing_in, invalid_in, speeds_of, ending_of}
use Rattle.loaded_test.specs.Log.{Entry, Input, a_second, logged}
use Rattle.loaded_test.specs.Claim.{mode_after, mode_in, voids, InAttempt, goes_on, Measures, none, more, Clean, AllClean, no_second, and_clean, attempt_in, NotYetIn, NotEndedIn}
use Rattle.loaded_test.specs.Sheet.{t_going, t_after, run_in}
use Rattle.loaded_test.specs.Laws.{Bounded, VerdictAccounted}
use Rattle.loaded_test.proofs.Runs.{oldest_none, oldest_more}
use Rattle.loaded_test.proofs.Counting.{Counts, attempt_goes}
use Rattle.loaded_test.proofs.Holding.{settling_most, some_valid, tally_of, Told, Open, Running, AtStage, Good, Kept}
use Rattle.loaded_test.proofs.Voiding.{going_ends_not, same_end, fail_pass, incomplete_pass, silent, mode_ended_lem, voided_good, five_good}
use Rattle.loaded_test.proofs.Approach.{told_on}
use Rattle.std.proofs.lemmas.Bool.{or_parts}
use Rattle.attempt.proofs.Most.{row_most, all_most}
use Rattle.loaded_test.proofs.Tally.{pushed, tally_more, windows_more}
use Rattle.attempt.proofs.Ruled.{on_ending, ruled_exactly}
use Rattle.attempt.proofs.Speeds.{held_exactly}
use Rattle.attempt.proofs.Runs.{restarted_none}

-- A run's seconds stand in an attempt.
attempt_of : {l : List Second} {log : List Entry} → Measures l log → InAttempt log
unfolding voids
attempt_of (none a) = a
attempt_of (more input did next m) = goes_on (ap voids did) next (attempt_of m)

measured_voids_not : (t n : ℕ) → Measured t ≡ Voided n → ⊥
measured_voids_not t n e = let z : ◌≡◌ {A = ℕ} 0 1 = cc in omega arith

-- The ending rule in numbers, at a pass.
abbrev Ended : ℕ → List Second → Type 0
Ended t l = (t ≡ 90) ⊎ ((25 ≤ t) × SpeedHeld (speeds_of l))

in_numbers :
    (t : ℕ) (l : List Second) →
    (t ≡ 90) ⊎ ((25 ≤ t) × (speed_held (speeds_of l) ≡ true)) →
    Ended t l
in_numbers t l (inl e) = inl e
in_numbers t l (inr h) = inr (h.0, (held_exactly _).0 h.1)

ended_least : (t : ℕ) (l : List Second) → Ended t l → 25 ≤ t
ended_least t l (inl e) = omega arith
ended_least t l (inr h) = h.0

-- The seconds at which the rule says nothing, in numbers.
not_ended_lem : (v : Vehicle) (mode : Mode) (l : List Second) → NotYetIn v mode l → NotEndedIn v mode l
unfolding ending_of
not_ended_lem v mode [] h = tt
not_ended_lem v mode (s ∷ l) h =
    let k : WindowCounts = record { passing = passing_in v mode (s ∷ l); failing = failing_in v mode (s ∷ l); invalid = invalid_in v mode (s ∷ l) } in
    let says = subst (RuleSays (length (s ∷ l)) k (speed_held (speeds_of (s ∷ l)))) h.0 (ruled_exactly (length (s ∷ l)) k _) in
    (says.0, λ least enough held. says.1 least enough ((held_exactly _).1 held), not_ended_lem v mode l h.1)

-- A second that measuring takes: c has grown, and the second is neither over range nor diluted.
pub record Takes (v : Vehicle) (log : List Entry) (s : Second) (p : Progress) (last : List window.Measured) : Type 0 where
  pub stage : p.stage ≡ Measuring
  pub told : Told log p.mode p.voids
  pub bounds : Open (with_counted 0 p)
  pub most : p.counted ≤ 145
  pub running : Running v log p last
  pub unspoilt : Clean s
  pub counting : Counts (a_second s ∷ attempt_in log) p.counted

module _
    (v : Vehicle) (log : List Entry) (s : Second) (p : Progress) (last : List window.Measured)
    (h : Takes v log s p last)
  where
    pub short : length h.running.run ≤ 89
    unfolding tally_of
    short =
        let e : p.measuring.seconds ≡ length h.running.run = ap (λ (k : MeasuringCounts). k.seconds) h.running.tally in
        let b : p.measuring.seconds ≤ 89 = h.bounds.measured in
        omega arith

    -- The counts of the run, from those of the state.
    before :
        (out_row v (mode_in log) h.running.run ≤ 2) ×
        (out_all v (mode_in log) h.running.run ≤ 5) ×
        (passing_in v (mode_in log) h.running.run + failing_in v (mode_in log) h.running.run + invalid_in v (mode_in log) h.running.run ≡
        length h.running.run - 9)
    unfolding tally_of
    before =
        let r : p.measuring.row ≡ out_row v (mode_in log) h.running.run = ap (λ (k : MeasuringCounts). k.row) h.running.tally in
        let a : p.measuring.all ≡ out_all v (mode_in log) h.running.run = ap (λ (k : MeasuringCounts). k.all) h.running.tally in
        let o = h.bounds in (
          omega arith,
          omega arith,
          subst (λ (k : MeasuringCounts). k.windows.passing + k.windows.failing + k.windows.invalid ≡ k.seconds - 9) h.running.tally o.windows,
        )

    -- The windows of the run with this second.
    windows_here :
        passing_in v (mode_in log) (s ∷ h.running.run) + failing_in v (mode_in log) (s ∷ h.running.run) + invalid_in v (mode_in log) (s ∷ h.running.run) ≡
        suc (length h.running.run) - 9
    windows_here =
        windows_more v (mode_in log) s h.running.run last h.running.old h.running.held short before.0 before.1 before.2

    module _
        (row : out_row v (mode_in log) (s ∷ h.running.run) < 3)
        (few : out_all v (mode_in log) (s ∷ h.running.run) < 6)
      where
        -- The counts of the run and this second are within their bounds.
        bounded : Bounded (with_measuring (tally_of v (mode_in log) (s ∷ h.running.run)) p)
        unfolding tally_of
        bounded =
            let w = windows_here in
            let m = settling_most p.mode in
            let n = short in
            let b = h.bounds in
            let c = h.most in
            let r = h.told in
            omega arith

        rows : longest_out v (mode_in log) (s ∷ h.running.run) < 3
        unfolding longest_out
        rows = let r = h.running.rows in omega arith

        clean : AllClean (s ∷ h.running.run)
        clean = and_clean h.unspoilt h.running.clean

        -- The rule says nothing: the run has one second more.
        goes_on_lem :
            ending_of v (mode_in log) (s ∷ h.running.run) ≡ NotYet →
            (suc (length h.running.run) ≡ 90 → ⊥) →
            p.counted ≤ 144 →
            Good v (a_second s) log (take 10 (measured_of v (mode_in log) s ∷ last))
            (turn (Measured (suc (length h.running.run))) GoesOn (with_measuring (tally_of v (mode_in log) (s ∷ h.running.run)) p))
        unfolding voids mode_in mode_after tally_of run_in t_after t_going
        goes_on_lem e ninety c =
            let b = bounded in
            let n = short in
            let o = h.bounds in
            let w = windows_here in
            record {
              stage =
                  subst⁻¹
                  (λ (x : Stage).
                  AtStage x v (record { input = a_second s; did = Measured (suc (length h.running.run)); next = GoesOn } ∷ log)
                  (with_measuring (tally_of v (mode_in log) (s ∷ h.running.run)) p)
                  (take 10 (measured_of v (mode_in log) s ∷ last)))
                  h.stage
                  (record {
                    told = told_on (a_second s) log (Measured (suc (length h.running.run))) refl h.told;
                    bounds = omega arith;
                    running = record {
                      run = s ∷ h.running.run;
                      old = h.running.old;
                      measures = more refl refl refl h.running.measures;
                      same =
                          ap (λ (l : List Second). s ∷ l) h.running.same ∙
                          sym (oldest_more s (suc (length h.running.run)) (run_in log) (ap (λ (l : List Second). suc (length l)) h.running.same));
                      started = h.running.started;
                      tally = refl;
                      held =
                          take-take 10 10 (measured_of v (mode_in log) s ∷ last) (omega arith) ∙
                          pushed (measured_of v (mode_in log) s) last (map (measured_of v (mode_in log)) h.running.run) h.running.old h.running.held;
                      clean = clean;
                      rows = rows;
                      few = few;
                      not_yet = (e, h.running.not_yet);
                    };
                    counting = attempt_goes (a_second s) (Measured (suc (length h.running.run))) log _ h.counting;
                  });
              claims =
                  silent v (a_second s) log
                  (turn (Measured (suc (length h.running.run))) GoesOn (with_measuring (tally_of v (mode_in log) (s ∷ h.running.run)) p))
                  refl
                  going_ends_not;
            }

        -- A pass is earned.
        passes :
            ending_of v (mode_in log) (s ∷ h.running.run) ≡ Passes →
            15 ≤ passing_in v (mode_in log) (s ∷ h.running.run) →
            Ended (suc (length h.running.run)) (s ∷ h.running.run) →
            Good v (a_second s) log (take 10 (measured_of v (mode_in log) s ∷ last))
            (ended (Measured (suc (length h.running.run))) Pass p.voids (with_measuring (tally_of v (mode_in log) (s ∷ h.running.run)) p))
        unfolding tally_of
        passes e enough ends =
            let b = bounded in
            let least : 25 ≤ suc (length h.running.run) = ended_least _ (s ∷ h.running.run) ends in
            let n = short in
            record {
              stage = omega arith;
              claims = record {
                pass = λ t passing failing invalid q.
                    let et = ap (λ (x : Verdict). x.t) (same_end q) in
                    let ep = ap (λ (x : Verdict). x.passing) (same_end q) in
                    let ef = ap (λ (x : Verdict). x.failing) (same_end q) in
                    let ei = ap (λ (x : Verdict). x.invalid) (same_end q) in
                    record {
                      last = s;
                      before = h.running.run;
                      is_second = refl;
                      is_measured = ap Measured et;
                      number = sym et;
                      measured = h.running.measures;
                      unvoided = h.counting.unvoided;
                      least = omega arith;
                      most = omega arith;
                      clean = clean;
                      rows = rows;
                      few = few;
                      rule = e;
                      not_before = h.running.not_yet;
                      ending = subst (λ (x : ℕ). Ended x (s ∷ h.running.run)) et ends;
                      not_ended = not_ended_lem v (mode_in log) h.running.run h.running.not_yet;
                      passes = sym ep;
                      fails = sym ef;
                      invalids = sym ei;
                      enough = omega arith;
                    };
                void = λ n e. absurd (measured_voids_not _ n e);
                incomplete = λ w. absurd (incomplete_pass (sym (ap (λ (x : Verdict). x.word) (same_end w.1) ∙ w.2)));
                fail = λ y e w. absurd (fail_pass (sym (ap (λ (x : Verdict). x.word) (same_end e) ∙ w)));
                accounted = λ y e. subst VerdictAccounted (same_end e) b.accounted;
              };
            }

        -- The ending rule on the run with this second.
        concluded_good :
            Good v (a_second s) log (take 10 (measured_of v (mode_in log) s ∷ last))
            (concluded (tally_of v (mode_in log) (s ∷ h.running.run)) p)
        unfolding concluded closed tally_of ending_of
        concluded_good =
            on_ending
            (λ (r : Ending).
            ending_of v (mode_in log) (s ∷ h.running.run) ≡ r →
            Good v (a_second s) log (take 10 (measured_of v (mode_in log) s ∷ last))
            (closed r (with_measuring (tally_of v (mode_in log) (s ∷ h.running.run)) p)))
            (suc (length h.running.run))
            (record {
              passing = passing_in v (mode_in log) (s ∷ h.running.run);
              failing = failing_in v (mode_in log) (s ∷ h.running.run);
              invalid = invalid_in v (mode_in log) (s ∷ h.running.run);
            })
            (speed_held (speeds_of (s ∷ h.running.run)))
            (λ enough ends e. passes e enough (in_numbers _ (s ∷ h.running.run) ends))
            (λ ninety few' enough e.
            mode_ended_lem v (a_second s) log _ p.mode (Measured (suc (length h.running.run))) p.voids
            (with_measuring (tally_of v (mode_in log) (s ∷ h.running.run)) p)
            h.told.mode
            (let b = bounded in omega arith)
            (λ n q. absurd (measured_voids_not _ n q))
            (inr (ninety, few', enough)))
            (λ ninety few' less e. voided_good v (a_second s) log _ 9 (with_measuring (tally_of v (mode_in log) (s ∷ h.running.run)) p) h.told bounded)
            (λ ninety early e.
            five_good v (a_second s) log _ (Measured (suc (length h.running.run)))
            (with_measuring (tally_of v (mode_in log) (s ∷ h.running.run)) p)
            h.told
            bounded
            (λ c. goes_on_lem e ninety c))
            refl

    -- At u = 3 or w = 6 the run is empty again, and the attempt goes on.
    restart_goes :
        p.counted ≤ 144 → Good v (a_second s) log last (turn Restarted GoesOn (with_measuring no_measuring p))
    unfolding voids tally_of out_row longest_out out_all row_of all_of passing_in failing_in invalid_in speed_at first_ten all_held speed_held some_valid run_in t_after t_going
    restart_goes c =
        let o = h.bounds in
        record {
          stage =
              subst⁻¹
              (λ (x : Stage).
              AtStage x v (record { input = a_second s; did = Restarted; next = GoesOn } ∷ log) (with_measuring no_measuring p) last)
              h.stage
              (record {
                told = told_on (a_second s) log Restarted refl h.told;
                bounds = omega arith;
                running = record {
                  run = [];
                  old = last;
                  measures = none (goes_on refl refl (attempt_of h.running.measures));
                  same = sym (oldest_none _);
                  started = h.running.started;
                  tally = refl;
                  held = refl;
                  clean = no_second;
                  rows = omega arith;
                  few = omega arith;
                  not_yet = tt;
                };
                counting = attempt_goes (a_second s) Restarted log _ h.counting;
              });
          claims = silent v (a_second s) log (turn Restarted GoesOn (with_measuring no_measuring p)) refl going_ends_not;
        }

    restart_good : Good v (a_second s) log last (step_five Restarted (with_measuring no_measuring p))
    restart_good =
        five_good v (a_second s) log last Restarted (with_measuring no_measuring p) h.told
        (let o = h.bounds in let c = h.most in let m = settling_most p.mode in let r = h.told in omega arith)
        restart_goes

    module _
        (k : MeasuringCounts)
        (counts : k ≡ tallied (out_of v (mode_in log) s) s.speed (tally_of v (mode_in log) h.running.run))
        (stays : restarts k ≡ false)
      where
        -- Short of a restart u is below 3 and w below 6.
        few_out : (k.row < 3) × (k.all < 6)
        unfolding tallied tally_of
        few_out =
            let b = before in
            let r : k.row ≤ 3 = subst⁻¹ (λ (x : MeasuringCounts). x.row ≤ 3) counts (row_most 2 _ _ b.0) in
            let a : k.all ≤ 6 = subst⁻¹ (λ (x : MeasuringCounts). x.all ≤ 6) counts (all_most 5 _ _ b.1) in
            let f : k.row ≡ 3 → ⊥ = eqb-false _ _ (or_parts (eqb k.row 3) (eqb k.all 6) stays).0 in
            let g : k.all ≡ 6 → ⊥ = eqb-false _ _ (or_parts (eqb k.row 3) (eqb k.all 6) stays).1 in
            (omega arith, omega arith)

        -- The ending rule, on counts that are those of the run and this second.
        counted_good :
            (c : MeasuringCounts) →
            c ≡ tally_of v (mode_in log) (s ∷ h.running.run) →
            c.row ≡ k.row →
            c.all ≡ k.all →
            Good v (a_second s) log (take 10 (measured_of v (mode_in log) s ∷ last)) (concluded c p)
        unfolding tally_of
        counted_good c e row all =
            let f = few_out in
            let r : c.row ≡ out_row v (mode_in log) (s ∷ h.running.run) = ap (λ (x : MeasuringCounts). x.row) e in
            let a : c.all ≡ out_all v (mode_in log) (s ∷ h.running.run) = ap (λ (x : MeasuringCounts). x.all) e in
            subst⁻¹ (λ (x : MeasuringCounts). Good v (a_second s) log (take 10 (measured_of v (mode_in log) s ∷ last)) (concluded x p)) e
            (concluded_good (omega arith) (omega arith))

        -- The window that ends here is counted.
        pub judged_counts :
            window_judged (window_taken k.seconds (take 10 (measured_of v (mode_in log) s ∷ last))) v (take 10 (measured_of v (mode_in log) s ∷ last)) k ≡
            tally_of v (mode_in log) (s ∷ h.running.run)
        unfolding window_judged tallied tally_of
        judged_counts =
            ap
            (λ (x : MeasuringCounts).
            window_judged (window_taken x.seconds (take 10 (measured_of v (mode_in log) s ∷ last))) v
            (take 10 (measured_of v (mode_in log) s ∷ last)) x)
            counts ∙
            tally_more v (mode_in log) s h.running.run last h.running.old h.running.held short before.0 before.1 before.2

        judged_out :
            (valid : Bool) (a : List window.Measured) →
            ((window_judged valid v a k).row ≡ k.row) × ((window_judged valid v a k).all ≡ k.all)
        unfolding window_judged window_counted
        judged_out valid a =
            on_pick (λ (c : MeasuringCounts). (c.row ≡ k.row) × (c.all ≡ k.all)) (window_ends k.seconds) _ _ (λ _. (refl, refl)) (λ _. (refl, refl))

        judged_turn :
            Good v (a_second s) log (take 10 (measured_of v (mode_in log) s ∷ last))
            (concluded
            (window_judged (window_taken k.seconds (take 10 (measured_of v (mode_in log) s ∷ last))) v
            (take 10 (measured_of v (mode_in log) s ∷ last)) k) p)
        judged_turn = counted_good _ judged_counts (judged_out _ _).0 (judged_out _ _).1

-- What a good turn leaves standing.
pub kept_turn :
    (v : Vehicle) (i : Input) (log : List Entry) (last window : List window.Measured) (x : Turn) →
    Good v i log last x →
    Kept v i log (stepped_with v last window x)
unfolding logged
kept_turn v i log last window x g = record { vehicle = refl; stage = g.stage; claims = g.claims }

-- A measured second of a test.
module _
    (x : Test) (log : List Entry) (s : Second) (p : Progress) (h : Takes x.vehicle log s p x.last)
  where
    judged_good :
        (k : MeasuringCounts) →
        k ≡ tallied (out_of x.vehicle (mode_in log) s) s.speed (tally_of x.vehicle (mode_in log) h.running.run) →
        restarts k ≡ false →
        Kept x.vehicle (a_second s) log
        (judged (window_taken k.seconds (take 10 (measured_of x.vehicle (mode_in log) s ∷ x.last))) x k p
        (take 10 (measured_of x.vehicle (mode_in log) s ∷ x.last)))
    unfolding judged
    judged_good k counts stays =
        kept_turn x.vehicle (a_second s) log _ _ _ (judged_turn x.vehicle log s p x.last h k counts stays)

    pub measures_good :
        (mode : Mode) →
        mode ≡ mode_in log →
        Kept x.vehicle (a_second s) log
        (measures x (measured_of x.vehicle mode s) (tallied (out_of x.vehicle mode s) s.speed p.measuring) p)
    unfolding measures
    measures_good mode e =
        subst⁻¹
        (λ (y : Mode).
        Kept x.vehicle (a_second s) log
        (measures x (measured_of x.vehicle y s) (tallied (out_of x.vehicle y s) s.speed p.measuring) p))
        e
        (on_pick (Kept x.vehicle (a_second s) log) (restarts (tallied (out_of x.vehicle (mode_in log) s) s.speed p.measuring)) _ _
        (λ again.
        subst⁻¹ (λ (k : MeasuringCounts). Kept x.vehicle (a_second s) log (stepped x (step_five Restarted (with_measuring k p))))
        (restarted_none _ again)
        (kept_turn x.vehicle (a_second s) log x.last x.window _ (restart_good x.vehicle log s p x.last h)))
        (λ stays. judged_good _ (ap (tallied (out_of x.vehicle (mode_in log) s) s.speed) h.running.tally) stays))
