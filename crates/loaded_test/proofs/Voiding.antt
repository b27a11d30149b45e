-- A void, the end of a mode and step 5 leave all that holds of a test standing. Assumes nothing.
use Prim.Native.Nat.{ℕ, suc, ◌≤◌, ◌<◌}
use native.Mathlib.Omega.{arith}
use mathlib.Core.Bool.{true, false, true≢false}
use mathlib.Core.Path.{◌≡◌, refl, sym, ap, ◌∙◌, subst}
use mathlib.Core.List.{List, ◌∷◌}
use mathlib.Core.Logic.{◌⊎◌, inl}
use lib.Dec.{eqb}
use lib.ListN.{length}
use borrow.Author.Tests.{eqb-true, eqb-false}
use Rattle.refusal.proofs.Picked.{on_pick}
use Rattle.vehicle.specs.declared.Vehicle.{Vehicle}
use Rattle.vehicle.specs.declared.Mode.{Mode}
use Rattle.vehicle.specs.declared.Mode.TheVariants.{One, Two}
use Rattle.window.specs.declared.Measured.{Measured}
use Rattle.loaded_test.specs.declared.Word.TheVariants.{Pass, Fail, Incomplete}
use Rattle.loaded_test.specs.declared.Verdict.{Verdict}
use Rattle.loaded_test.specs.declared.Did.{Did}
use Rattle.loaded_test.specs.declared.Did.TheVariants.{Voided}
use Rattle.loaded_test.specs.declared.Next.TheVariants.{GoesOn, Rests, ModeTwo, Ends}
use Rattle.loaded_test.specs.declared.Stage.TheVariants.{Rest}
use Rattle.loaded_test.specs.declared.VoidCounts.{VoidCounts}
use Rattle.loaded_test.specs.declared.Progress.{Progress}
use Rattle.loaded_test.specs.declared.Turn.{Turn}
use Rattle.loaded_test.specs.State.{emptied, turn, with_verdict, verdict_of}
use Rattle.attempt.specs.Counting.{bump, in_row}
use Rattle.loaded_test.specs.Voids.{ended, mode_ended, void_counted, void_next, twice_inconclusive, third_void, void_followed, voided, step_five}
use Rattle.loaded_test.specs.Log.{Entry, Input}
use Rattle.loaded_test.specs.Claim.{mode_after, mode_in, begins, voids, begun}
use Rattle.loaded_test.specs.Laws.{Bounded, void_added, voids_kept, voids_in, nines_in, ModeOver, VerdictAccounted}
use Rattle.loaded_test.proofs.Counting.{attempt_begins}
use Rattle.loaded_test.proofs.Holding.{most_settling, Told, Claims, Good, entry}

pub going_ends_not : (y : Verdict) → GoesOn ≡ Ends y → ⊥
going_ends_not y e = let z : ◌≡◌ {A = ℕ} 0 1 = cc in omega arith

rests_ends_not : (y : Verdict) → Rests ≡ Ends y → ⊥
rests_ends_not y e = let z : ◌≡◌ {A = ℕ} 0 1 = cc in omega arith

two_ends_not : (y : Verdict) → ModeTwo ≡ Ends y → ⊥
two_ends_not y e = let z : ◌≡◌ {A = ℕ} 0 1 = cc in omega arith

pub same_end : {x y : Verdict} → Ends x ≡ Ends y → x ≡ y
same_end e = cc

pub same_void : {m n : ℕ} → Voided m ≡ Voided n → m ≡ n
same_void e = cc

pub fail_pass : Fail ≡ Pass → ⊥
fail_pass e = let z : ◌≡◌ {A = ℕ} 0 1 = cc in omega arith

fail_incomplete : Fail ≡ Incomplete → ⊥
fail_incomplete e = let z : ◌≡◌ {A = ℕ} 0 1 = cc in omega arith

pub incomplete_pass : Incomplete ≡ Pass → ⊥
incomplete_pass e = let z : ◌≡◌ {A = ℕ} 0 1 = cc in omega arith

twice_two : (k : VoidCounts) → twice_inconclusive k ≡ true → k.inconclusive ≡ 2
unfolding twice_inconclusive
twice_two k e = eqb-true _ _ e

once_not_two : (k : VoidCounts) → twice_inconclusive k ≡ false → k.inconclusive ≡ 2 → ⊥
unfolding twice_inconclusive
once_not_two k e = eqb-false _ _ e

third_three : (k : VoidCounts) → third_void k ≡ true → k.voids ≡ 3
unfolding third_void
third_three k e = eqb-true _ _ e

fewer_not_three : (k : VoidCounts) → third_void k ≡ false → k.voids ≡ 3 → ⊥
unfolding third_void
fewer_not_three k e = eqb-false _ _ e

-- Why a mode ends: two inconclusive voids in a row, or failing at t = 90.
abbrev pub Reason : List Entry → Did → Verdict → Type 0
Reason log d x =
    (nines_in (void_added d (voids_in log)) ≡ 2) ⊎ ((x.t ≡ 90) × (x.passing < 15) × (25 ≤ x.failing))

module _ (v : Vehicle) (i : Input) (log : List Entry) where
  -- Nothing is claimed of an entry that voids nothing and ends nothing.
  pub silent :
      (x : Turn) →
      voids x.told.did ≡ false →
      ((y : Verdict) → x.told.next ≡ Ends y → ⊥) →
      Claims v (entry i x ∷ log)
  unfolding voids
  silent x quiet endless = record {
    pass = λ t passing failing invalid e. absurd (endless _ e);
    void = λ n e. absurd (true≢false (sym (ap voids e) ∙ quiet));
    incomplete = λ w. absurd (endless w.0 w.1);
    fail = λ y e w. absurd (endless y e);
    accounted = λ y e. absurd (endless y e);
  }

  module _ (last : List Measured) where
    -- The end of a mode: mode 2 begins, or a fail.
    pub mode_ended_lem :
        (m : Mode) (d : Did) (k : VoidCounts) (p : Progress) →
        m ≡ mode_in log →
        Bounded (with_verdict Fail k p) →
        ((n : ℕ) → d ≡ Voided n → nines_in (n ∷ voids_in log) ≡ 2) →
        Reason log d (verdict_of Fail p.measuring) →
        Good v i log last (mode_ended m d k p)
    unfolding mode_ended mode_in mode_after voids_in voids_kept nines_in begins most_settling
    mode_ended_lem One d k p mode b two reason = record {
      stage = record {
        told = record { mode = refl; voids = refl; nines = refl; voids_left = omega arith; nines_left = omega arith };
        bounds = omega arith;
        attempt = begun refl;
        counting = attempt_begins _ _ refl;
      };
      claims = record {
        pass = λ t passing failing invalid e. absurd (two_ends_not _ e);
        void = λ n e. record {
          two = λ q. subst (λ (x : Mode). ModeOver x ModeTwo) mode refl;
          three = λ q r. absurd (q (two n e));
          fewer = λ q r. absurd (q (two n e));
        };
        incomplete = λ w. absurd (two_ends_not w.0 w.1);
        fail = λ y e w. absurd (two_ends_not y e);
        accounted = λ y e. absurd (two_ends_not y e);
      };
    }
    mode_ended_lem Two d k p mode b two reason = record {
      stage = b;
      claims = record {
        pass = λ t passing failing invalid e. absurd (fail_pass (ap (λ (x : Verdict). x.word) (same_end e)));
        void = λ n e. record {
          two = λ q. subst (λ (x : Mode). ModeOver x (Ends (verdict_of Fail p.measuring))) mode (verdict_of Fail p.measuring, refl, refl);
          three = λ q r. absurd (q (two n e));
          fewer = λ q r. absurd (q (two n e));
        };
        incomplete = λ w. absurd (fail_incomplete (ap (λ (x : Verdict). x.word) (same_end w.1) ∙ w.2));
        fail = λ y e w. (sym mode, subst (λ (x : Verdict). Reason log d x) (same_end e) reason);
        accounted = λ y e. subst VerdictAccounted (same_end e) b.accounted;
      };
    }

    -- "incomplete" at the third void, with q not 2.
    incomplete_told :
        (n : ℕ) (k : VoidCounts) (p : Progress) →
        Bounded (with_verdict Incomplete k p) →
        (nines_in (n ∷ voids_in log) ≡ 2 → ⊥) →
        length (n ∷ voids_in log) ≡ 3 →
        Good v i log last (ended (Voided n) Incomplete k p)
    unfolding void_added
    incomplete_told n k p b nines three = record {
      stage = b;
      claims = record {
        pass = λ t passing failing invalid e. absurd (incomplete_pass (ap (λ (x : Verdict). x.word) (same_end e)));
        void = λ m e. rw (← same_void e) record {
          two = λ q. absurd (nines q);
          three = λ q r. (verdict_of Incomplete p.measuring, refl, refl);
          fewer = λ q r. absurd (r three);
        };
        incomplete = λ w. (three, nines);
        fail = λ y e w. absurd (fail_incomplete (sym (ap (λ (x : Verdict). x.word) (same_end e) ∙ w)));
        accounted = λ y e. subst VerdictAccounted (same_end e) b.accounted;
      };
    }

    -- A rest, with q not 2 and fewer than three voids.
    rests_told :
        (n : ℕ) (k : VoidCounts) (p : Progress) →
        p.mode ≡ mode_in log →
        k.voids ≡ length (n ∷ voids_in log) →
        k.inconclusive ≡ nines_in (n ∷ voids_in log) →
        k.voids ≤ 2 →
        k.inconclusive ≤ 1 →
        Good v i log last (turn (Voided n) Rests (emptied p.mode Rest k))
    unfolding mode_in mode_after voids_in voids_kept void_added
    rests_told n k p mode r q few less = record {
      stage = record {
        told = record { mode = mode; voids = r; nines = q; voids_left = few; nines_left = less };
        bounds = omega arith;
      };
      claims = record {
        pass = λ t passing failing invalid e. absurd (rests_ends_not _ e);
        void = λ m e. rw (← same_void e) record {
          two = λ x. absurd (omega arith);
          three = λ x y. absurd (omega arith);
          fewer = λ x y. refl;
        };
        incomplete = λ w. absurd (rests_ends_not w.0 w.1);
        fail = λ y e w. absurd (rests_ends_not y e);
        accounted = λ y e. absurd (rests_ends_not y e);
      };
    }

    followed :
        (n : ℕ) (k : VoidCounts) (p : Progress) →
        Told log p.mode p.voids →
        Bounded p →
        k.voids ≡ length (n ∷ voids_in log) →
        k.inconclusive ≡ nines_in (n ∷ voids_in log) →
        k.voids ≤ 3 →
        k.inconclusive ≤ 2 →
        Good v i log last (void_followed n k p)
    unfolding void_followed void_next void_added
    followed n k p told b r q most least =
        on_pick (Good v i log last) (twice_inconclusive k) _ _
        (λ e. mode_ended_lem p.mode (Voided n) k p told.mode (omega arith)
        (λ m f. rw (← same_void f) (sym q ∙ twice_two k e))
        (inl (sym q ∙ twice_two k e)))
        (λ e. on_pick (Good v i log last) (third_void k) _ _
        (λ f. incomplete_told n k p (omega arith) (λ x. once_not_two k e (q ∙ x)) (sym r ∙ third_three k f))
        (λ f. let g : k.inconclusive ≡ 2 → ⊥ = once_not_two k e in
        let h : k.voids ≡ 3 → ⊥ = fewer_not_three k f in
        rests_told n k p told.mode r q (omega arith) (omega arith)))

    pub voided_good : (n : ℕ) (p : Progress) → Told log p.mode p.voids → Bounded p → Good v i log last (voided n p)
    unfolding voided void_counted in_row nines_in
    voided_good n p told b =
        let e : bump p.voids.inconclusive ≡ suc (nines_in (voids_in log)) = omega arith in
        followed n (void_counted n p.voids) p told b
        (omega arith)
        (simp e)
        (omega arith)
        (on_pick (λ (x : ℕ). x ≤ 2) (eqb n 9) _ _ (λ _. omega arith) (λ _. omega arith))

    pub five_good :
        (d : Did) (p : Progress) →
        Told log p.mode p.voids →
        Bounded p →
        (p.counted ≤ 144 → Good v i log last (turn d GoesOn p)) →
        Good v i log last (step_five d p)
    unfolding step_five
    five_good d p told b goes =
        on_pick (Good v i log last) (eqb p.counted 145) _ _
        (λ e. voided_good 8 p told b)
        (λ e. let f : p.counted ≡ 145 → ⊥ = eqb-false _ _ e in
        let g : p.counted ≤ 145 = b.counted in
        goes (omega arith))
