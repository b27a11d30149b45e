-- The counts of measuring are those counted from the run's seconds: one more second, with its window. Assumes nothing.
use Prim.Native.Nat.{suc, ◌+◌, ◌-◌, ◌≤◌, min}
use native.Mathlib.Omega.{arith}
use mathlib.Core.Bool.{Bool, true, false, not, ◌&&◌}
use mathlib.Core.Path.{◌≡◌, refl, sym, ap, ◌∙◌, subst}
use mathlib.Core.List.{List, ◌∷◌, ◌++◌, map}
use lib.Dec.{leb}
use lib.ListN.{length, take, length-map}
use lib.Seq.{take-take, take-append-le}
use borrow.Author.Tests.{leb-true, le-leb}
use Rattle.refusal.specs.Choice.{pick}
use Rattle.refusal.proofs.Picked.{on_pick}
use Rattle.reading.specs.declared.Second.{Second}
use Rattle.vehicle.specs.declared.Vehicle.{Vehicle}
use Rattle.vehicle.specs.declared.Mode.{Mode}
use Rattle.window.specs.declared.Measured.{Measured}
use Rattle.window.specs.Measuring.{measured_of, window_valid}
use Rattle.window.specs.Judging.{window_passes}
use Rattle.attempt.specs.Counting.{bump, in_row, in_all, row_of, all_of}
use Rattle.attempt.specs.declared.MeasuringCounts.{MeasuringCounts}
use Rattle.attempt.specs.declared.WindowCounts.{WindowCounts}
use Rattle.attempt.specs.declared.WindowOutcome.TheVariants.{Passing, Failing}
use Rattle.attempt.specs.Measuring.{tallied, one_more, kept_with, window_counted}
use Rattle.attempt.specs.Laws.{AllAccounted}
use Rattle.loaded_test.specs.Measuring.{window_taken, outcome_of, window_judged}
use Rattle.loaded_test.specs.Windows.{out_of, out_row, out_all, window_of, valid_here, passes_here, fails_here, passing_in, failing_in, invalid_here, invalid_in, speeds_of}
use Rattle.loaded_test.proofs.Holding.{some_valid, tally_of}
use Rattle.std.proofs.lemmas.Bool.{and_parts}
use Rattle.attempt.proofs.Windows.{accounted, exactly, one_window_more}
use Rattle.attempt.proofs.Speeds.{first_more, held_more}

-- A valid window has ten seconds.
pub valid_ten : (v : Vehicle) (mode : Mode) (l : List Second) → valid_here v mode l ≡ true → 10 ≤ length l
unfolding valid_here
valid_ten v mode l e = leb-true _ _ (and_parts (leb 10 (length l)) (window_valid (window_of v mode l)) e).0

-- A valid window counted.
valid_more :
    (passes : Bool) (w : WindowCounts) →
    one_more (pick passes Passing Failing) w ≡
    record { passing = in_all passes w.passing; failing = in_all (not passes) w.failing; invalid = w.invalid }
unfolding pick one_more in_all
valid_more true w = refl
valid_more false w = refl

valid_kept : (passes kept : Bool) → kept_with (pick passes Passing Failing) kept ≡ true
unfolding pick kept_with
valid_kept true kept = refl
valid_kept false kept = refl

-- A second pushed onto the last ten.
pub pushed :
    (m : Measured) (last xs old : List Measured) →
    take 10 last ≡ take 10 (xs ++ old) →
    take 10 (m ∷ last) ≡ take 10 ((m ∷ xs) ++ old)
pushed m last xs old held =
    ap (λ (l : List Measured). m ∷ l)
    (sym (take-take 9 10 last (omega arith)) ∙ ap (take 9) held ∙ take-take 9 10 (xs ++ old) (omega arith))

module _
    (v : Vehicle) (mode : Mode) (s : Second) (l : List Second) (last old : List Measured)
    (held : take 10 last ≡ take 10 (map (measured_of v mode) l ++ old))
    (short : length l ≤ 89)
  where
    -- From t = 10 the last ten seconds are the window that ends here.
    window_here : 10 ≤ suc (length l) → take 10 (measured_of v mode s ∷ last) ≡ window_of v mode (s ∷ l)
    unfolding window_of
    window_here h =
        pushed (measured_of v mode s) last (map (measured_of v mode) l) old held ∙
        take-append-le 10 (map (measured_of v mode) (s ∷ l)) old (rw length-map h)

    pub taken_here :
        window_taken (bump (length l)) (take 10 (measured_of v mode s ∷ last)) ≡ valid_here v mode (s ∷ l)
    unfolding window_taken valid_here
    taken_here =
        let e : bump (length l) ≡ suc (length l) = omega arith in
        rw e (go (leb 10 (suc (length l))) refl)
      where
        go :
            (b : Bool) →
            leb 10 (suc (length l)) ≡ b →
            (b && window_valid (take 10 (measured_of v mode s ∷ last))) ≡ (b && window_valid (window_of v mode (s ∷ l)))
        go true e = ap window_valid (window_here (leb-true _ _ e))
        go false e = refl

    pub valid_window :
        valid_here v mode (s ∷ l) ≡ true → take 10 (measured_of v mode s ∷ last) ≡ window_of v mode (s ∷ l)
    valid_window e = window_here (valid_ten v mode (s ∷ l) e)

    module _
        (row : out_row v mode l ≤ 2) (all : out_all v mode l ≤ 5)
        (windows : passing_in v mode l + failing_in v mode l + invalid_in v mode l ≡ length l - 9)
      where
        -- The number of one second more, by which first_more and held_more go.
        number : suc (length l) ≡ min (suc (length (speeds_of l))) 255
        number = let n : length (speeds_of l) ≡ length l = length-map l (λ s. s.speed) in omega arith

        -- One more second, where its window is not valid.
        tally_invalid :
            window_taken (bump (length l)) (take 10 (measured_of v mode s ∷ last)) ≡ false →
            window_counted (outcome_of false v (take 10 (measured_of v mode s ∷ last))) (tallied (out_of v mode s) s.speed (tally_of v mode l)) ≡
            tally_of v mode (s ∷ l)
        unfolding outcome_of tallied window_counted one_more kept_with tally_of in_row in_all out_row out_all row_of all_of passing_in failing_in invalid_here invalid_in some_valid passes_here fails_here pick
        tally_invalid e =
            let h : valid_here v mode (s ∷ l) ≡ false = sym taken_here ∙ e in
            let a : min (length l + 1) 255 ≡ suc (length l) = omega arith in
            let b : min (out_row v mode l + 1) 255 ≡ suc (out_row v mode l) = omega arith in
            let c : min (out_all v mode l + 1) 255 ≡ suc (out_all v mode l) = omega arith in
            let d : min (invalid_in v mode l + 1) 255 ≡ suc (invalid_in v mode l) = omega arith in
            let f = first_more _ s.speed (speeds_of l) number in
            let g = held_more _ s.speed (speeds_of l) number in
            on_pick (λ (k : MeasuringCounts). k ≡ tally_of v mode (s ∷ l)) (leb 10 (bump (length l))) _ _
            (λ t. let j : leb 10 (suc (length l)) ≡ true = ap (leb 10) (sym a) ∙ t in simp (h, j, a, b, c, d, f, g))
            (λ t. let j : leb 10 (suc (length l)) ≡ false = ap (leb 10) (sym a) ∙ t in simp (h, j, a, b, c, f, g))

        -- One more second, where its window is valid.
        tally_valid :
            window_taken (bump (length l)) (take 10 (measured_of v mode s ∷ last)) ≡ true →
            window_counted (outcome_of true v (take 10 (measured_of v mode s ∷ last))) (tallied (out_of v mode s) s.speed (tally_of v mode l)) ≡
            tally_of v mode (s ∷ l)
        unfolding outcome_of tallied window_counted tally_of in_row in_all out_row out_all row_of all_of passing_in failing_in invalid_here invalid_in some_valid passes_here fails_here pick
        tally_valid e =
            let h : valid_here v mode (s ∷ l) ≡ true = sym taken_here ∙ e in
            let w : take 10 (measured_of v mode s ∷ last) ≡ window_of v mode (s ∷ l) = valid_window h in
            let ten : 10 ≤ suc (length l) = valid_ten v mode (s ∷ l) h in
            let t : leb 10 (suc (length l)) ≡ true = le-leb _ _ ten in
            let a : min (length l + 1) 255 ≡ suc (length l) = omega arith in
            let b : min (out_row v mode l + 1) 255 ≡ suc (out_row v mode l) = omega arith in
            let c : min (out_all v mode l + 1) 255 ≡ suc (out_all v mode l) = omega arith in
            let d : min (passing_in v mode l + 1) 255 ≡ suc (passing_in v mode l) = omega arith in
            let f : min (failing_in v mode l + 1) 255 ≡ suc (failing_in v mode l) = omega arith in
            let g = first_more _ s.speed (speeds_of l) number in
            let j = held_more _ s.speed (speeds_of l) number in
            let q = valid_more (window_passes v (window_of v mode (s ∷ l))) in
            let r = valid_kept (window_passes v (window_of v mode (s ∷ l))) in
            simp (w, h, t, a, b, c, d, f, g, j, q, r)

        -- One more second, whatever its window is.
        pub tally_more :
            window_judged (window_taken (bump (length l)) (take 10 (measured_of v mode s ∷ last))) v (take 10 (measured_of v mode s ∷ last))
            (tallied (out_of v mode s) s.speed (tally_of v mode l)) ≡
            tally_of v mode (s ∷ l)
        unfolding window_judged
        tally_more = go (window_taken (bump (length l)) (take 10 (measured_of v mode s ∷ last))) refl
          where
            go :
                (b : Bool) →
                window_taken (bump (length l)) (take 10 (measured_of v mode s ∷ last)) ≡ b →
                window_counted (outcome_of b v (take 10 (measured_of v mode s ∷ last))) (tallied (out_of v mode s) s.speed (tally_of v mode l)) ≡
                tally_of v mode (s ∷ l)
            go true e = tally_valid e
            go false e = tally_invalid e

        -- Every window is accounted for again.
        pub windows_more : passing_in v mode (s ∷ l) + failing_in v mode (s ∷ l) + invalid_in v mode (s ∷ l) ≡ suc (length l) - 9
        unfolding window_judged tallied tally_of
        windows_more =
            exactly _ _ _ _
            (subst AllAccounted tally_more
            (one_window_more _ (length l) (tallied (out_of v mode s) s.speed (tally_of v mode l)) (omega arith) (omega arith)
            (accounted _ _ _ _ windows)))
