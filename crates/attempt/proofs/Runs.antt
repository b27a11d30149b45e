-- The counts of measuring are those of the seconds of this t, for every list of seconds. Assumes nothing.
use Prim.Native.Nat.{ℕ, suc, ◌-◌, ◌≤◌, min}
use native.Mathlib.Omega.{arith}
use mathlib.Core.Bool.{Bool, true, false, ◌||◌, true≢false}
use mathlib.Core.Path.{◌≡◌, refl, sym, ap, ap₂, ◌∙◌}
use mathlib.Core.List.{List, [], ◌∷◌}
use lib.Dec.{eqb}
use Rattle.refusal.proofs.Picked.{on_pick}
use lib.ListN.{length, length-map}
use Rattle.std.proofs.lemmas.Bool.Decides.{nat_tests}
use Rattle.refusal.specs.Choice.{pick}
use Rattle.attempt.specs.declared.MeasuringCounts.{MeasuringCounts}
use Rattle.attempt.specs.declared.WindowOutcome.{WindowOutcome}
use Rattle.attempt.specs.Counting.{bump, in_row, in_all, row_of, all_of}
use Rattle.attempt.specs.Speeds.{speed_at, first_ten, all_held, speed_held}
use Rattle.attempt.specs.Measuring.{no_measuring, first_speed, still_held, tallied, window_ends, window_counted, restarts, restarted}
use Rattle.attempt.specs.Runs.{Driven, outs, speeds, restarts_at, run_of, counts_after}
use Rattle.attempt.specs.Laws.{CountsTold}
use Rattle.attempt.proofs.Most.{row_most, all_most}
use Rattle.attempt.proofs.Windows.{total, accounted, window_more, window_none}
use Rattle.attempt.proofs.Speeds.{held_exactly, first_more, held_more}

-- The counts are those of a run.
record Keeps (run : List Driven) (k : MeasuringCounts) : Type 0 where
  seconds : k.seconds ≡ min (length run) 255
  row : k.row ≡ row_of (outs run)
  all : k.all ≡ all_of (outs run)
  first : k.first ≡ speed_at 1 (speeds run)
  held : k.held ≡ speed_held (speeds run)

-- The counts are those of a run, and no restart is due.
record Kept (run : List Driven) (k : MeasuringCounts) : Type 0 where
  keeps : Keeps run k
  row : k.row ≤ 2
  all : k.all ≤ 5

-- Where t, u, w and second 1's speed are 0 and the speed has held, the counts are those of no seconds.
none :
    (k : MeasuringCounts) →
    k.seconds ≡ 0 →
    k.row ≡ 0 →
    k.all ≡ 0 →
    k.first ≡ 0 →
    k.held ≡ true →
    Kept [] k
unfolding row_of all_of speed_at first_ten all_held speed_held
none k t u w first held = record {
  keeps = record { seconds = t; row = u; all = w; first = first; held = held };
  row = omega arith;
  all = omega arith;
}

row_more : (holds : Bool) (n : ℕ) → n ≤ 2 → in_row holds n ≡ pick holds (suc n) 0
unfolding in_row pick
row_more true n h = omega arith
row_more false n h = refl

all_more : (holds : Bool) (n : ℕ) → n ≤ 5 → in_all holds n ≡ pick holds (suc n) n
unfolding in_all pick
all_more true n h = omega arith
all_more false n h = refl

-- One second more, before a restart is looked for.
more : (s : Driven) (run : List Driven) (k : MeasuringCounts) → Kept run k → Keeps (s ∷ run) (tallied s.out s.speed k)
unfolding tallied row_of all_of
more s run k h =
    let n : length (speeds run) ≡ length run = length-map run (λ s. s.speed) in
    let e = h.keeps.seconds in
    let t : bump k.seconds ≡ min (suc (length (speeds run))) 255 = omega arith in
    let f : first_speed (bump k.seconds) s.speed k.first ≡ speed_at 1 (speeds (s ∷ run)) =
    ap (first_speed (bump k.seconds) s.speed) h.keeps.first ∙ first_more _ s.speed (speeds run) t
    in
    record {
      seconds = omega arith;
      row = row_more s.out k.row h.row ∙ ap (λ (n : ℕ). pick s.out (suc n) 0) h.keeps.row;
      all = all_more s.out k.all h.all ∙ ap (λ (n : ℕ). pick s.out (suc n) n) h.keeps.all;
      first = f;
      held =
          ap₂ (λ (first : ℕ) (held : Bool). still_held (bump k.seconds) first s.speed held) f h.keeps.held ∙
          held_more _ s.speed (speeds run) t;
    }

-- Counts and run are empty at once, or neither.
chosen :
    (b c : Bool) (run : List Driven) (anew k : MeasuringCounts) →
    b ≡ c →
    Kept [] anew →
    (c ≡ false → Kept run k) →
    Kept (pick b [] run) (pick c anew k)
unfolding pick
chosen true true run anew k e empty h = empty
chosen true false run anew k e empty h = absurd (true≢false e)
chosen false true run anew k e empty h = absurd (true≢false (sym e))
chosen false false run anew k e empty h = h refl

-- One second more, and a restart where u = 3 or w = 6.
again :
    (s : Driven) (run : List Driven) (k : MeasuringCounts) →
    Kept run k →
    Kept (pick (restarts_at (s ∷ run)) [] (s ∷ run)) (restarted (tallied s.out s.speed k))
unfolding restarted restarts_at tallied
again s run k h =
    let m = more s run k h in
    let r : in_row s.out k.row ≤ 3 = row_most 2 s.out k.row h.row in
    let a : in_all s.out k.all ≤ 6 = all_most 5 s.out k.all h.all in
    chosen (restarts_at (s ∷ run)) _ (s ∷ run) _ (tallied s.out s.speed k)
    (ap₂ (λ (u w : ℕ). eqb u 3 || eqb w 6) (sym m.row) (sym m.all))
    (none _ refl refl refl refl refl)
    (λ e.
    record { keeps = m; row = grind (arith, nat_tests); all = grind (arith, nat_tests) })

-- The window that ends there leaves them so.
window_keeps : (x : WindowOutcome) (run : List Driven) (k : MeasuringCounts) → Kept run k → Kept run (window_counted x k)
unfolding window_counted
window_keeps x run k h =
    on_pick (Kept run) (window_ends k.seconds) _ _
    (λ e. let n = h.keeps in
    record {
      keeps = record { seconds = n.seconds; row = n.row; all = n.all; first = n.first; held = n.held };
      row = h.row;
      all = h.all;
    })
    (λ e. h)

kept : (l : List Driven) → Kept (run_of l) (counts_after l)
unfolding run_of counts_after
kept [] = none no_measuring refl refl refl refl refl
kept (s ∷ l) = window_keeps s.window _ _ (again s (run_of l) (counts_after l) (kept l))

-- With a second more, and none where it restarts.
windows_again :
    (b c : Bool) (x : WindowOutcome) (s : Driven) (run : List Driven) (anew k : MeasuringCounts) →
    b ≡ c →
    anew.seconds ≡ 0 →
    total anew.windows ≡ 0 →
    k.seconds ≡ min (suc (length run)) 255 →
    (length run ≤ 255 → total k.windows ≡ length run - 9) →
    length (pick b [] (s ∷ run)) ≤ 255 →
    total (window_counted x (pick c anew k)).windows ≡ length (pick b [] (s ∷ run)) - 9
unfolding pick
windows_again true true x s run anew k e zero none_yet t h most = window_none x anew zero none_yet
windows_again true false x s run anew k e zero none_yet t h most = absurd (true≢false e)
windows_again false true x s run anew k e zero none_yet t h most = absurd (true≢false (sym e))
windows_again false false x s run anew k e zero none_yet t h most =
    window_more x (length run) k (omega arith) (omega arith) (h (omega arith))

-- Before any cap, passing, failing and invalid are t − 9.
summed : (l : List Driven) → length (run_of l) ≤ 255 → total (counts_after l).windows ≡ length (run_of l) - 9
unfolding run_of counts_after restarted tallied restarts_at
summed [] most = omega arith
summed (s ∷ l) most =
    let m = more s (run_of l) (counts_after l) (kept l) in
    windows_again (restarts_at (s ∷ run_of l)) _ s.window s (run_of l) _ (tallied s.out s.speed (counts_after l))
    (ap₂ (λ (u w : ℕ). eqb u 3 || eqb w 6) (sym m.row) (sym m.all))
    refl refl
    m.seconds (summed l) most

pub counts_told : CountsTold
counts_told l =
    let h = (kept l).keeps in
    record {
      t = h.seconds;
      u = h.row;
      w = h.all;
      first = h.first;
      held = (λ f. (held_exactly _).0 (sym h.held ∙ f), λ f. h.held ∙ (held_exactly _).1 f);
      windows = λ most. let s = summed l most in let t = h.seconds in accounted _ _ _ _ (omega arith);
    }

-- A restart leaves what measuring begins with.
pub restarted_none : (k : MeasuringCounts) → restarts k ≡ true → restarted k ≡ no_measuring
unfolding restarted pick
restarted_none k e = simp (e)
