-- Step 4: the counts of measuring, t, u, w, the windows, the speed of measured second 1 and whether the speed has held.
use Rattle.std.specs.Prelude.{ℕ, Bool, true, false, ◌&&◌, ◌||◌, leb, ltb, eqb}
use Rattle.refusal.specs.Choice.{pick}
use Rattle.attempt.specs.declared.MeasuringCounts.{MeasuringCounts}
use Rattle.attempt.specs.declared.WindowCounts.{WindowCounts}
use Rattle.attempt.specs.declared.WindowOutcome.{WindowOutcome}
use Rattle.attempt.specs.declared.WindowOutcome.TheVariants.{Passing, Failing, Invalid}
use Rattle.attempt.specs.Counting.{bump, in_row, in_all}
use Rattle.attempt.specs.Speeds.{held_at}

-- "Measuring, begun with t, u, w 0 and no windows": no window is kept, none of the last ten seconds is of this run, and no speed has dropped.
abbrev pub no_measuring : MeasuringCounts
no_measuring = record {
  seconds = 0;
  row = 0;
  all = 0;
  windows = record { passing = 0; failing = 0; invalid = 0 };
  first = 0;
  held = true;
  kept = false;
}

-- The speed of measured second 1, kept from then on.
unfoldable pub first_speed : ℕ → ℕ → ℕ → ℕ
first_speed t speed first = pick (eqb t 1) speed first

-- Whether the speed has held up to this second: past second 10 a speed counts no more. What it comes to over the seconds of this t is `Laws: CountsTold`.
abbrev pub still_held : ℕ → ℕ → ℕ → Bool → Bool
still_held t first speed held = (ltb 10 t || held_at first speed) && held

-- "t grows by 1", u counts out seconds in a row and w in all; second 1's speed is kept, and whether the speed has held.
unfoldable pub tallied : Bool → ℕ → MeasuringCounts → MeasuringCounts
tallied out speed k = record k {
  seconds = bump k.seconds;
  row = in_row out k.row;
  all = in_all out k.all;
  first = first_speed (bump k.seconds) speed k.first;
  held = still_held (bump k.seconds) (first_speed (bump k.seconds) speed k.first) speed k.held;
}

-- A valid window passes or fails; "Carry the invalid windows as a third count" (document 02, A.8).
unfoldable pub one_more : WindowOutcome → WindowCounts → WindowCounts
one_more Passing w = record w { passing = bump w.passing }
one_more Failing w = record w { failing = bump w.failing }
one_more Invalid w = record w { invalid = bump w.invalid }

-- Whether there is a last valid window, after one more.
unfoldable pub kept_with : WindowOutcome → Bool → Bool
kept_with Passing kept = true
kept_with Failing kept = true
kept_with Invalid kept = kept

-- "from t = 10, the window ending here": before it none ends.
abbrev pub window_ends : ℕ → Bool
window_ends t = leb 10 t

-- The window that ends with a measured second is counted; a valid one is the last valid window.
unfoldable pub window_counted : WindowOutcome → MeasuringCounts → MeasuringCounts
window_counted x k =
    pick (window_ends k.seconds) (record k { windows = one_more x k.windows; kept = kept_with x k.kept }) k

-- "At u = 3 or w = 6"
abbrev pub restarts : MeasuringCounts → Bool
restarts k = eqb k.row 3 || eqb k.all 6

-- "At u = 3 or w = 6, t, u, w, counts and windows become empty": measuring begins anew, and nothing is left of the run before.
unfoldable pub restarted : MeasuringCounts → MeasuringCounts
restarted k = pick (restarts k) no_measuring k
