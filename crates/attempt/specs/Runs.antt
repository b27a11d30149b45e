-- The seconds of measuring in an attempt, newest first, as the counts take them one by one.
use Rattle.std.specs.Prelude.{ℕ, Bool, ◌||◌, List, [], ◌∷◌, map, eqb}
use Rattle.refusal.specs.Choice.{pick}
use Rattle.attempt.specs.declared.MeasuringCounts.{MeasuringCounts}
use Rattle.attempt.specs.declared.WindowOutcome.{WindowOutcome}
use Rattle.attempt.specs.Counting.{row_of, all_of}
use Rattle.attempt.specs.Measuring.{no_measuring, tallied, window_counted, restarted}

-- A second of measuring: whether it is out, its speed, and what the ten seconds that end with it are as a window, where one ends.
pub record Driven : Type 0 where
  pub out : Bool
  pub speed : ℕ
  pub window : WindowOutcome

-- Which of these seconds are out.
abbrev pub outs : List Driven → List Bool
outs run = map (λ s. s.out) run

-- Their speeds.
abbrev pub speeds : List Driven → List ℕ
speeds run = map (λ s. s.speed) run

-- u = 3 or w = 6 at the newest of these seconds.
unfoldable pub restarts_at : List Driven → Bool
restarts_at run = eqb (row_of (outs run)) 3 || eqb (all_of (outs run)) 6

-- The seconds of this t: those since measuring began or, at u = 3 or w = 6, began anew.
unfoldable pub run_of : List Driven → List Driven
run_of [] = []
run_of (s ∷ l) = pick (restarts_at (s ∷ run_of l)) [] (s ∷ run_of l)

-- The counts after all of them.
unfoldable pub counts_after : List Driven → MeasuringCounts
counts_after [] = no_measuring
counts_after (s ∷ l) = window_counted s.window (restarted (tallied s.out s.speed (counts_after l)))
