-- Step 1: rest.
use Rattle.std.specs.Prelude.{ℕ, ltb, eqb}
use Rattle.refusal.specs.Choice.{pick}
use Rattle.reading.specs.declared.Second.{Second}
use Rattle.loaded_test.specs.declared.Did.TheVariants.{Nothing}
use Rattle.loaded_test.specs.declared.Next.TheVariants.{RestEnded}
use Rattle.loaded_test.specs.declared.Stage.TheVariants.{Settling}
use Rattle.loaded_test.specs.declared.Progress.{Progress}
use Rattle.loaded_test.specs.declared.Turn.{Turn}
use Rattle.loaded_test.specs.State.{emptied, with_resting, turn, nothing}
use Rattle.attempt.specs.Counting.{in_row}

-- "Rest: speed below 10 adds to the rest count, otherwise it is 0"
unfoldable pub rest_count : ℕ → Second → ℕ
rest_count k s = in_row (ltb s.speed 10) k

-- "at 10 a new attempt begins. Nothing else happens." The mode, r and q stay.
unfoldable pub rested : ℕ → Progress → Turn
rested k p =
    pick (eqb k 10)
    (turn Nothing RestEnded (emptied p.mode Settling p.voids))
    (nothing (with_resting k p))
