-- What is claimed of every test; the contract of `begin` carries it. Inputs and logs have the newest first.
use Rattle.refusal.specs.declared.Refusal.TheVariants.{NoTest, CauseUnfit}
use Rattle.std.specs.Prelude.{ℕ, ◌≤◌, true, false, ◌≡◌, List, replicate, Some, IsSome}
use Rattle.reading.specs.declared.Second.{Second}
use Rattle.vehicle.specs.declared.Vehicle.{Vehicle}
use Rattle.loaded_test.specs.declared.Word.TheVariants.{Pass}
use Rattle.loaded_test.specs.declared.Next.TheVariants.{GoesOn, Ends}
use Rattle.loaded_test.specs.declared.Stage.TheVariants.{Measuring}
use Rattle.loaded_test.specs.declared.Test.{Test}
use Rattle.loaded_test.specs.State.{refused, last_window, engine_shown}
use Rattle.loaded_test.specs.Going.{is_running, Goes}
use Rattle.loaded_test.specs.Steps.{second, stop}
use Rattle.loaded_test.specs.Log.{Input, a_second, step, replay, log_of}
use Rattle.loaded_test.specs.Claim.{PassClaim}
use Rattle.loaded_test.specs.Sheet.{SheetTold, AllPresentIn}
use Rattle.loaded_test.specs.Laws.{Bounded, VoidClaim, IncompleteClaim, FailClaim, AccountedClaim, LastTen}
use Rattle.loaded_test.specs.Examples.{motorcycle, row, newest}

-- The first nine: for every vehicle and every list of seconds and stops from the test's beginning. The next four: for every test,
-- whatever its state. The last two: that the pass claim is not empty.
pub record TestClaims : Type 0 where
  -- a pass is earned by t measured seconds of one attempt, which nothing voids; "in a pass these two count the valid windows in its t seconds"
  pub pass : (v : Vehicle) (l : List Input) → PassClaim v (log_of v l)
  -- "q = 2: mode 2 begins, or fail in mode 2. Else r = 3: incomplete. Else rest"
  pub void : (v : Vehicle) (l : List Input) → VoidClaim (log_of v l)
  -- "incomplete" is told at r = 3 with q not 2, and nowhere else
  pub incomplete : (v : Vehicle) (l : List Input) → IncompleteClaim (log_of v l)
  -- a fail is told in mode 2, at q = 2 or at t = 90 with passing below 15 and failing at least 25, and nowhere else
  pub fail : (v : Vehicle) (l : List Input) → FailClaim (log_of v l)
  -- in every verdict passing, failing and invalid are t − 9, and 0 before t = 10
  pub accounted : (v : Vehicle) (l : List Input) → AccountedClaim (log_of v l)
  -- no counter is at its cap; passing, failing and invalid are t − 9 from t = 9 on, and 0 before it
  pub bounded : (v : Vehicle) (l : List Input) → Bounded (replay v l).progress
  -- in measuring, the "last ten seconds" are the last ten that were measured
  pub last_ten :
      (v : Vehicle) (l : List Input) →
      (replay v l).progress.stage ≡ Measuring →
      LastTen v (log_of v l) (replay v l).last
  -- what is shown is of the ten seconds of the last valid window, and so is the engine speed on the sheet
  pub sheet : (v : Vehicle) (l : List Input) → SheetTold v (log_of v l) (replay v l)
  -- "With any of the ten missing the field is "-"": where none is missing and there is a window, a number is shown
  pub present :
      (v : Vehicle) (l : List Input) →
      AllPresentIn l →
      IsSome (last_window (replay v l)) →
      (n : ℕ) × (engine_shown (replay v l) ≡ Some n)
  -- a test that runs takes every second; it has ended after it exactly where that told a verdict
  pub seconds : (x : Test) (s : Second) → is_running x.progress.stage ≡ true → Goes (second x s)
  -- the same of "A stop (1 brake, 2 stall, 3 operator, 4 low flow)"
  pub stops : (x : Test) (n : ℕ) → is_running x.progress.stage ≡ true → 1 ≤ n → n ≤ 4 → Goes (stop x n)
  -- "stop cause .. unfit": any other is refused 15
  pub unfit :
      (x : Test) (n : ℕ) →
      is_running x.progress.stage ≡ true →
      (1 ≤ n → n ≤ 4 → ⊥) →
      stop x n ≡ refused CauseUnfit x
  -- "second or stop, no test": refused 13
  pub idle : (x : Test) (i : Input) → is_running x.progress.stage ≡ false → step x i ≡ refused NoTest x
  -- "36 rows of .., no stops: `pass 1 25 16 0 ..`"; "the longer listing reads 25 16 0 0 there"
  pub passes :
      newest (log_of motorcycle (replicate 36 (a_second row))) ≡
      Ends (record { word = Pass; t = 25; passing = 16; failing = 0; invalid = 0 })
  -- after 35 of them, with t = 24 and 15 windows, there is no verdict
  pub not_before : newest (log_of motorcycle (replicate 35 (a_second row))) ≡ GoesOn
