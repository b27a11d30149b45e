-- When a test runs, and when it has ended: exactly where it told a verdict.
use Rattle.std.specs.Prelude.{Bool, true, false, not, ◌≡◌, Ok}
use Rattle.loaded_test.specs.declared.Verdict.{Verdict}
use Rattle.loaded_test.specs.declared.Next.{Next}
use Rattle.loaded_test.specs.declared.Next.TheVariants.{GoesOn, Rests, RestEnded, ModeTwo, Ends}
use Rattle.loaded_test.specs.declared.Told.{Told}
use Rattle.loaded_test.specs.declared.Stage.{Stage}
use Rattle.loaded_test.specs.declared.Stage.TheVariants.{NotBegun, Settling, Measuring, Rest, Ended}
use Rattle.loaded_test.specs.declared.Stepped.{Stepped}
use Rattle.loaded_test.specs.State.{verdict_of}

-- A test runs: it takes seconds and stops.
unfoldable pub is_running : Stage → Bool
is_running NotBegun = false
is_running Settling = true
is_running Measuring = true
is_running Rest = true
is_running (Ended w) = false

-- The stage "ended".
unfoldable pub has_ended : Stage → Bool
has_ended NotBegun = false
has_ended Settling = false
has_ended Measuring = false
has_ended Rest = false
has_ended (Ended w) = true

-- A verdict comes next.
unfoldable pub ends_in : Next → Bool
ends_in GoesOn = false
ends_in Rests = false
ends_in RestEnded = false
ends_in ModeTwo = false
ends_in (Ends x) = true

-- A second or a stop was taken; the test runs after it, but where that told a verdict: then it has ended, with that word and those counts.
pub record Goes (x : Stepped) : Type 0 where
  pub told : Told
  pub taken : x.answer ≡ Ok told
  pub stage : is_running x.test.progress.stage ≡ not (ends_in told.next)
  pub verdict :
      (v : Verdict) →
      told.next ≡ Ends v →
      (x.test.progress.stage ≡ Ended v.word) × (v ≡ verdict_of v.word x.test.progress.measuring)
