-- A test keeps its vehicle. Assumes nothing.
use Prim.Native.Nat.{ℕ}
use mathlib.Core.Path.{◌≡◌, refl}
use Rattle.refusal.proofs.Picked.{on_pick}
use Rattle.reading.specs.declared.Second.{Second}
use Rattle.attempt.specs.declared.Screen.{Screen}
use Rattle.attempt.specs.declared.Screen.TheVariants.{Waits, Flawed, Clear}
use Rattle.loaded_test.specs.declared.Stage.{Stage}
use Rattle.loaded_test.specs.declared.Stage.TheVariants.{NotBegun, Settling, Measuring, Rest, Ended}
use Rattle.loaded_test.specs.declared.Progress.{Progress}
use Rattle.loaded_test.specs.declared.Stepped.{Stepped}
use Rattle.loaded_test.specs.declared.Test.{Test}
use Rattle.loaded_test.specs.Measuring.{judged, measures}
use Rattle.loaded_test.specs.Steps.{measured, in_attempt, second_at, second, stop}

module _ (x : Test) where
  abbrev Same : Stepped → Type 0
  Same y = y.test.vehicle ≡ x.vehicle

  screened_same : (screen : Screen) (clear : Stepped) → Same clear → Same (in_attempt screen x clear)
  unfolding in_attempt
  screened_same Waits clear h = refl
  screened_same (Flawed n) clear h = refl
  screened_same Clear clear h = h

  measured_same : (s : Second) (p : Progress) → Same (measured x s p)
  unfolding measured measures judged
  measured_same s p = on_pick Same _ _ _ (λ _. refl) (λ _. refl)

  at_same : (s : Second) (st : Stage) → Same (second_at st x s)
  unfolding second_at
  at_same s NotBegun = refl
  at_same s Settling = screened_same _ _ refl
  at_same s Measuring = screened_same _ _ (measured_same s _)
  at_same s Rest = refl
  at_same s (Ended w) = refl

  pub second_same : (s : Second) → (second x s).test.vehicle ≡ x.vehicle
  unfolding second
  second_same s = at_same s x.progress.stage

  pub stop_same : (n : ℕ) → (stop x n).test.vehicle ≡ x.vehicle
  unfolding stop
  stop_same n = on_pick Same _ _ _ (λ _. on_pick Same _ _ _ (λ _. refl) (λ _. refl)) (λ _. refl)
