-- A refused second or stop gives back the test that it was given to, whatever its state. Assumes nothing.
use Prim.Native.Nat.{ℕ}
use native.Mathlib.Omega.{arith}
use mathlib.Core.Bool.{Bool, true, false}
use mathlib.Core.Path.{◌≡◌, refl, ap, subst⁻¹}
use Rattle.refusal.specs.declared.Refusal.{Refusal}
use Rattle.reading.specs.declared.Second.{Second}
use Rattle.std.specs.Prelude.{Ok, Err, Result}
use Rattle.loaded_test.specs.declared.Told.{Told}
use Rattle.loaded_test.specs.declared.Test.{Test}
use Rattle.loaded_test.specs.declared.Stepped.{Stepped}
use Rattle.loaded_test.specs.Going.{is_running, Goes}
use Rattle.loaded_test.specs.Steps.{second, cause_fit, stop}
use Rattle.loaded_test.specs.Laws.{BackIfRefused}
use Rattle.loaded_test.proofs.Going.{second_goes, stop_goes, stop_refused_lem, second_idle, stop_idle}

-- What is told is not refused.
told_not : (a : Result Told Refusal) (told : Told) (r : Refusal) → a ≡ Ok told → a ≡ Err r → ⊥
told_not a told r p q = let z : ◌≡◌ {A = ℕ} 0 1 = cc in omega arith

goes_back : (x : Test) (y : Stepped) → Goes y → BackIfRefused x y
goes_back x y h r e = absurd (told_not y.answer h.told r h.taken e)

pub second_back : (x : Test) (s : Second) → BackIfRefused x (second x s)
second_back x s = go (is_running x.progress.stage) refl
  where
    go : (b : Bool) → is_running x.progress.stage ≡ b → BackIfRefused x (second x s)
    go true e = goes_back x (second x s) (second_goes x s e)
    go false e = λ r h. ap (λ (y : Stepped). y.test) (second_idle x s e)

pub stop_back : (x : Test) (n : ℕ) → BackIfRefused x (stop x n)
stop_back x n = go (is_running x.progress.stage) (cause_fit n) refl refl
  where
    go : (b d : Bool) → is_running x.progress.stage ≡ b → cause_fit n ≡ d → BackIfRefused x (stop x n)
    go true true e f = goes_back x (stop x n) (stop_goes x n f e)
    go true false e f = λ r h. ap (λ (y : Stepped). y.test) (stop_refused_lem x n f e)
    go false d e f = λ r h. ap (λ (y : Stepped). y.test) (stop_idle x n e)

-- The same of what a second came to.
pub second_back_as : (x : Test) (s : Second) (y : Stepped) → y ≡ second x s → BackIfRefused x y
second_back_as x s y e = subst⁻¹ (BackIfRefused x) e (second_back x s)
