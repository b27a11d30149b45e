-- Laws of checks one after the other. Assumes nothing.
use Prim.Native.Nat.{ℕ}
use mathlib.Core.Bool.{Bool, true, false}
use mathlib.Core.Logic.{◌⊎◌, inl, inr}
use mathlib.Core.Path.{◌≡◌, refl}
use native.Mathlib.Omega.{arith}
use Rattle.refusal.specs.declared.Refusal.{Refusal}
use Rattle.std.specs.Prelude.{Ok, Err}
use Rattle.refusal.specs.Checking.{Check, fine, ◌⨾◌, need}

pub after_fine : {a b : Check} → a ≡ fine → (a ⨾ b) ≡ b
unfolding ◌⨾◌
after_fine e = simp e

pub after_refused : {a : Check} (b : Check) {r : Refusal} → a ≡ Err r → (a ⨾ b) ≡ Err r
unfolding ◌⨾◌
after_refused b e = simp e

pub fine_first : (a b : Check) → (a ⨾ b) ≡ fine → a ≡ fine
unfolding ◌⨾◌
fine_first (Ok _) b e = refl
fine_first (Err r) b e = e

pub fine_second : (a b : Check) → (a ⨾ b) ≡ fine → b ≡ fine
unfolding ◌⨾◌
fine_second (Ok _) b e = e
fine_second (Err r) b e = let z : ◌≡◌ {A = ℕ} 0 1 = cc in absurd (omega arith)

pub need_true : (b : Bool) (r : Refusal) → need b r ≡ fine → b ≡ true
unfolding need
need_true true r e = refl
need_true false r e = let z : ◌≡◌ {A = ℕ} 0 1 = cc in absurd (omega arith)

pub need_holds : {b : Bool} (r : Refusal) → b ≡ true → need b r ≡ fine
unfolding need
need_holds r e = simp e

-- Which of two checks refuses.
pub then_refused : (a b : Check) (r : Refusal) → (a ⨾ b) ≡ Err r → (a ≡ Err r) ⊎ ((a ≡ fine) × (b ≡ Err r))
unfolding ◌⨾◌
then_refused (Ok _) b r e = inr (refl, e)
then_refused (Err q) b r e = inl e

pub need_refused : (b : Bool) (q r : Refusal) → need b q ≡ Err r → (b ≡ false) × (q ≡ r)
unfolding need
need_refused true q r e = let z : ◌≡◌ {A = ℕ} 0 1 = cc in absurd (omega arith)
need_refused false q r e = (refl, cc)
