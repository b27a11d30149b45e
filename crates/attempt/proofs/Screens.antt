-- Steps 2 and 3 in numbers. Assumes nothing.
use Prim.Native.Nat.{ℕ, ◌+◌, ◌≤◌, ◌<◌}
use native.Mathlib.Omega.{arith}
use mathlib.Core.Bool.{false}
use mathlib.Core.Path.{◌≡◌, refl}
use mathlib.Core.Logic.{inl, inr}
use borrow.Author.Tests.{ltb-true, ltb-false}
use Rattle.std.proofs.lemmas.Bool.Decides.{nat_tests}
use Rattle.refusal.proofs.Picked.{on_pick}
use Rattle.reading.specs.declared.Second.{Second}
use Rattle.attempt.specs.Screening.{waits, diluted, screened}
use Rattle.attempt.specs.Laws.{Screens, ScreenedExactly}

-- A second that does not wait at c = 0 has a speed above 10.
counts_at_zero : (c : ℕ) (s : Second) → waits c s ≡ false → c ≡ 0 → 10 < s.speed
counts_at_zero c s e z = grind (arith, nat_tests)

pub screened_exactly : ScreenedExactly
unfolding screened
screened_exactly c s =
    on_pick (Screens c s) (waits c s) _ _
    (λ e. (grind (arith, nat_tests), grind (arith, nat_tests)))
    (λ e. on_pick (Screens c s) s.over _ _
    (λ f. (counts_at_zero c s e, inl (refl, f)))
    (λ f. on_pick (Screens c s) (diluted s) _ _
    (λ g. (counts_at_zero c s e, inr (refl, f, ltb-true _ _ g)))
    (λ g. (counts_at_zero c s e, f, λ h. let n : 600 ≤ s.co2.0 + s.co.0 = ltb-false _ _ g in omega arith))))
