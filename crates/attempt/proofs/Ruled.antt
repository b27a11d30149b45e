-- The ending rule in numbers. Assumes nothing.
use Prim.Native.Nat.{ℕ, ◌≤◌, ◌<◌}
use mathlib.Core.Bool.{Bool, true, false}
use mathlib.Core.Path.{◌≡◌}
use mathlib.Core.Logic.{◌⊎◌, inl, inr}
use lib.Dec.{eqb}
use borrow.Author.Tests.{eqb-true, eqb-false, leb-true, leb-false}
use Rattle.std.proofs.lemmas.Bool.Decides.{nat_tests}
use native.Mathlib.Omega.{arith}
use Rattle.refusal.proofs.Picked.{on_pick}
use Rattle.attempt.specs.declared.WindowCounts.{WindowCounts}
use Rattle.attempt.specs.declared.Ending.{Ending}
use Rattle.attempt.specs.declared.Ending.TheVariants.{NotYet, Passes, ModeEnds, Inconclusive}
use Rattle.attempt.specs.Ending.{at_ninety, early_pass, ending_rule}
use Rattle.attempt.specs.Laws.{RuleSays, RuledExactly}

-- An early pass meets its three tests.
early :
    (t : ℕ) (k : WindowCounts) (held : Bool) →
    early_pass t k held ≡ true →
    (25 ≤ t) × (15 ≤ k.passing) × (held ≡ true)
unfolding early_pass
early t k held e = grind (arith, nat_tests)

-- Short of an early pass one of its three tests fails.
not_early :
    (t : ℕ) (k : WindowCounts) (held : Bool) →
    early_pass t k held ≡ false →
    25 ≤ t → 15 ≤ k.passing → held ≡ true → ⊥
unfolding early_pass
not_early t k held e least enough h = grind (arith, nat_tests)

-- What holds of each outcome, from what led to it, holds of the rule's.
pub on_ending :
    (P : Ending → Type 0) (t : ℕ) (k : WindowCounts) (held : Bool) →
    (15 ≤ k.passing → (t ≡ 90) ⊎ ((25 ≤ t) × (held ≡ true)) → P Passes) →
    (t ≡ 90 → k.passing < 15 → 25 ≤ k.failing → P ModeEnds) →
    (t ≡ 90 → k.passing < 15 → k.failing < 25 → P Inconclusive) →
    ((t ≡ 90 → ⊥) → (25 ≤ t → 15 ≤ k.passing → held ≡ true → ⊥) → P NotYet) →
    P (ending_rule t k held)
unfolding ending_rule at_ninety
on_ending P t k held passes mode none open' =
    on_pick P (early_pass t k held) _ _
    (λ e. let y = early t k held e in passes y.1 (inr (y.0, y.2)))
    (λ e. on_pick P (eqb t 90) _ _
    (λ f. let g : t ≡ 90 = eqb-true _ _ f in
    on_pick P _ _ _
    (λ h. passes (leb-true _ _ h) (inl g))
    (λ h. on_pick P _ _ _
    (λ j. mode g (leb-false _ _ h) (leb-true _ _ j))
    (λ j. none g (leb-false _ _ h) (leb-false _ _ j))))
    (λ f. open' (eqb-false _ _ f) (not_early t k held e)))

pub ruled_exactly : RuledExactly
ruled_exactly t k held =
    on_ending (RuleSays t k held) t k held
    (λ enough ends. (enough, ends))
    (λ ninety few enough. (ninety, few, enough))
    (λ ninety few less. (ninety, few, less))
    (λ ninety early'. (ninety, early'))
