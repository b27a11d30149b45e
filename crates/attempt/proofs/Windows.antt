-- Every window is accounted for: from t = 9 on passing, failing and invalid are t − 9. Assumes nothing.
use Prim.Native.Nat.{ℕ, suc, ◌+◌, ◌-◌, ◌≤◌}
use native.Mathlib.Omega.{arith}
use mathlib.Core.Bool.{Bool, true, false}
use mathlib.Core.Path.{◌≡◌, refl, ◌∙◌}
use lib.Dec.{leb}
use borrow.Author.Tests.{leb-true, leb-false}
use Rattle.refusal.proofs.Picked.{on_pick}
use Rattle.attempt.specs.declared.MeasuringCounts.{MeasuringCounts}
use Rattle.attempt.specs.declared.WindowCounts.{WindowCounts}
use Rattle.attempt.specs.declared.WindowOutcome.{WindowOutcome}
use Rattle.attempt.specs.declared.WindowOutcome.TheVariants.{Passing, Failing, Invalid}
use Rattle.attempt.specs.Measuring.{one_more, window_ends, window_counted}
use Rattle.attempt.specs.Laws.{Accounted, OneWindowMore}

-- All windows.
abbrev pub total : WindowCounts → ℕ
total w = w.passing + w.failing + w.invalid

-- Windows that come to t − 9 in all, which is 0 before t = 9, are accounted for.
pub accounted : (t passing failing invalid : ℕ) → passing + failing + invalid ≡ t - 9 → Accounted t passing failing invalid
accounted t passing failing invalid e = omega arith

pub exactly : (t passing failing invalid : ℕ) → Accounted t passing failing invalid → passing + failing + invalid ≡ t - 9
exactly t passing failing invalid h = go (leb 9 t) refl
  where
    go : (b : Bool) → leb 9 t ≡ b → passing + failing + invalid ≡ t - 9
    go true e = h.exact (leb-true _ _ e)
    go false e = let n = leb-false _ _ e in let z = h.none (omega arith) in omega (arith, z.0, z.1, z.2)

total_more : (x : WindowOutcome) (w : WindowCounts) → total w ≤ 246 → total (one_more x w) ≡ suc (total w)
unfolding one_more
total_more Passing w h = omega arith
total_more Failing w h = omega arith
total_more Invalid w h = omega arith

-- One second more adds one window from t = 10 on, and none before it.
pub window_more :
    (x : WindowOutcome) (n : ℕ) (k : MeasuringCounts) →
    n ≤ 254 →
    k.seconds ≡ suc n →
    total k.windows ≡ n - 9 →
    total (window_counted x k).windows ≡ suc n - 9
unfolding window_counted
window_more x n k most e h =
    on_pick (λ (y : MeasuringCounts). total y.windows ≡ suc n - 9) (window_ends k.seconds) _ _
    (λ f. let t = leb-true _ _ f in total_more x k.windows (omega arith) ∙ omega arith)
    (λ f. let t = leb-false _ _ f in omega arith)

-- Where t is 0 and nothing is counted, no window ends.
pub window_none :
    (x : WindowOutcome) (k : MeasuringCounts) → k.seconds ≡ 0 → total k.windows ≡ 0 → total (window_counted x k).windows ≡ 0
unfolding window_counted
window_none x k e h =
    on_pick (λ (y : MeasuringCounts). total y.windows ≡ 0) (window_ends k.seconds) _ _
    (λ f. let t = leb-true _ _ f in absurd (omega arith))
    (λ f. h)

-- Counting a window leaves t.
same_seconds : (x : WindowOutcome) (k : MeasuringCounts) → (window_counted x k).seconds ≡ k.seconds
unfolding window_counted
same_seconds x k = on_pick (λ (y : MeasuringCounts). y.seconds ≡ k.seconds) (window_ends k.seconds) _ _ (λ f. refl) (λ f. refl)

pub one_window_more : OneWindowMore
one_window_more x n k most e h =
    let s = same_seconds x k in
    let w = window_more x n k most e (exactly n _ _ _ h) in
    accounted _ _ _ _ (omega arith)
