-- The test of the three ranges, and what `humidity_factor` is on either side of it. Assumes nothing.
use mathlib.Core.Path.{◌≡◌, ◌∙◌, sym}
use mathlib.Core.Bool.{Bool, true, false, not, ◌&&◌}
use Prim.Native.Nat.{ℕ}
use borrow.Author.Tests.{not-true, not-false}
use Rattle.std.specs.Prelude.{Some, None}
use Rattle.refusal.specs.Choice.{pick}
use Rattle.correction.specs.Humidity.{humidity_fit, pressure_fit, saturation_fit, k_h, humidity_factor}
use Rattle.correction.proofs.Ranges.{InRange, in_range_lem, both_true}

module _ (r b p : ℕ) (x y z : Bool) (ex : x ≡ humidity_fit r) (ey : y ≡ pressure_fit b) (ez : z ≡ saturation_fit p) where
  pub passed : not (x && (y && z)) ≡ false → InRange r b p
  passed h =
      let (hx, hyz) = both_true x (y && z) (not-false _ h) in
      let (hy, hz) = both_true y z hyz in
      in_range_lem r b p (sym ex ∙ hx) (sym ey ∙ hy) (sym ez ∙ hz)

  pub factor_none : not (x && (y && z)) ≡ true → None ≡ humidity_factor r b p
  unfolding humidity_factor pick
  factor_none h = rw (← ex, ← ey, ← ez, not-true (x && (y && z)) h)

  pub factor_some : (k : ℕ) → not (x && (y && z)) ≡ false → k ≡ k_h r b p → Some k ≡ humidity_factor r b p
  unfolding humidity_factor pick
  factor_some k h e = rw (← ex, ← ey, ← ez, not-false (x && (y && z)) h, e)
