-- What the ranges of humidity, pressure and p say of k_H: no difference in it falls below zero, every product fits 64 bits,
-- its divisor is above zero, and k is at most 5,218,329. Assumes nothing.
use mathlib.Core.Path.{◌≡◌, refl}
use mathlib.Core.Bool.{Bool, true, false, ◌&&◌}
use Prim.Native.Nat.{ℕ, ◌*◌, ◌^◌, ◌≤◌, ◌<◌}
use native.Mathlib.Nat.{mul-le-mul, zero-mul, mul-zero, sub-zero, div-eq_of_lt-le}
use native.Mathlib.Omega.{arith}
use lib.Dec.{leb}
use borrow.Author.Tests.{leb-true}
use Rattle.correction.specs.Rounding.{half_up}
use Rattle.correction.specs.Humidity.{humidity_fit, pressure_fit, saturation_fit, dry_pressure, humidity_divisor, k_h}
use Rattle.correction.proofs.Halves.{at_most}

pub both_true : (x y : Bool) → x && y ≡ true → (x ≡ true) × (y ≡ true)
both_true true y h = (refl, h)
both_true false y h = let z : ◌≡◌ {A = ℕ} 0 1 = cc in absurd (omega arith)

-- The ranges as orders; the vapour pressure is r·p.
pub record InRange (r b p : ℕ) : Type 0 where
  pub vapour : r * p ≤ 430000
  pub low : 800 ≤ b
  pub high : b ≤ 1100

pub in_range_lem :
    (r b p : ℕ) → humidity_fit r ≡ true → pressure_fit b ≡ true → saturation_fit p ≡ true → InRange r b p
in_range_lem r b p hr hb hp =
    let (low, high) = both_true (leb 800 b) (leb b 1100) hb in
    let (least, greatest) = both_true (leb 500 p) (leb p 4300) hp in
    record {
      vapour = mul-le-mul (leb-true r 100 hr) (leb-true p 4300 greatest);
      low = leb-true 800 b low;
      high = leb-true b 1100 high;
    }

module _ (r b p : ℕ) (h : InRange r b p) where
  -- E is above zero, and 10^12·E fits 64 bits.
  pub dry_positive : r * p < 10000 * b
  dry_positive = omega arith

  pub dry_fits : 10 ^ 12 * dry_pressure r b p < 2 ^ 64
  dry_fits = omega arith

  -- The divisor is above zero.
  pub divisor_positive : 0 < humidity_divisor r b p
  divisor_positive = omega arith

  -- k is at most 5,218,329 millionths.
  pub k_within : k_h r b p ≤ 5218329
  unfolding k_h
  k_within = at_most _ _ 5218329 (omega arith) (omega arith)

-- Dry air: k is 739,449 at any pressure and any p.
pub k_dry_lem : (b p : ℕ) → 0 < b → k_h 0 b p ≡ 739449
unfolding k_h half_up
k_dry_lem b p h =
    simp (zero-mul, sub-zero, mul-zero) (div-eq_of_lt-le (2 * (1352359 * (10000 * b))) (omega arith) (omega arith))
