-- The whole averages of a window lie near its exact ones. Assumes nothing.
use mathlib.Core.Bool.{Bool, true, false}
use mathlib.Core.Path.{◌≡◌, refl, subst⁻¹}
use mathlib.Core.List.{List, [], ◌∷◌, map}
use Prim.Native.Nat.{ℕ, ◌+◌, ◌*◌, ◌^◌, ◌≤◌, ◌<◌}
use native.Mathlib.Nat.{le_of_lt, mul-pos, mul-le-mul_left, mul-le-mul_right}
use native.Mathlib.Omega.{arith}
use lib.Dec.{leb}
use borrow.Author.Tests.{leb-true, leb-false}
use Rattle.std.specs.List.{sum_by}
use Rattle.std.proofs.lemmas.List.Sums.{sum_by-cons}
use Rattle.nearness.specs.Ratio.{Ratio, whole, times, over, plus}
use Rattle.reading.specs.declared.Second.{Second}
use Rattle.correction.specs.Claims.{RoundedAndHeld}
use Rattle.correction.specs.Dilution.{dilution_divisor, dcf_of}
use Rattle.correction.specs.Humidity.{dry_pressure, humidity_divisor, k_h}
use Rattle.correction.specs.Rounding.{HalfUpOf}
use Rattle.correction.proofs.Halves.{half_up_exact}
use Rattle.correction.proofs.Held.{dcf_held, dcf_rounded}
use Rattle.correction.proofs.Ranges.{InRange, in_range_lem, divisor_positive}
use Rattle.vehicle.specs.Checked.{vehicle_of}
use Rattle.vehicle.specs.Claims.{FitFor}
use Rattle.vehicle.specs.declared.Settings.{Settings}
use Rattle.vehicle.specs.declared.Vehicle.{Vehicle}
use Rattle.vehicle.proofs.Fitness.{humidity_fit_of, pressure_fit_of}
use Rattle.vehicle.proofs.FitVehicle.{checked_fit}
use Rattle.window.specs.Plain.{second_dcf}
use Rattle.window.specs.declared.Counts.{Counts}
use Rattle.window.proofs.Plainly.{averages_exact}
use Rattle.averaging.specs.Exact.{dilution_fraction, exact_dcf, exact_k, hc_in, co_in, no_in, exact_sum, exact_averages}
use Rattle.averaging.specs.Premise.{counts_of_second, conditions_in}
use Rattle.averaging.specs.Whole.{NearWhole, WholesNear}
use Rattle.averaging.proofs.Held.{held, held_least, held_greatest, held_between}

-- |s − 10^6·v| ≤ c/2, both ways.
record Millionths (s : ℕ) (v : Ratio) (c : ℕ) : Type 0 where
  divides : 0 < v.bottom
  most : 2 * (s * v.bottom) ≤ 2 * (10 ^ 6 * v.top) + c * v.bottom
  least : 2 * (10 ^ 6 * v.top) ≤ 2 * (s * v.bottom) + c * v.bottom

-- A quotient rounded to millionths is half a millionth off at most.
quotient_near : (a b m n : ℕ) → m ≡ 10 ^ 6 * a → 0 < b → HalfUpOf m b n → Millionths n (over (whole a) (whole b)) 1
unfolding over whole
quotient_near a b m n e pos h = record { divides = omega arith; most = omega (arith, h.0); least = omega (arith, h.1) }

-- A whole number of millionths is exact.
exact_near : (n m : ℕ) → n ≡ 10 ^ 6 * m → Millionths n (whole m) 1
unfolding whole
exact_near n m e = record { divides = omega arith; most = omega arith; least = omega arith }

-- DCF in millionths is half a millionth off at most, from D,
dcf_at : (d n : ℕ) → RoundedAndHeld d n → Millionths n (held d) 1
dcf_at d n h = go (leb d (10 ^ 7)) refl (leb (10 ^ 7) (3 * d)) refl
  where
    go : (a : Bool) → leb d (10 ^ 7) ≡ a → (b : Bool) → leb (10 ^ 7) (3 * d) ≡ b → Millionths n (held d) 1
    go false e b f =
        let l : 10 ^ 7 < d = leb-false d (10 ^ 7) e in
        held_least (λ r. Millionths n r 1) d l (exact_near n 1 (h.below l))
    go true e false f =
        let l : 3 * d < 10 ^ 7 = leb-false (10 ^ 7) (3 * d) f in
        held_greatest (λ r. Millionths n r 1) d l (exact_near n 3 (h.above l))
    go true e true f =
        let m : d ≤ 10 ^ 7 = leb-true d (10 ^ 7) e in
        let l : 10 ^ 7 ≤ 3 * d = leb-true (10 ^ 7) (3 * d) f in
        held_between (λ r. Millionths n r 1) d m l (quotient_near (10 ^ 7) d (10 ^ 13) n (omega arith) (omega arith) (h.within l m))

-- and so of a second's counts.
dcf_near : (c : Counts) → Millionths (dcf_of c.co2 c.co) (exact_dcf c) 1
unfolding exact_dcf dilution_fraction
dcf_near c = dcf_at (dilution_divisor c.co2 c.co) (dcf_of c.co2 c.co) (dcf_rounded c.co2 c.co)

-- A count times DCF is half a millionth off for each of the count.
times_near : (n d : ℕ) (q : Ratio) → Millionths d q 1 → Millionths (n * d) (times (whole n) q) n
unfolding times whole
times_near n d q h =
    record {
      divides = omega (arith, h.divides);
      most = omega (arith, mul-le-mul_left n h.most);
      least = omega (arith, mul-le-mul_left n h.least);
    }

-- A sum is as far off as both together.
plus_near : (s t c d : ℕ) (x y : Ratio) → Millionths s x c → Millionths t y d → Millionths (s + t) (plus x y) (c + d)
unfolding plus
plus_near s t c d x y h k =
    record {
      divides = mul-pos h.divides k.divides;
      most = omega (arith, mul-le-mul_right y.bottom h.most, mul-le-mul_left x.bottom k.most);
      least = omega (arith, mul-le-mul_right y.bottom h.least, mul-le-mul_left x.bottom k.least);
    }

-- The sums over the seconds.
module _ (count : Counts → ℕ) where
  abbrev counted : Second → ℕ
  counted s = count (counts_of_second s)

  abbrev product : Second → ℕ
  product s = counted s * second_dcf s

  -- As many halves of a millionth off as there are counts.
  sum_near : (l : List Second) → Millionths (sum_by product l) (exact_sum count (map counts_of_second l)) (sum_by counted l)
  unfolding exact_sum whole
  sum_near [] = record { divides = omega arith; most = omega arith; least = omega arith }
  sum_near (s ∷ l) =
      rw (sum_by-cons product s l, sum_by-cons counted s l)
      (plus_near (product s) (sum_by product l) (counted s) (sum_by counted l) _ _
      (times_near (counted s) (second_dcf s) (exact_dcf (counts_of_second s)) (dcf_near (counts_of_second s))) (sum_near l))

  -- DCF is at most 3.
  sum_most : (l : List Second) → sum_by product l ≤ 3000000 * sum_by counted l
  sum_most [] = omega arith
  sum_most (s ∷ l) =
      omega (
        arith,
        sum_by-cons product s l,
        sum_by-cons counted s l,
        mul-le-mul_left (counted s) (dcf_held s.co2 s.co).greatest,
        sum_most l,
      )

  -- k is one for all seconds.
  with_k : (k : ℕ) (l : List Second) → sum_by (λ s. product s * k) l ≡ sum_by product l * k
  with_k k [] = omega arith
  with_k k (s ∷ l) = rw (sum_by-cons (λ s. product s * k) s l, sum_by-cons product s l, with_k k l) (omega arith)

-- Rounding to the unit adds half of it.
unit_near : (a n c : ℕ) (x : Ratio) → Millionths a x c → HalfUpOf a (10 ^ 7) n → NearWhole n (over x (whole 10)) c
unfolding over whole
unit_near a n c x h r =
    record {
      divides = omega (arith, h.divides);
      near = omega (
        arith,
        mul-le-mul_right x.bottom r.0,
        mul-le-mul_right x.bottom (le_of_lt r.1),
        h.most,
        h.least,
      );
    }

-- A sum's product with k: for each of c, 3 and less than 6 halves of a millionth off.
module _ (s k c : ℕ) (x y : Ratio) (h : Millionths s x c) (g : Millionths k y 1) (three : s ≤ 3000000 * c) (six : k ≤ 5218329) where
  -- The exact k_H is at most half a millionth above 5,218,329 millionths.
  k_most : 2 * (10 ^ 6 * (c * x.bottom * y.top)) ≤ 2 * 5218330 * (c * x.bottom * y.bottom)
  k_most = omega (arith, mul-le-mul_left (c * x.bottom) g.least, mul-le-mul_left (c * x.bottom * y.bottom) six)

  -- s is at most 3·10^6·c.
  s_most : s * x.bottom * y.bottom ≤ 3000000 * (c * x.bottom * y.bottom)
  s_most = omega (arith, mul-le-mul_right (x.bottom * y.bottom) three)

  -- 2·|s·k − 10^12·x·y| ≤ 9·10^6·c, both ways.
  product_most : 2 * (s * k * (x.bottom * y.bottom)) ≤ 2 * (10 ^ 12 * (x.top * y.top)) + 9000000 * (c * x.bottom * y.bottom)
  product_most = omega (arith, mul-le-mul_right y.top h.most, mul-le-mul_left (s * x.bottom) g.most, k_most, s_most)

  product_least : 2 * (10 ^ 12 * (x.top * y.top)) ≤ 2 * (s * k * (x.bottom * y.bottom)) + 9000000 * (c * x.bottom * y.bottom)
  product_least = omega (arith, mul-le-mul_right y.top h.least, mul-le-mul_left (s * x.bottom) g.least, k_most, s_most)

  -- Rounding to the unit adds half of it here too.
  nitric_near : (n : ℕ) → HalfUpOf (s * k) (10 ^ 13) n → NearWhole n (times (over x (whole 10)) y) (9 * c)
  unfolding times over whole
  nitric_near n r =
      record {
        divides = mul-pos {m = x.bottom * 10} (omega (arith, h.divides)) g.divides;
        near = omega (
          arith,
          mul-le-mul_right (x.bottom * y.bottom) r.0,
          mul-le-mul_right (x.bottom * y.bottom) (le_of_lt r.1),
          product_most,
          product_least,
        );
      }

-- k_H in millionths is half a millionth off at most,
k_near : (r b p : ℕ) → InRange r b p → Millionths (k_h r b p) (exact_k (record { humidity = r; pressure = b; saturation = p })) 1
unfolding k_h exact_k
k_near r b p h =
    let pos : 0 < humidity_divisor r b p = divisor_positive r b p h in
    quotient_near (10 ^ 6 * dry_pressure r b p) (humidity_divisor r b p) (10 ^ 12 * dry_pressure r b p) _ (omega arith) pos
    (half_up_exact _ _ pos)

-- and so is a checked vehicle's k.
vehicle_near : (s : Settings) (p : ℕ) (v : Vehicle) → FitFor s p v → Millionths v.k (exact_k (conditions_in s p)) 1
unfolding vehicle_of
vehicle_near s p v h =
    subst⁻¹ (λ (w : Vehicle). Millionths w.k (exact_k (conditions_in s p)) 1) h.derived
    (k_near s.humidity s.pressure p
    (in_range_lem _ _ _ (humidity_fit_of s h.settings_are_fit) (pressure_fit_of s h.settings_are_fit) h.saturation_is_fit))

pub wholes_near : WholesNear
unfolding exact_averages
wholes_near s p v e mode l c n =
    let fit = checked_fit s p v e in
    let a = averages_exact.averaged s p v e mode l c (omega arith) in
    record {
      hc = unit_near (sum_by (product hc_in) l) _ _ _ (sum_near hc_in l) a.hc;
      co = unit_near (sum_by (product co_in) l) _ _ _ (sum_near co_in l) a.co;
      nitric =
          nitric_near (sum_by (product no_in) l) v.k _ _ _ (sum_near no_in l) (vehicle_near s p v fit) (sum_most no_in l) fit.most _
          (rw (with_k no_in v.k l) at a.nitric);
    }
