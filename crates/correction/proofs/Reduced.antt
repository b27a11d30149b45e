-- Document 01's reduced forms of AB1 and AB2 are the annex's own fractions, and the claims of the crate together. Assumes nothing.
use mathlib.Core.Path.{◌≡◌, ap}
use Prim.Native.Nat.{ℕ, ◌+◌, ◌*◌, ◌^◌}
use native.Mathlib.Nat.{zero-mul, mul-zero, zero-add, add-zero, one-mul, mul-one, mul-pos}
use native.Mathlib.Omega.{arith}
use Rattle.correction.proofs.Held.{dcf_held, dcf_rounded}
use Rattle.correction.proofs.Ranges.{InRange, in_range_lem, divisor_positive, k_within}
use Rattle.correction.specs.Humidity.{dry_pressure, humidity_divisor}
use Rattle.correction.specs.Annex.{Same, ratio, annex_k, SumOfPercentages, DilutionReduced, HumidityReduced}
use Rattle.correction.specs.Claims.{DilutionClaims, HumidityClaims}

ruleset zeros = (zero-mul, mul-zero, zero-add, add-zero, one-mul, mul-one)

pub sum_of_percentages : SumOfPercentages
sum_of_percentages co2 co = record { left = simp zeros (omega arith); right = omega arith; equal = simp zeros (omega arith) }

pub dilution_reduced : DilutionReduced
dilution_reduced co2 co h = record { left = simp zeros (mul-pos (mul-pos (omega arith) (omega arith)) h); right = omega arith; equal = simp zeros (omega arith) }

-- AB2, with e for E and m for the divisor.
same_at :
    (r b p e m : ℕ) →
    InRange r b p →
    e + r * p ≡ 10000 * b →
    m + 20434190 * (r * p) ≡ 1352359 * e →
    Same (annex_k r b p) (ratio (10 ^ 6 * e) m)
same_at r b p e m h he hm =
    record {
      left = simp zeros (omega arith);
      right = omega arith;
      equal = simp zeros (omega (arith, ap (λ (x : ℕ). x * m) he, ap (λ (x : ℕ). x * e) he, ap (λ (x : ℕ). x * e) hm));
    }

pub humidity_reduced : HumidityReduced
humidity_reduced r b p hr hb hp =
    let h = in_range_lem r b p hr hb hp in
    same_at r b p (dry_pressure r b p) (humidity_divisor r b p) h (omega arith) (omega arith)

pub dilution_claims : DilutionClaims
dilution_claims = record { reduced = dilution_reduced; rounded = dcf_rounded; held = dcf_held }

pub humidity_claims : HumidityClaims
humidity_claims =
    record {
      reduced = humidity_reduced;
      divides = λ r b p hr hb hp.
          let h = in_range_lem r b p hr hb hp in
          record { positive = divisor_positive r b p h; most = k_within r b p h };
    }
