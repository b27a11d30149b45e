-- What holds of DCF and of k_H for all counts and settings; the contracts of `dcf` and `humidity_factor` carry it.
use Rattle.std.specs.Prelude.{ℕ, ◌*◌, ◌^◌, ◌≤◌, ◌<◌, true, ◌≡◌}
use Rattle.reading.specs.declared.Hundredths.{Hundredths}
use Rattle.correction.specs.Rounding.{HalfUpOf}
use Rattle.correction.specs.Dilution.{dilution_divisor, dcf_of}
use Rattle.correction.specs.Humidity.{humidity_fit, pressure_fit, saturation_fit, humidity_divisor, k_h}
use Rattle.correction.specs.Annex.{DilutionReduced, HumidityReduced}

-- "held within 1,000,000 and 3,000,000"
pub record Held (x : ℕ) : Type 0 where
  pub least : 1000000 ≤ x
  pub greatest : x ≤ 3000000

-- n is 10^13/D rounded half up where that lies from 1,000,000 to 3,000,000, and what it is held at elsewhere.
pub record RoundedAndHeld (d n : ℕ) : Type 0 where
  pub within : 10 ^ 7 ≤ 3 * d → d ≤ 10 ^ 7 → HalfUpOf (10 ^ 13) d n
  pub above : 3 * d < 10 ^ 7 → n ≡ 3000000
  pub below : 10 ^ 7 < d → n ≡ 1000000

-- DCF is annex AB1's fraction, rounded half up, and held for every pair of counts.
pub record DilutionClaims : Type 0 where
  pub reduced : DilutionReduced
  pub rounded : (co2 co : Hundredths) → RoundedAndHeld (dilution_divisor co2 co) (dcf_of co2 co)
  pub held : (co2 co : Hundredths) → Held (dcf_of co2 co)

-- Within the ranges of the settings and of p the divisor is above zero, and k is at most 5,218,329 millionths.
pub record Divides (r b p : ℕ) : Type 0 where
  pub positive : 0 < humidity_divisor r b p
  pub most : k_h r b p ≤ 5218329

-- k_H is annex AB2's fraction, and its divisor is above zero.
pub record HumidityClaims : Type 0 where
  pub reduced : HumidityReduced
  pub divides :
      (r b p : ℕ) → humidity_fit r ≡ true → pressure_fit b ≡ true → saturation_fit p ≡ true → Divides r b p
