-- 004's annex AB as it is printed there, in exact fractions of whole numbers: nothing is rounded and no formula is reduced.
-- The claims at the end say that the dilution sum and the reduced forms are the same fractions.
use Rattle.std.specs.Prelude.{ℕ, ◌+◌, ◌*◌, ◌^◌, ◌<◌, ◌≡◌, true}
use Rattle.reading.specs.declared.Hundredths.{Hundredths}
use Rattle.correction.specs.Dilution.{dilution_sum, dilution_divisor}
use Rattle.correction.specs.Humidity.{humidity_fit, pressure_fit, saturation_fit, dry_pressure, humidity_divisor}

-- A whole number, which may be below zero: plus − minus.
pub record Whole : Type 0 where
  pub plus : ℕ
  pub minus : ℕ

-- A fraction of two whole numbers: above/below.
pub record Fraction : Type 0 where
  pub above : Whole
  pub below : Whole

-- Their sum.
abbrev pub added : Whole → Whole → Whole
added x y = record { plus = x.plus + y.plus; minus = x.minus + y.minus }

-- The number with its sign changed.
abbrev pub negated : Whole → Whole
negated x = record { plus = x.minus; minus = x.plus }

-- Their product.
abbrev pub multiplied : Whole → Whole → Whole
multiplied x y = record { plus = x.plus * y.plus + x.minus * y.minus; minus = x.plus * y.minus + x.minus * y.plus }

infixl 60 ◌+ᶠ◌
infixl 60 ◌-ᶠ◌
infixl 70 ◌*ᶠ◌
infixl 70 ◌/ᶠ◌
-- The sum, difference, product and quotient of two fractions.
abbrev pub ◌+ᶠ◌ : Fraction → Fraction → Fraction
x +ᶠ y = record { above = added (multiplied x.above y.below) (multiplied y.above x.below); below = multiplied x.below y.below }

-- Their difference.
abbrev pub ◌-ᶠ◌ : Fraction → Fraction → Fraction
x -ᶠ y = x +ᶠ record { above = negated y.above; below = y.below }

-- Their product.
abbrev pub ◌*ᶠ◌ : Fraction → Fraction → Fraction
x *ᶠ y = record { above = multiplied x.above y.above; below = multiplied x.below y.below }

-- Their quotient.
abbrev pub ◌/ᶠ◌ : Fraction → Fraction → Fraction
x /ᶠ y = record { above = multiplied x.above y.below; below = multiplied x.below y.above }

-- n/d; a decimal number such as 4.644 is 4644/1000.
abbrev pub ratio : ℕ → ℕ → Fraction
ratio n d = record { above = record { plus = n; minus = 0 }; below = record { plus = d; minus = 0 } }

-- What is divided by is above zero.
abbrev pub Positive : Whole → Type 0
Positive x = x.minus < x.plus

-- Two fractions are the same number: neither divides by zero, and crosswise their products are equal, which for whole
-- numbers plus − minus is an equality of sums.
pub record Same (x y : Fraction) : Type 0 where
  pub left : Positive x.below
  pub right : Positive y.below
  pub equal :
      (multiplied x.above y.below).plus + (multiplied y.above x.below).minus ≡
      (multiplied y.above x.below).plus + (multiplied x.above y.below).minus

-- A measured concentration in %: so many hundredths of a %.
abbrev pub percentage : Hundredths → Fraction
percentage gas = ratio gas.0 100

-- AB1: X = CO2/(CO2 + CO), of the measured concentrations in %.
abbrev pub carbon_share : Fraction → Fraction → Fraction
carbon_share co2 co = co2 /ᶠ (co2 +ᶠ co)

-- AB1: the calculated CO2 is X/(4.644 + 1.88·X)·100.
abbrev pub calculated_co2 : Fraction → Fraction
calculated_co2 x = x /ᶠ (ratio 4644 1000 +ᶠ ratio 188 100 *ᶠ x) *ᶠ ratio 100 1

-- AB1: DCF is the calculated CO2 over the measured CO2.
abbrev pub annex_dcf : Hundredths → Hundredths → Fraction
annex_dcf co2 co = calculated_co2 (carbon_share (percentage co2) (percentage co)) /ᶠ percentage co2

-- AB2: H = 6.211·R·P/(P_B − R·P/100), with R in %, P and P_B in kPa.
abbrev pub absolute_humidity : Fraction → Fraction → Fraction → Fraction
absolute_humidity r p b = ratio 6211 1000 *ᶠ r *ᶠ p /ᶠ (b -ᶠ r *ᶠ p *ᶠ ratio 1 100)

-- AB2: k_H = 1/(1 − 0.0329·(H − 10.71)).
abbrev pub correction_at : Fraction → Fraction
correction_at h = ratio 1 1 /ᶠ (ratio 1 1 -ᶠ ratio 329 10000 *ᶠ (h -ᶠ ratio 1071 100))

-- AB2 at humidity r in %, pressure b in 0.1 kPa and saturation pressure p in Pa.
abbrev pub annex_k : ℕ → ℕ → ℕ → Fraction
annex_k r b p = correction_at (absolute_humidity (ratio r 1) (ratio p 1000) (ratio b 10))

-- The dilution sum, in hundredths of a %, is the sum of the two concentrations in %.
abbrev pub SumOfPercentages : Type 0
SumOfPercentages =
    (co2 co : Hundredths) → Same (percentage co2 +ᶠ percentage co) (ratio (dilution_sum co2 co) 100)

-- "AB1 reduces to 10^7/D", in millionths 10^13/D, wherever it is defined: where there is some CO2.
abbrev pub DilutionReduced : Type 0
DilutionReduced =
    (co2 co : Hundredths) → 0 < co2.0 → Same (annex_dcf co2 co) (ratio (10 ^ 7) (dilution_divisor co2 co))

-- AB2 reduces to 10^6·E/(1,352,359E − 20,434,190rp), in millionths 10^12·E/(..), within the ranges of the settings and of p.
abbrev pub HumidityReduced : Type 0
HumidityReduced =
    (r b p : ℕ) →
    humidity_fit r ≡ true →
    pressure_fit b ≡ true →
    saturation_fit p ≡ true →
    Same (annex_k r b p) (ratio (10 ^ 6 * dry_pressure r b p) (humidity_divisor r b p))
