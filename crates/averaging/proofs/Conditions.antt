-- k in floats, under fit conditions. Assumes nothing.
use mathlib.Core.Bool.{true}
use mathlib.Core.Path.{◌≡◌}
use Prim.Native.Nat.{◌*◌}
use native.Mathlib.Omega.{arith}
use lib.IntN.{pos}
use lib.Ieee.{binary64, of_int, div}
use Rattle.nearness.specs.Near.{Sound}
use Rattle.correction.specs.Humidity.{humidity_fit, pressure_fit, saturation_fit, dry_pressure, humidity_divisor}
use Rattle.correction.proofs.Ranges.{InRange, both_true, in_range_lem, divisor_positive}
use Rattle.vehicle.specs.declared.Conditions.{Conditions}
use Rattle.averaging.specs.Exact.{exact_k}
use Rattle.averaging.specs.Premise.{conditions_fit}
use Rattle.averaging.proofs.Literals.{sound_quotient}

-- Fit conditions are within their ranges.
in_range : (x : Conditions) → conditions_fit x ≡ true → InRange x.humidity x.pressure x.saturation
in_range x h =
    let (r, rest) = both_true (humidity_fit x.humidity) _ h in
    let (b, p) = both_true (pressure_fit x.pressure) (saturation_fit x.saturation) rest in
    in_range_lem x.humidity x.pressure x.saturation r b p

pub k_sound :
    (x : Conditions) →
    conditions_fit x ≡ true →
    Sound
    (div binary64
    (of_int binary64 (pos (1000000 * dry_pressure x.humidity x.pressure x.saturation)))
    (of_int binary64 (pos (humidity_divisor x.humidity x.pressure x.saturation))))
    1 8 (exact_k x)
unfolding exact_k
k_sound x h =
    let i = in_range x h in
    sound_quotient _ _ 8 (omega (arith, i.high)) (omega (arith, i.high)) (divisor_positive x.humidity x.pressure x.saturation i)
    (omega (arith, i.low, i.vapour)) (omega (arith, i.low, i.vapour))
