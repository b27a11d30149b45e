-- `correction::humidity_factor` meets its contract: within the ranges k fits 32 bits. Assumes nothing.
use native.Mathlib.Omega.{arith}
use mathlib.Core.Path.{◌≡◌}
use Prim.Native.Nat.{ℕ, ◌*◌, ◌^◌}
use Rattle.correction.specs.Rounding.{half_up}
use Rattle.correction.specs.Humidity.{dry_pressure, humidity_divisor, k_h}
use Rattle.correction.proofs.Ranges.{k_within}
use Rattle.correction.proofs.Reduced.{humidity_claims}
use Rattle.correction.proofs.Tested.{passed, factor_none, factor_some}
use Rattle.correction.proofs.humidity_factor.Goals as goal

pub returns-then-not-humidity_fit-pressure_fit : goal.returns-then-not-humidity_fit-pressure_fit
returns-then-not-humidity_fit-pressure_fit c = (factor_none _ _ _ _ _ _ c.humidity_fit.ensures c.pressure_fit.ensures c.saturation_fit.ensures c.if-not-humidity_fit-pressure_fit.true-raw, humidity_claims)

-- The quotient of the two numbers that were worked out is k.
quotient : (r b p : ℕ) {d e k : ℕ} → d ≡ dry_pressure r b p → e ≡ humidity_divisor r b p → k ≡ half_up (10 ^ 12 * d) e → k ≡ k_h r b p
unfolding k_h
quotient r b p e f h = rw (h, e, f)

pub overflow_cast-result : goal.overflow_cast-result
overflow_cast-result c =
    omega (
      arith,
      quotient c.args.humidity c.args.pressure c.args.saturation c.dry_pressure-dry.ensures c.humidity_divisor-divisor.ensures c.half_up.ensures.0,
      k_within c.args.humidity c.args.pressure c.args.saturation
          (passed _ _ _ _ _ _ c.humidity_fit.ensures c.pressure_fit.ensures c.saturation_fit.ensures c.if-not-humidity_fit-pressure_fit.false-raw),
    )

pub returns : goal.returns
returns c = (factor_some _ _ _ _ _ _ c.humidity_fit.ensures c.pressure_fit.ensures c.saturation_fit.ensures _ c.if-not-humidity_fit-pressure_fit.false-raw (quotient c.args.humidity c.args.pressure c.args.saturation c.dry_pressure-dry.ensures c.humidity_divisor-divisor.ensures c.half_up.ensures.0), humidity_claims)
