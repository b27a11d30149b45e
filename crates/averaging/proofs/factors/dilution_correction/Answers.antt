-- `averaging::factors::dilution_correction` meets its contract, by where D lies. Assumes nothing.
use mathlib.Core.Path.{subst}
use Prim.Native.Nat.{ℕ}
use native.Mathlib.Omega.{arith}
use lib.IntN.{pos}
use lib.Ieee.{binary64, of_bits, of_int, div}
use Rattle.nearness.specs.Near.{Sound}
use Rattle.averaging.specs.Exact.{dilution_fraction, exact_dcf}
use Rattle.averaging.proofs.Held.{held, dcf_least, dcf_greatest, dcf_between}
use Rattle.averaging.proofs.factors.dilution_correction.Goals as goal

pub returns-then-d-gt10000000 : goal.returns-then-d-gt10000000
unfolding exact_dcf dilution_fraction
returns-then-d-gt10000000 c = dcf_least _ (omega (arith, c.dilution_divisor-d.ensures, c.if-d-gt10000000.true))

pub returns-then-d-lt10000000 : goal.returns-then-d-lt10000000
unfolding exact_dcf dilution_fraction
returns-then-d-lt10000000 c = dcf_greatest _ (omega (arith, c.dilution_divisor-d.ensures, c.if-d-lt10000000.true))

pub returns : goal.returns
unfolding exact_dcf dilution_fraction
returns c =
    let d = c.dilution_divisor-d.result in
    subst (λ (n : ℕ). Sound (div binary64 (of_bits binary64 4711630319722168320) (of_int binary64 (pos d))) 1 4 (held n))
    c.dilution_divisor-d.ensures
    (dcf_between d (omega (arith, c.if-d-gt10000000.false)) (omega (arith, c.if-d-lt10000000.false)))
