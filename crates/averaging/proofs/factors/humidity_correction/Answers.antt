-- `averaging::factors::humidity_correction` meets its contract: both numbers are exact, and the divisor is above 0. Assumes nothing.
use Rattle.averaging.specs.Exact.{exact_k}
use Rattle.averaging.proofs.Conditions.{k_sound}
use Rattle.averaging.proofs.factors.humidity_correction.Goals as goal

pub returns : goal.returns
unfolding exact_k
returns c =
    rw (c.dry_pressure-dry.ensures, c.humidity_divisor-divisor.ensures) (k_sound c.args.x c.requires)
