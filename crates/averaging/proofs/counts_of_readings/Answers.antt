-- `averaging::counts_of_readings` meets its contract. Assumes nothing.
use Rattle.std.proofs.Common.{rules}
use Rattle.std.specs.Prelude.{Err}
use Rattle.refusal.specs.declared.Refusal.TheVariants.{NoTest}
use Rattle.averaging.specs.Premise.{counts_of_reading}
use Rattle.averaging.proofs.Mapped.{map_is}
use Rattle.averaging.proofs.counts_of_readings.Goals as goal

pub returns : goal.returns
returns c =
    map_is counts_of_reading _ _ c.args.seconds c.map.result (Err NoTest) (λ q x y k. (search rules, search rules)) 10 (search rules) c.map.ensures.items
