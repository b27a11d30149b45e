-- `averaging::counts_of_window` meets its contract. Assumes nothing.
use Rattle.std.proofs.Common.{rules}
use Rattle.window.specs.Measuring.{counts_of, blank_measured}
use Rattle.averaging.proofs.Mapped.{map_is}
use Rattle.averaging.proofs.counts_of_window.Goals as goal

pub returns : goal.returns
returns c =
    map_is counts_of _ _ c.args.w c.map.result blank_measured (λ q x y k. (search rules, search rules)) 10 (search rules) c.map.ensures.items
