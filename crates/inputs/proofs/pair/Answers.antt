-- `inputs::pair` meets its contract: two shorts, one after the other. Assumes nothing.
use Rattle.std.proofs.Common.{◌+◌, ◌*◌}
use Rattle.inputs.specs.Inputs.{short_of, long_of}
use Rattle.inputs.proofs.Taken.{took, started, and_then}
use Rattle.inputs.proofs.pair.Goals as goal

pub returns : goal.returns
unfolding long_of
returns g c =
    let r0 = took 2 short_of _ _ _ _ c.in_ok-low.was c.short.ensures in
    let r1 = took 2 short_of _ _ _ _ c.in_ok-high.was c.short-2.ensures in
    let t0 = started (λ low high. low + 65536 * high) _ in
    let t1 = and_then 0 2 _ short_of _ _ _ _ _ t0 r0 in
    and_then 2 2 _ short_of _ _ _ _ _ t1 r1
