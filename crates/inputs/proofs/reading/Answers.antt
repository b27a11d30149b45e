-- `inputs::reading` meets its contract: the reading of a pair of shorts. Assumes nothing.
use Rattle.reading.specs.Kind.{reading_of}
use Rattle.inputs.specs.Inputs.{long_of, reading_in}
use Rattle.inputs.proofs.Taken.{took, made}
use Rattle.inputs.proofs.reading.Goals as goal

pub returns : goal.returns
unfolding reading_in
returns g c = made reading_of 4 long_of _ _ _ _ (took 4 long_of _ _ _ _ c.in_ok-pair.was c.pair.ensures) c.from_bits.ensures
