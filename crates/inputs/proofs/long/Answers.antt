-- `inputs::long` meets its contract: a pair of shorts in four bytes taken. Assumes nothing.
use Rattle.std.proofs.Common.{arith}
use Rattle.inputs.specs.Inputs.{long_of}
use Rattle.inputs.proofs.Buffer.{long_in, through}
use Rattle.inputs.proofs.long.Goals as goal

pub returns : goal.returns
returns g c = through 4 long_of _ _ _ _ _ _ (λ xs. long_in 4 0 xs (omega arith)) c.as_slice.ensures c.pair.ensures c.in_ok-bytes.ensures
