-- `inputs::short` meets its contract: two bytes taken. Assumes nothing.
use Rattle.std.proofs.Common.{arith}
use Rattle.inputs.specs.Inputs.{short_of}
use Rattle.inputs.proofs.Buffer.{short_by, short_in, taken}
use Rattle.inputs.proofs.short.Goals as goal

pub returns : goal.returns
returns g c = taken 2 short_of _ _ _ _ (λ xs. short_in 2 0 xs (omega arith)) (short_by 0 _) c.in_ok-bytes.ensures
