-- An interrupted read takes nothing. Assumes nothing.
use Rattle.std.proofs.Common.{◌≡◌, length}
use Rattle.std.specs.Io.KnownBytes.{Keeps}
use Rattle.inputs.proofs.read_once.Given as goal

abbrev pub invariant-loop : goal.invariant-loop
invariant-loop g l =
    (length l.into ≡ length l.initial.into) × Keeps (g.R.Read.remaining l.initial.input) (g.R.Read.remaining l.input)
