-- The hash so far goes on over the bytes that are left. Assumes nothing.
use Rattle.std.proofs.Common.{◌≡◌, drop}
use Rattle.outputs.specs.Texts.{hash_from, hash_of}
use Rattle.outputs.proofs.hash_of.Given as goal

abbrev pub invariant-loop-b : goal.invariant-loop-b
invariant-loop-b l = hash_from l.hash (drop l.b-index l.s) ≡ hash_of l.s
