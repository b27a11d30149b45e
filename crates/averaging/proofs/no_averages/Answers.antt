-- `averaging::no_averages` meets its contract: the literal is -1. Assumes nothing.
use mathlib.Core.Path.{refl}
use lib.Ieee.{neg, of_bits}
use Rattle.averaging.proofs.no_averages.Goals as goal

pub returns : goal.returns
unfolding neg of_bits
returns c = refl
