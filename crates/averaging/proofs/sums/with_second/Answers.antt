-- `averaging::sums::with_second` meets its contract. Assumes nothing.
use native.Mathlib.Omega.{arith}
use Rattle.averaging.proofs.Summing.{second_more}
use Rattle.averaging.proofs.sums.with_second.Goals as goal

pub returns : goal.returns
returns c l h s =
    second_more c.args.c l _ c.args.sums (omega arith) (omega arith) (omega arith) h c.dilution_correction-dcf.ensures s
