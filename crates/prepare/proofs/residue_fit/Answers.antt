use Rattle.std.proofs.Common.{sym, arith}
use Rattle.prepare.proofs.Exact.{residue_bits}
use Rattle.prepare.proofs.residue_fit.Goals as goal

pub returns : goal.returns
returns c = sym (residue_bits c.args.residue (omega arith))
