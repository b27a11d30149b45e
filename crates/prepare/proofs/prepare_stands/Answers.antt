use Rattle.std.proofs.Common.{arith}
use Rattle.std.proofs.lemmas.Grind.{common_steps}
use Rattle.prepare.specs.Standing.{prepare_stands}
use Rattle.prepare.proofs.Exact.{prepare_claims}
use Rattle.prepare.proofs.prepare_stands.Goals as goal

pub returns-then-p-lt25 : goal.returns-then-p-lt25
unfolding prepare_stands
returns-then-p-lt25 c = (grind (arith, common_steps, c.residue_fit.ensures), prepare_claims)

pub returns-else-p-lt25 : goal.returns-else-p-lt25
unfolding prepare_stands
returns-else-p-lt25 c = (grind (arith, common_steps), prepare_claims)
