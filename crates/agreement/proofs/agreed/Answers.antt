-- `agreement::agreed` meets its contract. Assumes nothing.
use Rattle.agreement.proofs.SameVerdict.{same_verdict}
use Rattle.agreement.proofs.agreed.Goals as goal

pub returns : goal.returns
returns c = same_verdict
