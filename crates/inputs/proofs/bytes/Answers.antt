-- `inputs::bytes` meets its contract: filled as far as the input goes, and zeros behind. Assumes nothing.
use Rattle.inputs.proofs.Buffer.{padded}
use Rattle.inputs.proofs.bytes.Goals as goal

pub returns : goal.returns
returns g c = padded _ _ _ _ _ _ c.fill_by.auto.into c.in_ok-n.ensures.0 c.in_ok-n.ensures.1 c.zero_from.ensures
