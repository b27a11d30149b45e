-- `inputs::fill_by` meets its contract: one read more. Assumes nothing.
use Rattle.std.proofs.Common.{length, ◌-◌}
use Rattle.inputs.proofs.Filled.{one_read}
use Rattle.inputs.proofs.fill_by.Goals as goal

pub loop-done-preserved : goal.loop-done-preserved
loop-done-preserved g c =
    one_read (g.R.Read.remaining c.args.input.now) (g.R.Read.remaining c.loop-done.input) (g.R.Read.remaining c.read_once.new.input)
    c.loop-done.into c.read_once.new.into c.loop-done.done (length c.loop-done.into - c.loop-done.done) c.in_ok-n.n
    c.loop-done.invariant.0 c.loop-done.invariant.1 c.in_ok-n.ensures.bound.0 c.in_ok-n.ensures.bytes.0
