-- `bench::step` meets its contract. Assumes nothing.
use Rattle.bench.proofs.Refusing.{stepped}
use Rattle.bench.specs.Stepping.{step_by}
use Rattle.bench.proofs.step.Goals as goal

pub returns-in-Ok : goal.returns-in-Ok
unfolding step_by
returns-in-Ok c = stepped _ _ _ _ c.contents_of-contents.ensures (rw (← c.order_check.ensures, c.in-Ok.is) c.taken.ensures)
