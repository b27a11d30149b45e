-- `bench::taking::second_taken` meets its contract. Assumes nothing.
use Rattle.bench.specs.Stepping.{second_taken}
use Rattle.bench.proofs.taking.second_taken.Goals as goal

pub returns-in-Ok : goal.returns-in-Ok
unfolding second_taken
returns-in-Ok c = simp (← c.is_automatic.ensures, ← c.second_of.ensures.0, c.in-Ok.is, ← c.second.ensures.answer) c.test_taken.ensures
