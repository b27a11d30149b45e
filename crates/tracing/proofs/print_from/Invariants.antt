-- What was printed so far, and what the events that are left come to, is the whole. Assumes nothing.
use Rattle.std.proofs.Common.{[]}
use Rattle.journaling.specs.Left.{entries_left}
use Rattle.tracing.specs.Whys.{whys_from}
use Rattle.tracing.proofs.Followed.{SoFar}
use Rattle.tracing.proofs.print_from.Given as goal

abbrev pub invariant-loop-entry : goal.invariant-loop-entry
invariant-loop-entry g l =
    SoFar (g.W.Write.contents l.initial.output) (g.W.Write.contents l.output) l.watch (entries_left l.entry-iterator)
    (whys_from l.initial.watch.validity 1 [] l.initial.watch.bench (entries_left l.entries))
