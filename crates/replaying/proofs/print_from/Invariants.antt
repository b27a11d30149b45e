-- What was printed so far, and what the events that are left come to, is the whole. Assumes nothing.
use Rattle.journaling.specs.Left.{entries_left}
use Rattle.replaying.specs.Starts.{lines_from}
use Rattle.replaying.proofs.Turns.{SoFar}
use Rattle.replaying.proofs.print_from.Given as goal

abbrev pub invariant-loop-entry : goal.invariant-loop-entry
invariant-loop-entry g l =
    SoFar (g.W.Write.contents l.initial.output) (g.W.Write.contents l.output) l.bench (entries_left l.entry-iterator)
    (lines_from l.initial.bench (entries_left l.entries))
