-- `inputs::fill_by`: what was read so far stands at the buffer's start; each read but the last leaves less of the buffer. Assumes nothing.
use Rattle.std.proofs.Common.{length, take, ◌-◌, ◌≤◌}
use Rattle.inputs.proofs.Filled.{SoFar}
use Rattle.inputs.proofs.fill_by.Given as goal

abbrev pub invariant-loop-done : goal.invariant-loop-done
invariant-loop-done g l =
    (l.done ≤ length l.into) × SoFar (g.R.Read.remaining l.initial.input) (g.R.Read.remaining l.input) (take l.done l.into)

abbrev pub decreases-loop-done : goal.decreases-loop-done
decreases-loop-done g l = length l.into - l.done
