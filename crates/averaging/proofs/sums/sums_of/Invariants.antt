-- `averaging::sums::sums_of`: the sums are those of the seconds from i on. Assumes nothing.
use Prim.Native.Nat.{◌≤◌}
use lib.ListN.{drop}
use Rattle.averaging.specs.Sums.{SumsSound}
use Rattle.averaging.proofs.sums.sums_of.Given as goal

abbrev pub invariant-loop-i : goal.invariant-loop-i
invariant-loop-i l = (l.i ≤ 10) × SumsSound (drop l.i l.w) l.sums

abbrev pub decreases-loop-i : goal.decreases-loop-i
decreases-loop-i l = l.i
