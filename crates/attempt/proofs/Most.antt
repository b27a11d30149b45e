-- The greatest counts of settling after a second. Assumes nothing.
use Prim.Native.Nat.{ℕ, suc, ◌≤◌}
use native.Mathlib.Omega.{arith}
use mathlib.Core.Bool.{Bool, true, false, not}
use Rattle.std.proofs.lemmas.Bool.Decides.{nat_tests}
use Rattle.refusal.specs.Choice.{pick}
use Rattle.vehicle.specs.Driving.{target_of}
use Rattle.vehicle.specs.declared.Mode.TheVariants.{One, Two}
use Rattle.attempt.specs.declared.SettlingCounts.{SettlingCounts}
use Rattle.attempt.specs.Counting.{in_row, in_all}
use Rattle.attempt.specs.Ready.{within, ready}
use Rattle.attempt.specs.Settling.{ready_counted, grown, begun_anew, watched, settled_one, settled_two, second_one, second_two}
use Rattle.attempt.specs.Laws.{Settled, FirstMost, NextMost}

pub row_most : (most : ℕ) (b : Bool) (n : ℕ) → n ≤ most → in_row b n ≤ suc most
unfolding in_row pick
row_most most true n h = omega arith
row_most most false n h = omega arith

pub all_most : (most : ℕ) (b : Bool) (n : ℕ) → n ≤ most → in_all b n ≤ suc most
unfolding in_all pick
all_most most true n h = omega arith
all_most most false n h = omega arith

watched_most :
    (most : ℕ) (out : Bool) (k : SettlingCounts) →
    k.seconds ≤ most → k.ready ≤ 11 → k.row ≤ 1 → k.all ≤ 4 → Settled most (watched out k)
unfolding watched pick begun_anew
watched_most most out k seconds ready row all = grind (arith, nat_tests, row_most, all_most)

-- n is at most 25 after a second of settling in mode 1, at most 15 in mode 2.
pub first_most : FirstMost
unfolding second_one settled_one pick
first_most v s k seconds ready' row all =
    let g = ready_counted (ready v One s) k in
    let h : g.ready ≤ 11 = row_most 10 (ready v One s) k.ready ready' in
    grind (arith, nat_tests, watched_most 25 (not (within 50 s.speed (target_of v One))) (grown g) (omega arith) h row all)

pub next_most : NextMost
unfolding second_two settled_two pick
next_most v s k seconds ready' row all = grind (arith, nat_tests, row_most 10 (ready v Two s) k.ready ready')
