-- Document 01's paragraph on voids, the end of a mode, and step 5.
use Rattle.std.specs.Prelude.{ℕ, Bool, eqb}
use Rattle.refusal.specs.Choice.{pick}
use Rattle.vehicle.specs.declared.Mode.{Mode}
use Rattle.vehicle.specs.declared.Mode.TheVariants.{One, Two}
use Rattle.loaded_test.specs.declared.Word.{Word}
use Rattle.loaded_test.specs.declared.Word.TheVariants.{Fail, Incomplete}
use Rattle.loaded_test.specs.declared.Did.{Did}
use Rattle.loaded_test.specs.declared.Did.TheVariants.{Voided}
use Rattle.loaded_test.specs.declared.Next.TheVariants.{GoesOn, Rests, ModeTwo, Ends}
use Rattle.loaded_test.specs.declared.Stage.TheVariants.{Settling, Rest}
use Rattle.loaded_test.specs.declared.VoidCounts.{VoidCounts}
use Rattle.loaded_test.specs.declared.Progress.{Progress}
use Rattle.loaded_test.specs.declared.Turn.{Turn}
use Rattle.loaded_test.specs.State.{emptied, no_voids, with_verdict, verdict_of, turn}
use Rattle.attempt.specs.Counting.{bump, in_row}

-- "A verdict keeps the last attempt's counts and window."
abbrev pub ended : Did → Word → VoidCounts → Progress → Turn
ended did word k p = turn did (Ends (verdict_of word p.measuring)) (with_verdict word k p)

-- "mode 2 begins, settling, windows empty, every count 0, c, r and q too"; "or is a fail in mode 2".
unfoldable pub mode_ended : Mode → Did → VoidCounts → Progress → Turn
mode_ended One did k p = turn did ModeTwo (emptied Two Settling no_voids)
mode_ended Two did k p = ended did Fail k p

-- "A void adds 1 to r; void 9 adds 1 to q, another sets q = 0."
unfoldable pub void_counted : ℕ → VoidCounts → VoidCounts
void_counted n k = record { voids = bump k.voids; inconclusive = in_row (eqb n 9) k.inconclusive }

-- "q = 2: mode 2 begins, or fail in mode 2. Else r = 3: incomplete. Else rest, windows empty and every count but r and q 0."
unfoldable pub void_next : Bool → Bool → ℕ → VoidCounts → Progress → Turn
void_next twice third n k p =
    pick twice
    (mode_ended p.mode (Voided n) k p)
    (pick third (ended (Voided n) Incomplete k p) (turn (Voided n) Rests (emptied p.mode Rest k)))

-- "q = 2"
unfoldable pub twice_inconclusive : VoidCounts → Bool
twice_inconclusive k = eqb k.inconclusive 2

-- "r = 3"
unfoldable pub third_void : VoidCounts → Bool
third_void k = eqb k.voids 3

-- What follows a void, by r and q with it.
unfoldable pub void_followed : ℕ → VoidCounts → Progress → Turn
void_followed n k p = void_next (twice_inconclusive k) (third_void k) n k p

-- A void of a number.
unfoldable pub voided : ℕ → Progress → Turn
voided n p = void_followed n (void_counted n p.voids) p

-- "5. If still in the attempt and c = 145: void 8."
unfoldable pub step_five : Did → Progress → Turn
step_five did p = pick (eqb p.counted 145) (voided 8 p) (turn did GoesOn p)
