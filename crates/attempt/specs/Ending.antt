-- The ending rule: the last paragraph of step 4. Whether the speed held is in Speeds.
use Rattle.std.specs.Prelude.{ℕ, Bool, ◌&&◌, leb, eqb}
use Rattle.refusal.specs.Choice.{pick}
use Rattle.attempt.specs.declared.WindowCounts.{WindowCounts}
use Rattle.attempt.specs.declared.Ending.{Ending}
use Rattle.attempt.specs.declared.Ending.TheVariants.{NotYet, Passes, ModeEnds, Inconclusive}

-- "passing ≥ 15 is a pass; else failing ≥ 25 ends mode 1 .. or is a fail in mode 2; else void 9."
unfoldable pub at_ninety : WindowCounts → Ending
at_ninety k = pick (leb 15 k.passing) Passes (pick (leb 25 k.failing) ModeEnds Inconclusive)

-- "If t ≥ 25, passing ≥ 15 and" the speed held "(of this t): pass."
unfoldable pub early_pass : ℕ → WindowCounts → Bool → Bool
early_pass t k held = leb 25 t && leb 15 k.passing && held

-- "pass. Else at t = 90: .."
unfoldable pub ending_rule : ℕ → WindowCounts → Bool → Ending
ending_rule t k held = pick (early_pass t k held) Passes (pick (eqb t 90) (at_ninety k) NotYet)
