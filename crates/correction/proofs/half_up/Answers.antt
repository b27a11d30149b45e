-- `correction::half_up` meets its contract: by quotient and remainder. Assumes nothing.
use mathlib.Core.Path.{sym}
use native.Mathlib.Nat.{mod-lt}
use native.Mathlib.Omega.{arith}
use Rattle.correction.proofs.Halves.{none, down, up, room, half_up_exact}
use Rattle.correction.proofs.half_up.Goals as goal

pub returns-then-b-eq0 : goal.returns-then-b-eq0
returns-then-b-eq0 c = (sym (none _ _ c.if-b-eq0.true), half_up_exact)

pub overflow_sub-b : goal.overflow_sub-b
overflow_sub-b c = omega (arith, mod-lt c.args.a {m = c.args.b} (omega arith))

pub returns-then-rest-b : goal.returns-then-rest-b
returns-then-rest-b c = (sym (down _ _ (omega arith) (omega arith)), half_up_exact)

pub overflow_add-result : goal.overflow_add-result
overflow_add-result c = omega (arith, room c.args.a c.args.b (omega arith) (omega arith))

pub returns : goal.returns
returns c = (sym (up _ _ (omega arith) (omega arith)), half_up_exact)
