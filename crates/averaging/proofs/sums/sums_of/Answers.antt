-- `averaging::sums::sums_of` meets its contract. Assumes nothing.
use mathlib.Core.Path.{◌≡◌, subst}
use Prim.Native.Nat.{ℕ}
use native.Mathlib.Omega.{arith}
use lib.ListN.{drop}
use Rattle.averaging.specs.Sums.{SumsSound}
use Rattle.averaging.proofs.Summing.{start_sound, before_sound}
use Rattle.averaging.proofs.sums.sums_of.Goals as goal

pub loop-i-init : goal.loop-i-init
loop-i-init c = (omega arith, start_sound c.args.w.now c.told-w)

pub loop-i-preserved : goal.loop-i-preserved
loop-i-preserved c = (
  omega (arith, c.loop-i.invariant.0),
  before_sound c.args.w.now c.told-w c.loop-i.i _ c.loop-i.sums c.with_second-sums.result (omega (arith, c.loop-i-test.true)) c.loop-i.invariant.0
      c.with_second-sums.ensures
      c.loop-i.invariant.1,
)

pub returns : goal.returns
returns c =
    let none_left : c.loop-i.i ≡ 0 = omega (arith, c.loop-i-test.false) in
    subst (λ (n : ℕ). SumsSound (drop n c.args.w.now) c.loop-i.sums) none_left c.loop-i.invariant.1
