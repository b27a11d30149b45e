-- `averaging::decimals::billionths_of` meets its contract. Assumes nothing.
use mathlib.Core.Path.{sym, ap, subst, ◌∙◌}
use Prim.Native.Nat.{ℕ, ◌-◌, ◌/◌, ◌%◌, ◌^◌, ◌<◌}
use native.Mathlib.Omega.{arith}
use Rattle.std.proofs.Common.{rules}
use Rattle.std.specs.Prelude.{Some}
use Rattle.averaging.proofs.Digits.{small_bits, near_bits, near_fits}
use Rattle.averaging.proofs.decimals.billionths_of.Goals as goal

pub returns-then-field-lt992 : goal.returns-then-field-lt992
returns-then-field-lt992 c = small_bits c.args.bits c.requires c.if-field-lt992.true

pub overflow_cast-result-2 : goal.overflow_cast-result-2
overflow_cast-result-2 c =
    let small : c.scaled.result / 2 ^ (1075 - c.args.bits / 4503599627370496) < 2 ^ 64 =
    subst (λ (n : ℕ). n / 2 ^ (1075 - c.args.bits / 4503599627370496) < 2 ^ 64) (sym c.scaled.ensures)
    (near_fits (c.args.bits % 4503599627370496) (c.args.bits / 4503599627370496) (omega arith) (omega (arith, c.requires))) in
    search (rules, small)

pub returns : goal.returns
returns c =
    ap (λ (n : ℕ). Some (n / 2 ^ (1075 - c.args.bits / 4503599627370496))) c.scaled.ensures ∙
    near_bits c.args.bits c.requires c.if-field-lt992.false
