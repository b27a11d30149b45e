-- `averaging::decimals::billionths` meets its contract. Assumes nothing.
use mathlib.Core.Path.{sym, ap, subst, ◌∙◌}
use lib.Dec.{T}
use lib.Ieee.{binary64, to_bits}
use lib.Ieee.Bits.{of_bits-to_bits}
use Rattle.reading.proofs.Fields.{no_nan}
use Rattle.averaging.specs.Decimals.{billionths}
use Rattle.averaging.proofs.Digits.{far_bits, none_nan}
use Rattle.averaging.proofs.decimals.billionths.Goals as goal

pub returns-then-x : goal.returns-then-x
returns-then-x c = sym (none_nan c.args.x c.if-x.true)

pub float_to_bits-bits : goal.float_to_bits-bits
float_to_bits-bits c = no_nan c.args.x c.if-x.false

pub returns-then-bits-ge-GREATEST : goal.returns-then-bits-ge-GREATEST
returns-then-bits-ge-GREATEST c =
    sym
    (ap billionths (sym (of_bits-to_bits binary64 c.args.x (subst T (sym c.well_formed.0.1) tt))) ∙
    far_bits (to_bits binary64 c.args.x) c.if-bits-ge-GREATEST.true)

pub returns : goal.returns
returns c =
    c.billionths_of.ensures ∙ ap billionths (of_bits-to_bits binary64 c.args.x (subst T (sym c.well_formed.0.1) tt))
