-- `rejudging::text::Line::decimal` meets its contract: the digits before the last are put by the call, and the last behind them. Assumes nothing.
use native.Mathlib.Omega.{arith}
use mathlib.Core.List.{append_assoc}
use mathlib.Core.Path.{◌∙◌, ap}
use lib.ListN.{length, length-append}
use Rattle.rejudging.proofs.Numerals.{decimal_one, decimal_more}
use Rattle.rejudging.proofs.text.Line.+decimal.Goals as goal

pub push-requires : goal.push-requires
push-requires t c = omega (arith, ap length (decimal_one c.args.n c.if-n-lt10.true))

pub returns-then-n-lt10 : goal.returns-then-n-lt10
returns-then-n-lt10 t c = rw (decimal_one c.args.n c.if-n-lt10.true) c.push.ensures

pub decimal-requires : goal.decimal-requires
decimal-requires t c =
    let more = ap length (decimal_more c.args.n c.if-n-lt10.false (omega (arith, c.ranges.n))) in
    (omega arith, omega (arith, simp length-append at more))

pub push-requires-2 : goal.push-requires-2
push-requires-2 t c =
    let more = ap length (decimal_more c.args.n c.if-n-lt10.false (omega (arith, c.ranges.n))) in
    omega (arith, simp length-append at more, simp length-append at (ap length c.decimal.ensures))

pub returns : goal.returns
returns t c =
    rw (decimal_more c.args.n c.if-n-lt10.false (omega (arith, c.ranges.n)))
    (c.push-2.ensures ∙ simp (c.decimal.ensures, append_assoc))
