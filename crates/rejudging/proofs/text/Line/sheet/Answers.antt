-- `rejudging::text::Line::sheet` meets its contract. Assumes nothing.
use native.Mathlib.Omega.{arith}
use mathlib.Core.List.{append_assoc}
use lib.ListN.{length-append}
use Rattle.rejudging.specs.Line.{sheet_text}
use Rattle.rejudging.proofs.text.Line.sheet.Goals as goal

pub engine-requires : goal.engine-requires
unfolding sheet_text
engine-requires c =
    simp (c.window.ensures, c.three.ensures, c.spaced-2.ensures, c.spaced.ensures, c.push.ensures, c.word_text.ensures, c.mode_number.ensures, length-append)
    (omega (arith, simp length-append at c.requires))

pub push-requires-2 : goal.push-requires-2
unfolding sheet_text
push-requires-2 c =
    simp (c.engine.ensures, c.window.ensures, c.three.ensures, c.spaced-2.ensures, c.spaced.ensures, c.push.ensures, c.word_text.ensures, c.mode_number.ensures, length-append)
    (omega (arith, simp length-append at c.requires))

pub returns : goal.returns
unfolding sheet_text
returns c =
    simp (c.push-2.ensures, c.engine.ensures, c.window.ensures, c.three.ensures, c.spaced-2.ensures, c.spaced.ensures, c.push.ensures, c.word_text.ensures, c.mode_number.ensures, append_assoc)
