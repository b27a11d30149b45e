-- `rejudging::text::line_of` meets its contract. Assumes nothing.
use Prim.Native.Nat.{◌≤◌}
use native.Mathlib.Omega.{arith}
use lib.ListN.{length}
use Rattle.std.specs.Prelude.{Ok, Err}
use Rattle.rejudging.specs.Line.{sheet_text, refusal_text, line_of}
use Rattle.rejudging.proofs.Lengths.{line_fits_lem}
use Rattle.rejudging.proofs.text.line_of.Goals as goal

pub sheet-requires : goal.sheet-requires
unfolding line_of
sheet-requires c =
    let fits : length (sheet_text c.in-Ok.x) ≤ 200 = line_fits_lem (Ok c.in-Ok.x) in
    rw c.new-line.ensures (omega arith)

pub refusal-requires : goal.refusal-requires
unfolding line_of
refusal-requires c =
    let fits : length (refusal_text c.in-Err.refusal) ≤ 200 = line_fits_lem (Err c.in-Err.refusal) in
    rw c.new-line.ensures (omega arith)
