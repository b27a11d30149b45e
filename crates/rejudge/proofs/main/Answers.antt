-- A line that was written whole fits its output.
use Rattle.std.proofs.Common.{◌≤◌, length, sym, arith}
use Rattle.std.proofs.lemmas.List.{length-take-le}
use Rattle.rejudging.proofs.Pieces.{whole_fits}
use Rattle.rejudge.proofs.main.Goals as goal

pub slice_bounds-output-end : goal.slice_bounds-output-end
slice_bounds-output-end c = omega (arith, whole_fits _ _ _ (sym c.in-Ok.ensures.answer.0))

pub slice_bounds-write_all-end : goal.slice_bounds-write_all-end
slice_bounds-write_all-end c =
    let fits : c.in-Ok.k ≤ length c.line-written.new.out = omega (arith, whole_fits _ _ _ (sym c.in-Ok.ensures.answer.0)) in
    sym (length-take-le _ _ fits)
