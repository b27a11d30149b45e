-- `salvaging::saving::save` meets its contract: the answer on the bytes that the buffer holds tells of all that were read. Assumes nothing.
use Rattle.std.proofs.Common.{◌≤◌, length, take, refl, sym}
use Rattle.std.proofs.lemmas.List.{length-take-le}
use Rattle.salvaging.proofs.Saves.{front_read, saved_kept, saved_refused, written_fits}
use Rattle.salvaging.proofs.saving.save.Goals as goal

pub slice_bounds-out-end : goal.slice_bounds-out-end
slice_bounds-out-end g c =
    written_fits c.salvage.ensures.claims _ _ _ _ _ c.salvage.ensures.answer c.in-Ok.is c.salvage.auto.out

pub slice_bounds-write_all-end : goal.slice_bounds-write_all-end
slice_bounds-write_all-end g c =
    let fits : c.in-Ok.x.written ≤ length c.salvage.new.out =
    written_fits c.salvage.ensures.claims _ _ _ _ _ c.salvage.ensures.answer c.in-Ok.is c.salvage.auto.out
    in
    sym (length-take-le _ _ fits)

pub returns-in_ok-write_all-in-Ok : goal.returns-in_ok-write_all-in-Ok
returns-in_ok-write_all-in-Ok g c =
    let given = front_read 60966 c.in_ok-more.more _ _ (take c.in_ok-n.n c.fill.new.into) c.in_ok-n.ensures.1 c.in_ok-more.ensures.count in
    saved_kept c.salvage.ensures.claims _ _ _ c.in_ok-more.more c.in-Ok.x c.with_more.result _ _ _ _ _ _ c.writeln.result refl given c.salvage.ensures.answer
    c.in-Ok.is c.with_more.ensures c.in_ok-write_all-in-Ok.ensures.bytes c.writeln.ensures.bytes

pub returns-in-Err : goal.returns-in-Err
returns-in-Err g c =
    let given = front_read 60966 c.in_ok-more.more _ _ (take c.in_ok-n.n c.fill.new.into) c.in_ok-n.ensures.1 c.in_ok-more.ensures.count in
    saved_refused c.salvage.ensures.claims _ _ _ c.in_ok-more.more c.in-Err.r _ _ _ _ _ c.writeln-in-Err.result refl given c.salvage.ensures.answer
    c.in-Err.is c.writeln-in-Err.ensures.bytes
