-- The events put one behind the other. Assumes nothing.
use Rattle.std.proofs.Common.{◌∙◌, length, arith}
use Rattle.journaling.proofs.Put.{entry_fits, entry_put}
use Rattle.journaling.proofs.writer.put_entries.Goals as goal

pub put-next-requires : goal.put-next-requires
put-next-requires c =
    entry_fits c.args.entries.now c.loop-entry.entry-index _ c.as_slice.result.now c.loop-entry-test.true
    (c.as_slice.ensures ∙ c.spelt.ensures) c.args.at c.loop-entry.next c.loop-entry.invariant.0
    (length c.loop-entry.out) (omega (arith, c.requires, c.loop-entry.auto.out))

pub loop-entry-preserved : goal.loop-entry-preserved
loop-entry-preserved c =
    entry_put c.args.entries.now c.loop-entry.entry-index _ c.as_slice.result.now c.loop-entry-test.true
    (c.as_slice.ensures ∙ c.spelt.ensures) c.args.at c.loop-entry.next c.loop-entry.invariant.0
    c.args.out.now c.loop-entry.out c.put-next.new.out c.put-next.result c.requires c.loop-entry.invariant.1
    c.put-next.ensures.1 c.put-next.ensures.0
