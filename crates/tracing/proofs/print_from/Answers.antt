-- `tracing::print_from` meets its contract. Assumes nothing.
use Rattle.std.proofs.Common.{[]}
use Rattle.journaling.specs.Left.{entries_left}
use Rattle.tracing.specs.Whys.{whys_from}
use Rattle.tracing.proofs.Followed.{begun, one_more, none_left}
use Rattle.tracing.proofs.print_from.Goals as goal

pub loop-entry-init : goal.loop-entry-init
loop-entry-init g c =
    rw c.into_iter-entry-iterator.ensures.into_iter_gives
    (begun (g.W.Write.contents c.args.output.now) c.args.fresh (entries_left c.args.entries) c.requires.begins c.requires.few)

pub loop-entry-preserved : goal.loop-entry-preserved
loop-entry-preserved g c =
    one_more (g.W.Write.contents c.args.output.now) (g.W.Write.contents c.loop-entry.output) (g.W.Write.contents c.print_event.new.output)
    c.loop-entry.watch c.watch_after-watch.result (entries_left c.loop-entry.entry-iterator) (entries_left c.next.new.self) c.in-Some.entry
    (whys_from c.args.fresh.validity 1 [] c.args.fresh.bench (entries_left c.args.entries)) c.loop-entry.invariant c.in-Some.ensures.steps
    c.event_of-event.result c.step-handled.result c.event_of-event.ensures c.step-handled.ensures.0 c.in_ok-print_event.ensures
    c.watch_after-watch.ensures

pub returns : goal.returns
returns g c = none_left _ _ c.loop-entry.watch (entries_left c.loop-entry.entry-iterator) _ c.loop-entry.invariant c.in-None.ensures.steps.0
