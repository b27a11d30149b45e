-- `replaying::print_from` meets its contract. Assumes nothing.
use Rattle.journaling.specs.Left.{entries_left}
use Rattle.replaying.specs.Starts.{lines_from}
use Rattle.replaying.proofs.Turns.{one_more, none_left}
use Rattle.replaying.proofs.print_from.Goals as goal

pub loop-entry-preserved : goal.loop-entry-preserved
loop-entry-preserved g c =
    one_more (g.W.Write.contents c.args.output.now) (g.W.Write.contents c.loop-entry.output) (g.W.Write.contents c.print_event.new.output)
    c.loop-entry.bench (entries_left c.loop-entry.entry-iterator) (entries_left c.next.new.self) c.in-Some.entry
    (lines_from c.args.fresh (entries_left c.args.entries)) c.loop-entry.invariant c.in-Some.ensures.steps
    c.event_of-event.result c.step-handled.result c.event_of-event.ensures c.step-handled.ensures.0 c.in_ok-print_event.ensures

pub returns : goal.returns
returns g c = none_left _ _ c.loop-entry.bench (entries_left c.loop-entry.entry-iterator) _ c.loop-entry.invariant c.in-None.ensures.steps.0
