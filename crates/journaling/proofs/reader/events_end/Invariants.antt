use Rattle.std.proofs.Common.{◌≡◌, ◌-◌}
use Rattle.journaling.specs.Reading.{events_end}
use Rattle.journaling.proofs.reader.events_end.Given as goal

abbrev pub invariant-loop : goal.invariant-loop
invariant-loop l = events_end (l.count - l.counter) l.rest ≡ events_end l.count l.bytes
