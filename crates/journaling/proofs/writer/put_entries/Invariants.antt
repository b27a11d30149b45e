use Rattle.std.proofs.Common.{◌≡◌, ◌+◌, length, take}
use Rattle.std.specs.List.{flat_map}
use Rattle.journal_entry.specs.Spelling.{entry_bytes}
use Rattle.journaling.specs.Writing.{put_at}
use Rattle.journaling.proofs.writer.put_entries.Given as goal

abbrev pub invariant-loop-entry : goal.invariant-loop-entry
invariant-loop-entry l =
    (l.next ≡ l.at + length (flat_map entry_bytes (take l.entry-index l.entries)))
    × (l.out ≡ put_at l.at (flat_map entry_bytes (take l.entry-index l.entries)) l.initial.out)
