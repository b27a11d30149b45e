use Rattle.std.proofs.Common.{◌≡◌, ◌≤◌, ◌*◌, length, take}
use Rattle.std.specs.List.{flat_map}
use Rattle.journal_entry.specs.Spelling.{entry_bytes}
use Rattle.journaling.proofs.writer.entries_length.Given as goal

abbrev pub invariant-loop-entry : goal.invariant-loop-entry
invariant-loop-entry l =
    (l.sum ≡ length (flat_map entry_bytes (take l.entry-index l.entries))) × (l.sum ≤ 37 * l.entry-index)
