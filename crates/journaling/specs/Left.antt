-- The events that are left of a journal's.
use Rattle.std.specs.Prelude.{List}
use Rattle.journal_entry.specs.declared.Entry.{Entry}
use Rattle.journaling.specs.Reading.{entries_from}
use Rattle.journaling.specs.declared.reader.Entries.{Entries}

-- Up to as many as are left, from the bytes that are left.
abbrev pub entries_left : Entries → List Entry
entries_left x = entries_from x.left x.bytes.now
