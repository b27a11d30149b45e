-- The seven pieces put one behind the other. Assumes nothing.
use Rattle.std.proofs.Common.{append_assoc}
use Rattle.journal_entry.proofs.spelling.EntryBytes.settings.Goals as goal

pub returns : goal.returns
returns c =
    rw (c.short-7.ensures, c.short-6.ensures, c.short-5.ensures, c.short-4.ensures, c.short-3.ensures, c.short-2.ensures, c.short.ensures)
    (simp append_assoc)
