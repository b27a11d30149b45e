-- The eight pieces put one behind the other. Assumes nothing.
use Rattle.std.proofs.Common.{append_assoc}
use Rattle.journal_entry.proofs.spelling.EntryBytes.bits.Goals as goal

pub returns : goal.returns
returns c =
    rw (c.long-8.ensures, c.long-7.ensures, c.long-6.ensures, c.long-5.ensures, c.long-4.ensures, c.long-3.ensures, c.long-2.ensures, c.long.ensures)
    (simp append_assoc)
