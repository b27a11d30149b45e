-- Writing a journal: "15, then 2 (place 7) for more than 1,700 events, then 10".
use Rattle.std.specs.Prelude.{ℕ, ◌+◌, List, ◌++◌, leb, length, take, drop, Ok, Err, Result}
use Rattle.refusal.specs.declared.Refusal.{Refusal}
use Rattle.refusal.specs.declared.Refusal.TheVariants.{CountNotAllowed, OutputShort, CauseUnfit}
use Rattle.refusal.specs.Checking.{Check, need, ◌⨾◌}
use Rattle.locks.specs.Locks.{parameters_fit}
use Rattle.journaling.specs.Content.{Content, journal_bytes}

-- 15 for V or U, then 2 at the place of the events' count.
unfoldable pub judge_content : Content → Check
judge_content x =
    need (parameters_fit x.validity x.limit) CauseUnfit
    ⨾ need (leb (length x.entries) 1700) (CountNotAllowed 7)

-- 10 with the length needed.
unfoldable pub space_check : ℕ → Content → Check
space_check space x = need (leb (length (journal_bytes x)) space) (OutputShort (length (journal_bytes x)))

-- A refusal, or the length that was written.
abbrev pub written_as : Check → Content → Result ℕ Refusal
written_as (Ok _) x = Ok (length (journal_bytes x))
written_as (Err r) x = Err r

-- What writing into so many bytes answers.
unfoldable pub write_journal : ℕ → Content → Result ℕ Refusal
write_journal space x = written_as (judge_content x ⨾ space_check space x) x

-- Bytes put at an offset of a list.
abbrev pub put_at : ℕ → List ℕ → List ℕ → List ℕ
put_at at piece out = take at out ++ (piece ++ drop (at + length piece) out)

-- The output as it was where writing was refused; else the journal, and behind it what was there.
abbrev pub output_of : Result ℕ Refusal → Content → List ℕ → List ℕ
output_of (Ok n) x out = journal_bytes x ++ drop n out
output_of (Err r) x out = out

-- The output after writing.
unfoldable pub written_output : Content → List ℕ → List ℕ
written_output x out = output_of (write_journal (length out) x) x out
