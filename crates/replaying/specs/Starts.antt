-- What is printed of a journal: "for each start, on its own line, "admitted", its lock's number, or "refused" and the number where it was refused
-- otherwise"; "an unfit one prints only refused, number, place".
use Rattle.std.specs.Prelude.{ℕ, List, [], ◌∷◌, ◌++◌, map, Ok, Err, Result, codes}
use Rattle.std.specs.Fmt.{decimal}
use Rattle.refusal.specs.declared.Refusal.{Refusal}
use Rattle.refusal.specs.declared.Refusal.TheVariants.{StartLocked}
use Rattle.refusal.specs.Table.{number_of, refusal_text}
use Rattle.locks.specs.declared.Event.{Event}
use Rattle.locks.specs.declared.Event.TheVariants.{Start}
use Rattle.bench.specs.History.{Answer}
use Rattle.bench.specs.Demand.{bench_answers}
use Rattle.bench.specs.Stepping.{opened_of}
use Rattle.bench.specs.declared.Bench.{Bench}
use Rattle.journal_entry.specs.declared.Entry.{Entry}
use Rattle.journal_entry.specs.Events.{event_of}
use Rattle.journaling.specs.Reading.{read_journal, entries_in}
use Rattle.journaling.specs.declared.Shape.{Shape}
use Rattle.replaying.specs.declared.Line.{Line}
use Rattle.replaying.specs.declared.Line.TheVariants.{Admitted, Locked, Refused}

-- The line of a start's answer.
abbrev pub line_of : Answer → Line
line_of (Ok verdict) = Admitted
line_of (Err (StartLocked lock)) = Locked lock
line_of (Err r) = Refused (number_of r)

-- Its text.
abbrev pub line_text : Line → List ℕ
line_text Admitted = codes "admitted"
line_text (Locked lock) = decimal lock
line_text (Refused number) = codes "refused " ++ decimal number

-- "each start, on its own line"; nothing of any other event.
abbrev pub event_text : Event → Answer → List ℕ
event_text (Start clock settings p) a = line_text (line_of a) ++ codes "\n"
event_text _ a = []

-- The lines of events by their answers.
unfoldable pub lines : List Event → List Answer → List ℕ
lines [] answers = []
lines (e ∷ es) [] = []
lines (e ∷ es) (a ∷ answers) = event_text e a ++ lines es answers

-- The events of entries.
abbrev pub events_of : List Entry → List Event
events_of es = map event_of es

-- The lines of a live bench that is given the events of entries in turn.
unfoldable pub lines_from : Bench → List Entry → List ℕ
lines_from b es = lines (events_of es) (bench_answers b (events_of es))

-- The line of a refusal: number and place.
abbrev pub refused_line : Refusal → List ℕ
refused_line r = refusal_text r ++ codes "\n"

-- From the opening of a bench on.
abbrev pub opened_text : Result Bench Refusal → List Entry → List ℕ
opened_text (Ok fresh) es = lines_from fresh es
opened_text (Err r) es = refused_line r

-- A journal of this shape.
abbrev pub read_text : Result Shape Refusal → List ℕ → List ℕ
read_text (Ok shape) s = opened_text (opened_of shape.validity shape.limit) (entries_in s shape.count)
read_text (Err r) s = refused_line r

-- What is printed of a list of bytes.
abbrev pub text_of : List ℕ → List ℕ
text_of s = read_text (read_journal s) s
