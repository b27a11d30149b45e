-- What is printed of each locked start: "the lock's name in words and the number (from 1) and clock of the event that left it standing .., or
-- none since the beginning".
use Rattle.std.specs.Prelude.{ℕ, ◌+◌, Bool, List, [], ◌∷◌, ◌++◌, find, eqb, Some, None, Option, Ok, Err, Result, codes}
use Rattle.std.specs.Fmt.{decimal}
use Rattle.refusal.specs.declared.Refusal.{Refusal}
use Rattle.refusal.specs.declared.Refusal.TheVariants.{StartLocked}
use Rattle.locks.specs.declared.Event.{Event}
use Rattle.locks.specs.declared.Event.TheVariants.{Start}
use Rattle.locks.specs.declared.Lock.{Lock}
use Rattle.locks.specs.Events.{kind_of, clock_of}
use Rattle.locks.specs.Locks.{lock_number, in_order}
use Rattle.bench.specs.History.{Answer}
use Rattle.bench.specs.Demand.{bench_answers}
use Rattle.bench.specs.Stepping.{opened_of}
use Rattle.bench.specs.declared.Bench.{Bench}
use Rattle.journal_entry.specs.declared.Entry.{Entry}
use Rattle.journaling.specs.Reading.{read_journal, entries_in}
use Rattle.journaling.specs.declared.Shape.{Shape}
use Rattle.replaying.specs.Starts.{events_of, refused_line}
use Rattle.tracing.specs.Names.{lock_name, kind_name}
use Rattle.tracing.specs.Origins.{told_after, trail_of, left_by}
use Rattle.tracing.specs.declared.Told.{Told}
use Rattle.tracing.specs.declared.Why.{Why}
use Rattle.tracing.specs.declared.trail.Trail.{Trail}

-- Whether a lock has this number.
abbrev pub is_lock : ℕ → Lock → Bool
is_lock number lock = eqb (lock_number lock) number

-- The lock of a number, if there is one.
unfoldable pub lock_at : ℕ → Option Lock
lock_at number = find (is_lock number) in_order

-- The event, by its number, its clock and its kind.
abbrev pub since_text : Option Told → List ℕ
since_text None = codes "none since the beginning"
since_text (Some x) =
    codes "event " ++ (decimal x.number ++ (codes " at " ++ (decimal (clock_of x.event) ++ (codes ", " ++ kind_name (kind_of x.event)))))

-- The line of a locked start.
abbrev pub why_text : Why → List ℕ
why_text x =
    codes "start "
    ++ (decimal x.number
    ++ (codes " at " ++ (decimal x.clock ++ (codes ": " ++ (lock_name x.lock ++ (codes ": " ++ since_text x.since))))))

-- The line of a start of this number and clock that this lock locked, by the newest accepted events of each sort.
abbrev pub why_of : ℕ → ℕ → ℕ → Option Lock → Trail → List ℕ
why_of validity n clock (Some lock) x =
    why_text (record { number = n; clock = clock; lock = lock; since = left_by validity clock lock x }) ++ codes "\n"
why_of validity n clock None x = []

-- A line for a start that is locked, nothing for any other event.
abbrev pub event_why : ℕ → ℕ → Trail → Event → Answer → List ℕ
event_why validity n x (Start clock settings p) (Err (StartLocked lock)) = why_of validity n clock (lock_at lock) x
event_why validity n x _ _ = []

-- The lines of events by their answers, from the event of a number on, behind these accepted ones.
unfoldable pub whys : ℕ → ℕ → List Told → List Event → List Answer → List ℕ
whys validity n l [] answers = []
whys validity n l (e ∷ es) [] = []
whys validity n l (e ∷ es) (a ∷ answers) = event_why validity n (trail_of l) e a ++ whys validity (n + 1) (told_after n e a l) es answers

-- The lines of a live bench that is given the events of entries in turn.
unfoldable pub whys_from : ℕ → ℕ → List Told → Bench → List Entry → List ℕ
whys_from validity n l b es = whys validity n l (events_of es) (bench_answers b (events_of es))

-- From the opening of a bench on.
abbrev pub opened_text : ℕ → Result Bench Refusal → List Entry → List ℕ
opened_text validity (Ok fresh) es = whys_from validity 1 [] fresh es
opened_text validity (Err r) es = refused_line r

-- A journal of this shape.
abbrev pub read_text : Result Shape Refusal → List ℕ → List ℕ
read_text (Ok shape) s = opened_text shape.validity (opened_of shape.validity shape.limit) (entries_in s shape.count)
read_text (Err r) s = refused_line r

-- What is printed of a list of bytes.
abbrev pub text_of : List ℕ → List ℕ
text_of s = read_text (read_journal s) s
