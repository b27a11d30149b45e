-- Reading a journal from the left: "V and U whole first (1), then 15, then the events' count (1, 2 at place 7)"; "each byte is judged in turn".
use Rattle.std.specs.Prelude.{ℕ, zero, suc, ◌-◌, Bool, true, false, List, [], ◌∷◌, length, drop, leb, eqb, Ok, Err, Result, ⊤}
use Rattle.std.specs.Int.{w16, w32}
use Rattle.refusal.specs.declared.Refusal.{Refusal}
use Rattle.locks.specs.Locks.{parameters_fit}
use Rattle.journal_entry.specs.declared.Entry.{Entry}
use Rattle.journal_entry.specs.declared.Fault.{Fault}
use Rattle.journal_entry.specs.declared.Fault.TheVariants.{Count, Parameters, Left}
use Rattle.journal_entry.specs.Reading.{◌>>=◌, byte_at, number_at, entry_of, told}
use Rattle.journaling.specs.declared.Shape.{Shape}
use Rattle.journaling.specs.Content.{Content, shape_of}

-- Refused where the test fails.
unfoldable pub must : Bool → Fault → Result ⊤ Fault
must true d = Ok _
must false d = Err d

-- "V and U after a 1-byte count of 2, then .. a 4-byte count (0 to 1,700; both counts by refusal 2)", "V or U unfit 15".
unfoldable pub heading_of : List ℕ → Result (Shape × List ℕ) Fault
heading_of s = do
  two ← byte_at s
  counted ← must (eqb two.0 2) (Count (length s))
  validity ← number_at w32 two.1
  limit ← number_at w16 validity.1
  fit ← must (parameters_fit validity.0 limit.0) Parameters
  count ← number_at w32 limit.1
  allowed ← must (leb count.0 1700) (Count (length limit.1))
  Ok (record { validity = validity.0; limit = limit.0; count = count.0 }, count.1)

-- So many events one after the other, and the bytes behind them.
unfoldable pub entries_of : ℕ → List ℕ → Result (List Entry × List ℕ) Fault
entries_of zero bytes = Ok ([], bytes)
entries_of (suc n) bytes = do
  first ← entry_of bytes
  others ← entries_of n first.1
  Ok (first.0 ∷ others.0, others.1)

-- The bytes behind so many events.
abbrev pub events_end : ℕ → List ℕ → Result (List ℕ) Fault
events_end count bytes = entries_of count bytes >>= λ x. Ok x.1

-- "A journal that ends early or runs on is 1 or 7".
unfoldable pub nothing_left : List ℕ → Result ⊤ Fault
nothing_left bytes = must (eqb (length bytes) 0) (Left (length bytes))

-- What a heading and events make.
abbrev pub made_of : Shape → List Entry → Content
made_of h es = record { validity = h.validity; limit = h.limit; entries = es }

-- The content of a journal's bytes, or its first fault.
unfoldable pub journal_of : List ℕ → Result Content Fault
journal_of s = do
  heading ← heading_of s
  events ← entries_of heading.0.count heading.1
  ended ← nothing_left events.1
  Ok (made_of heading.0 events.0)

-- Its shape.
abbrev pub shape_in : List ℕ → Result Shape Fault
shape_in s = journal_of s >>= λ x. Ok (shape_of x)

-- What reading answers: V, U and the count, or the refusal of the first fault.
unfoldable pub read_journal : List ℕ → Result Shape Refusal
read_journal s = told (length s) (shape_in s)

-- The event at an offset and the offset behind it, or its refusal.
abbrev pub entry_at : List ℕ → ℕ → Result (Entry × ℕ) Refusal
entry_at s at = told (length s) (entry_of (drop at s) >>= λ x. Ok (x.0, length s - length x.1))

-- An event and those that follow it.
abbrev pub followed_by : Result (Entry × List ℕ) Fault → (List ℕ → List Entry) → List Entry
followed_by (Ok x) others = x.0 ∷ others x.1
followed_by (Err d) others = []

-- Up to n events, as far as they can be read.
unfoldable pub entries_from : ℕ → List ℕ → List Entry
entries_from zero bytes = []
entries_from (suc n) bytes = followed_by (entry_of bytes) (entries_from n)

-- The events of a journal of so many: they stand behind the 11 bytes of its heading.
abbrev pub entries_in : List ℕ → ℕ → List Entry
entries_in s count = entries_from count (drop 11 s)
