-- Rejudging gives a record the verdict, t and counts that any bench gives it which admits a start with its settings and p and is given its
-- rows and stops as events.
use Rattle.std.specs.Prelude.{ℕ, ◌≤◌, true, List, [], ◌∷◌, ◌≡◌, Some, None, Option, Ok, Err, Result}
use Rattle.refusal.specs.declared.Refusal.{Refusal}
use Rattle.record.specs.Format.{Below}
use Rattle.record.specs.Reading.{read_record, stop_cause_in}
use Rattle.record.specs.declared.Shape.{Shape}
use Rattle.loaded_test.specs.declared.Verdict.{Verdict}
use Rattle.loaded_test.specs.declared.Word.{Word}
use Rattle.locks.specs.declared.Event.{Event}
use Rattle.locks.specs.declared.Event.TheVariants.{Start, Second, Stop}
use Rattle.bench.specs.Demand.{bench_after, bench_answers}
use Rattle.bench.specs.Stepping.{running as test_runs, step}
use Rattle.bench.specs.declared.Bench.{Bench}
use Rattle.rejudging.specs.Items.{items_of}
use Rattle.rejudging.specs.declared.items.Item.{Item}
use Rattle.rejudging.specs.declared.items.Item.TheVariants as item
use Rattle.rejudging.specs.Rejudging.{settings_of, saturation_of, rejudged_of}
use Rattle.rejudging.specs.Rows.{readings_in, row_start}
use Rattle.rejudging.specs.Sheets.{sheet_of}
use Rattle.rejudging.specs.declared.Sheet.{Sheet}

-- A row is a second with its readings, a stop a stop with its cause.
abbrev pub event_of : List ℕ → Shape → ℕ → Item → Event
event_of s shape clock (item.Row row) = Second clock (readings_in s shape (row_start shape row))
event_of s shape clock (item.Stop i) = Stop clock (stop_cause_in s shape i)

-- Events that are a record's rows and stops in their order, with clocks that never fall from `last` on.
abbrev pub EventsOf : List ℕ → Shape → ℕ → List Item → List Event → Type 0
EventsOf s shape last [] [] = Unit {0}
EventsOf s shape last [] (e ∷ es) = ⊥
EventsOf s shape last (i ∷ l) [] = ⊥
EventsOf s shape last (i ∷ l) (e ∷ es) =
    (clock : ℕ) × (last ≤ clock) × (e ≡ event_of s shape clock i) × EventsOf s shape clock l es

-- No event was refused.
abbrev pub AllAccepted : List (Result (Option Verdict) Refusal) → Type 0
AllAccepted [] = Unit {0}
AllAccepted (Ok x ∷ l) = AllAccepted l
AllAccepted (Err r ∷ l) = ⊥

-- The verdicts among answers.
unfoldable pub verdicts_in : List (Result (Option Verdict) Refusal) → List Verdict
verdicts_in [] = []
verdicts_in (Ok None ∷ l) = verdicts_in l
verdicts_in (Ok (Some x) ∷ l) = x ∷ verdicts_in l
verdicts_in (Err r ∷ l) = verdicts_in l

-- A sheet's verdict with its word: word, t, passing, failing, invalid.
abbrev pub verdict_with : Word → Sheet → Verdict
verdict_with w x = record { word = w; t = x.t; passing = x.passing; failing = x.failing; invalid = x.invalid }

-- The verdict that a sheet shows, or none while it is open.
unfoldable pub verdict_shown : Option Word → Sheet → List Verdict
verdict_shown None x = []
verdict_shown (Some w) x = verdict_with w x ∷ []

-- What a bench that was given events has in common with a sheet.
pub record Agrees (b : Bench) (es : List Event) (x : Sheet) : Type 0 where
  -- every event was accepted
  pub accepted : AllAccepted (bench_answers b es)
  -- the sheet's verdict is the only one that was answered, and none where the sheet is open
  pub verdicts : verdicts_in (bench_answers b es) ≡ verdict_shown x.word x
  -- where the sheet is open, a test runs, and the sheet is that test's: mode, t, counts, averages and engine speed
  pub running : x.word ≡ None → test_runs (bench_after b es) ≡ true
  pub sheet : x.word ≡ None → sheet_of (bench_after b es).test ≡ x

-- For every list of bytes that is read, every bench that admits a start with its settings and p, and its rows and stops as events.
abbrev pub Agreement : Type 0
Agreement =
    (s : List ℕ) (shape : Shape) (x : Sheet) →
    Below 256 s →
    read_record s ≡ Ok shape →
    rejudged_of s ≡ Ok x →
    (b : Bench) (clock : ℕ) (es : List Event) →
    (step b (Start clock (settings_of s shape) (saturation_of s shape))).answer ≡ Ok None →
    EventsOf s shape clock (items_of s shape) es →
    Agrees (step b (Start clock (settings_of s shape) (saturation_of s shape))).bench es x
