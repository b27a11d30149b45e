-- An event with what is answered to it; a run is a list of them, from a fresh bench.
use Rattle.std.specs.Prelude.{ℕ, List, [], ◌∷◌, Some, None, Ok, Err}
use Rattle.refusal.specs.declared.Refusal.{Refusal}
use Rattle.loaded_test.specs.declared.Word.{Word}
use Rattle.locks.specs.declared.Event.{Event}
use Rattle.bench.specs.History.{Answer}

-- An event and its answer.
pub record Exchange : Type 0 where
  pub event : Event
  pub answer : Answer

-- It is accepted.
abbrev pub accepts : Event → Exchange
accepts e = record { event = e; answer = Ok None }

-- It is refused by this row of the table, with its place.
abbrev pub refuses : Event → Refusal → Exchange
refuses e r = record { event = e; answer = Err r }

-- It brings a verdict: word, t, passing, failing, invalid.
abbrev pub judges : Event → Word → ℕ → ℕ → ℕ → ℕ → Exchange
judges e word t passing failing invalid = record {
  event = e;
  answer = Ok (Some (record { word = word; t = t; passing = passing; failing = failing; invalid = invalid }));
}

-- All of these are accepted, in front of a run.
abbrev pub accepted : List Event → List Exchange → List Exchange
accepted [] run = run
accepted (e ∷ es) run = accepts e ∷ accepted es run

-- The events of a run.
abbrev pub events_of : List Exchange → List Event
events_of [] = []
events_of (x ∷ run) = x.event ∷ events_of run

-- Its answers.
abbrev pub answers_of : List Exchange → List Answer
answers_of [] = []
answers_of (x ∷ run) = x.answer ∷ answers_of run
