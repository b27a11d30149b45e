-- Accepted events, newest first, and what is read from a list of them.
use Rattle.std.specs.Prelude.{Bool, false, ◌||◌, List, [], ◌∷◌, Some, None, Option}
use Rattle.refusal.specs.Choice.{pick}
use Rattle.loaded_test.specs.declared.Verdict.{Verdict}
use Rattle.locks.specs.declared.Event.{Event}
use Rattle.locks.specs.declared.Kind.{Kind}
use Rattle.locks.specs.Events.{kind_of, same_kind}

-- An accepted event with the verdict that it brought, if it brought one.
pub record Accepted : Type 0 where
  pub event : Event
  pub verdict : Option Verdict

-- An accepted event with its verdict, if it brought one.
abbrev pub accepted : Event → Option Verdict → Accepted
accepted e verdict = record { event = e; verdict = verdict }

-- An accepted event of this kind.
abbrev pub is_kind : Kind → Accepted → Bool
is_kind kind a = same_kind (kind_of a.event) kind

-- What was accepted since the latest event of a kind.
unfoldable pub since : (Accepted → Bool) → List Accepted → List Accepted
since p [] = []
since p (a ∷ l) = pick (p a) [] (a ∷ since p l)

-- One of them is of a kind.
unfoldable pub any : (Accepted → Bool) → List Accepted → Bool
any p [] = false
any p (a ∷ l) = p a || any p l

-- The first where there is one, else the second.
unfoldable pub or_else : {A : Type 0} → Option A → Option A → Option A
or_else (Some x) y = Some x
or_else None y = y

-- What the latest event that carries one carries.
unfoldable pub latest_of : {A : Type 0} → (Event → Option A) → List Accepted → Option A
latest_of f [] = None
latest_of f (a ∷ l) = or_else (f a.event) (latest_of f l)
