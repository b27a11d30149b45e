-- Demand 3: one claim about the list of events, of any kinds in any order, from a fresh bench of fit V and U.
-- The bench stands in it only by the answers of its run; what these must be is read from the plain history.
use Rattle.std.specs.Prelude.{ℕ, ◌≤◌, Bool, true, false, ◌≡◌, ◌↔◌, List, [], ◌∷◌, Some, Ok, Err, is_ok, None}
use Rattle.refusal.specs.declared.Refusal.{Refusal}
use Rattle.correction.specs.Humidity.{saturation_fit}
use Rattle.vehicle.specs.declared.Settings.{Settings}
use Rattle.vehicle.specs.Settings.{unfit_place}
use Rattle.loaded_test.specs.declared.Verdict.{Verdict}
use Rattle.loaded_test.specs.declared.Did.{Did}
use Rattle.loaded_test.specs.declared.Next.TheVariants.{Ends}
use Rattle.loaded_test.specs.declared.Test.{Test}
use Rattle.loaded_test.specs.Log.{Input, step as test_step}
use Rattle.bench.specs.declared.Bench.{Bench}
use Rattle.locks.specs.declared.Event.{Event}
use Rattle.locks.specs.declared.Event.TheVariants.{Start}
use Rattle.locks.specs.Accepted.{Accepted}
use Rattle.locks.specs.Locks.{not_warm, inactive, not_calibrated, not_signed_in, password_lock, authority_lock, unsent_lock, not_prepared}
use Rattle.bench.specs.History.{History, Answer, fresh_history}
use Rattle.bench.specs.Causes.{Cause, causes, first_cause, automatic_in}
use Rattle.bench.specs.Telling.{input_of, history_after, history_answers}
use Rattle.bench.specs.Stepping.{step, fresh_bench}
use Rattle.bench.specs.Passes.{PassEarned, pass}

-- "Each call gets the state the last returned": the bench after a list of events, and what it answers to each.
unfoldable pub bench_after : Bench → List Event → Bench
bench_after b [] = b
bench_after b (e ∷ es) = bench_after (step b e).bench es

-- The answers of a bench to the events given to it in turn.
unfoldable pub bench_answers : Bench → List Event → List Answer
bench_answers b [] = []
bench_answers b (e ∷ es) = (step b e).answer ∷ bench_answers (step b e).bench es

-- What a bench of V and U answers to an event after a list of events.
abbrev pub answer_after : ℕ → ℕ → List Event → Event → Answer
answer_after validity limit es e = (step (bench_after (fresh_bench validity limit) es) e).answer

-- The plain history after the same list.
abbrev pub history_of : ℕ → ℕ → List Event → History
history_of validity limit es = history_after validity limit fresh_history es

-- "An accepted one answers so, with its verdict if it brings one".
abbrev pub is_accepted : Answer → Bool
is_accepted a = is_ok a

-- No row of the table stands.
abbrev pub NoneStand : List Cause → Type 0
NoneStand [] = Unit {0}
NoneStand (c ∷ l) = (c.stands ≡ false) × NoneStand l

-- None of the eight locks, document 01's seven and document 02's lock 8, stands for a start at this clock.
pub record Unlocked (validity limit now : ℕ) (l : List Accepted) : Type 0 where
  pub warm : not_warm l ≡ false
  pub active : inactive now l ≡ false
  pub calibrated : not_calibrated validity now l ≡ false
  pub signed_in : not_signed_in now l ≡ false
  pub password : password_lock l ≡ false
  pub authority : authority_lock l ≡ false
  pub unsent : unsent_lock limit l ≡ false
  pub prepared : not_prepared now l ≡ false

-- Document 01's steps, taken by the history's test on an event, give a verdict.
pub record Gives (h : History) (e : Event) (x : Verdict) : Type 0 where
  pub test : Test
  pub input : Input
  pub did : Did
  pub running : h.test ≡ Some test
  pub given : input_of (automatic_in h.events) e ≡ Some input
  pub told : (test_step test input).answer ≡ Ok (record { did = did; next = Ends x })

-- Demand 3, for a bench of this V and U.
pub record Demand3 (validity limit : ℕ) : Type 0 where
  -- the answers of the bench's run are those of the plain history
  pub answers :
      (es : List Event) → bench_answers (fresh_bench validity limit) es ≡ history_answers validity limit fresh_history es
  -- an event is accepted exactly if no row of the table refuses it, and refused by the first that does
  pub accepted :
      (es : List Event) (e : Event) →
      (is_accepted (answer_after validity limit es e) ≡ true) ↔
      NoneStand (causes validity limit (history_of validity limit es) e)
  pub refused :
      (es : List Event) (e : Event) (r : Refusal) →
      (answer_after validity limit es e ≡ Err r) ↔
      (first_cause (causes validity limit (history_of validity limit es) e) ≡ Some r)
  -- a fit start, in clock order, with no test running, is admitted exactly if none of the eight locks stands
  pub admitted :
      (es : List Event) (clock : ℕ) (settings : Settings) (saturation : ℕ) →
      (history_of validity limit es).last ≤ clock →
      (history_of validity limit es).test ≡ None →
      unfit_place settings ≡ 0 →
      saturation_fit saturation ≡ true →
      (is_accepted (answer_after validity limit es (Start clock settings saturation)) ≡ true) ↔
      Unlocked validity limit clock (history_of validity limit es).events
  -- a verdict is answered exactly if document 01's steps, taken by the history's test on that event, give it
  pub verdicts :
      (es : List Event) (e : Event) (x : Verdict) →
      (answer_after validity limit es e ≡ Ok (Some x)) ↔
      (NoneStand (causes validity limit (history_of validity limit es) e) × Gives (history_of validity limit es) e x)
  -- a pass answered anywhere in the list is earned by the accepted seconds before it
  pub passes :
      (es : List Event) (e : Event) (t passing failing invalid : ℕ) →
      answer_after validity limit es e ≡ Ok (Some (pass t passing failing invalid)) →
      PassEarned (history_of validity limit es).events e t passing failing invalid
