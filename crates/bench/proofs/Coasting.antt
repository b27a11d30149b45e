-- What a coast-down run is answered, by its inertia and power, where no test runs; and 12 for every event but power-on, second
-- and stop where one does. Assumes nothing.
use Prim.Native.Nat.{ℕ, ◌≤◌}
use mathlib.Core.Bool.{Bool, true, false, false≢true, not}
use mathlib.Core.Path.{◌≡◌, refl, ap}
use mathlib.Core.Logic.{◌↔◌}
use borrow.Author.Tests.{le-ltb}
use Rattle.refusal.specs.declared.Refusal.TheVariants.{TestRunning, InertiaUnfit, PowerUnfit}
use Rattle.refusal.specs.Choice.{pick}
use Rattle.std.specs.Prelude.{None, Ok, Err, Some}
use Rattle.loaded_test.specs.declared.Test.{Test}
use Rattle.coast_down.specs.declared.Run.{Run}
use Rattle.coast_down.specs.Passing.{inertia_fit, power_fit}
use Rattle.coast_down.proofs.Exact.{inertia_exactly, power_exactly}
use Rattle.locks.specs.declared.Event.{Event}
use Rattle.locks.specs.declared.Event.TheVariants.{CoastDown}
use Rattle.locks.specs.Events.{kind_of, clock_of}
use Rattle.bench.specs.History.{History, Answer}
use Rattle.bench.specs.Causes.{outside_test, setting_at, saturation_bad, cause_bad, reading_at, inertia_bad, power_bad, background_in, locked, causes, first_cause}
use Rattle.bench.specs.Telling.{added, judged, tell}
use Rattle.bench.specs.Laws.{RunAnswered}

-- An event in clock order that is no power-on, second or stop, where a test runs.
pub in_test :
    (validity limit : ℕ) (h : History) (e : Event) →
    outside_test (kind_of e) ≡ true →
    h.last ≤ clock_of e →
    (test : Test) →
    h.test ≡ Some test →
    (tell validity limit h e).answer ≡ Err TestRunning
unfolding tell judged causes first_cause pick
in_test validity limit h e outside order test running = rw (le-ltb (clock_of e) h.last order, running, outside) refl

module _ (validity limit : ℕ) (h : History) (clock : ℕ) (run : Run) (order : h.last ≤ clock) where
  abbrev e : Event
  e = CoastDown clock run

  rows :
      h.test ≡ None →
      first_cause (causes validity limit h e)
      ≡ pick (not (inertia_fit run.inertia)) (Some InertiaUnfit) (pick (not (power_fit run.power)) (Some PowerUnfit) None)
  unfolding causes first_cause setting_at saturation_bad cause_bad reading_at inertia_bad power_bad background_in locked pick
  rows idle = rw (le-ltb clock h.last order, idle) refl

  by_fitness :
      {P Q : Type 0} (a b : Bool) →
      (a ≡ true) ↔ P →
      (b ≡ true) ↔ Q →
      (x : Answer) →
      x ≡ (judged (pick (not a) (Some InertiaUnfit) (pick (not b) (Some PowerUnfit) None)) h e).answer →
      ((x ≡ Err InertiaUnfit) ↔ (P → ⊥)) ×
      (((x ≡ Err PowerUnfit) ↔ (P × (Q → ⊥))) × ((x ≡ Ok None) ↔ (P × Q)))
  unfolding judged added pick
  by_fitness true true p q x t = (
    ((λ k. cc), (λ n. absurd (n (p.0 refl)))),
    (
      ((λ k. cc), (λ n. absurd (n.1 (q.0 refl)))),
      ((λ _. (p.0 refl, q.0 refl)), (λ _. t)),
    ),
  )
  by_fitness true false p q x t = (
    ((λ k. cc), (λ n. absurd (n (p.0 refl)))),
    (
      ((λ _. (p.0 refl, λ y. false≢true (q.1 y))), (λ _. t)),
      ((λ k. cc), (λ n. absurd (false≢true (q.1 n.1)))),
    ),
  )
  by_fitness false b p q x t = (
    ((λ _ y. false≢true (p.1 y)), (λ _. t)),
    (
      ((λ k. cc), (λ n. absurd (false≢true (p.1 n.0)))),
      ((λ k. cc), (λ n. absurd (false≢true (p.1 n.0)))),
    ),
  )

  -- Where no test runs.
  pub run_answered : h.test ≡ None → RunAnswered run (tell validity limit h e).answer
  unfolding tell
  run_answered idle =
      let x =
      by_fitness (inertia_fit run.inertia) (power_fit run.power)
      (inertia_exactly run.inertia) (power_exactly run.power)
      (tell validity limit h e).answer (ap (λ o. (judged o h e).answer) (rows idle)) in
      record { inertia = x.0; power = x.1.0; fit = x.1.1 }
