-- What the plain history's answer to one event says of the table's rows, of the locks and of the steps. Assumes nothing.
use Prim.Native.Nat.{ℕ, ◌≤◌}
use mathlib.Core.Bool.{true, false≢true}
use mathlib.Core.Path.{◌≡◌, refl, ap, sym, ◌∙◌}
use mathlib.Core.Logic.{◌↔◌}
use mathlib.Core.List.{List}
use borrow.Author.Tests.{not-false, le-ltb}
use Rattle.std.specs.Prelude.{Some, Ok, Err, Result, None, Option}
use Rattle.refusal.specs.Choice.{pick}
use Rattle.refusal.specs.declared.Refusal.{Refusal}
use Rattle.correction.specs.Humidity.{saturation_fit}
use Rattle.vehicle.specs.declared.Settings.{Settings}
use Rattle.vehicle.specs.Settings.{unfit_place}
use Rattle.loaded_test.specs.declared.Verdict.{Verdict}
use Rattle.loaded_test.specs.declared.Did.{Did}
use Rattle.loaded_test.specs.declared.Next.{Next}
use Rattle.loaded_test.specs.declared.Next.TheVariants.{Ends}
use Rattle.loaded_test.specs.declared.Told.{Told}
use Rattle.loaded_test.specs.declared.Test.{Test}
use Rattle.loaded_test.specs.Log.{Input, step}
use Rattle.locks.specs.declared.Event.{Event}
use Rattle.locks.specs.declared.Event.TheVariants.{Start, Second, Stop}
use Rattle.locks.proofs.Sorts.{Sort, serves, starts, measures, stops, sort_of}
use Rattle.bench.specs.History.{History}
use Rattle.bench.specs.Causes.{Cause, setting_at, saturation_bad, cause_bad, automatic_in, reading_at, inertia_bad, power_bad, background_in, locked, causes, first_cause}
use Rattle.bench.specs.Telling.{input_with, input_of, verdict_next, verdict_told, ended_by, step_taken, outcome_of, added, judged, tell}
use Rattle.bench.specs.Demand.{is_accepted, NoneStand, Unlocked, Gives}
use Rattle.bench.proofs.Tied.{served}
use Rattle.bench.proofs.Kept.{none_stand, stand_none, unlocked, no_lock}

module _ (validity limit : ℕ) (h : History) (e : Event) where
  abbrev rows : List Cause
  rows = causes validity limit h e

  -- Accepted exactly if no row stands.
  pub accepted_exactly : (is_accepted (tell validity limit h e).answer ≡ true) ↔ NoneStand rows
  unfolding tell judged added
  accepted_exactly = go (first_cause rows) refl
    where
      go : (o : Option Refusal) → first_cause rows ≡ o → (is_accepted (judged o h e).answer ≡ true) ↔ NoneStand rows
      go (Some r) c = (
        (λ a. absurd (false≢true a)),
        (λ n. cc (stand_none rows n)),
      )
      go None c = ((λ _. none_stand rows c), (λ _. refl))

  -- Refused exactly by the first row that stands.
  pub refused_exactly : (r : Refusal) → ((tell validity limit h e).answer ≡ Err r) ↔ (first_cause rows ≡ Some r)
  unfolding tell judged added
  refused_exactly r = go (first_cause rows)
    where
      go : (o : Option Refusal) → ((judged o h e).answer ≡ Err r) ↔ (o ≡ Some r)
      go (Some x) = ((λ a. cc), (λ a. cc))
      go None = ((λ a. cc), (λ a. cc))

-- A fit start, in clock order, with no test running, is admitted exactly if no lock stands.
pub admitted_exactly :
    (validity limit : ℕ) (h : History) (clock : ℕ) (settings : Settings) (saturation : ℕ) →
    h.last ≤ clock →
    h.test ≡ None →
    unfit_place settings ≡ 0 →
    saturation_fit saturation ≡ true →
    (is_accepted (tell validity limit h (Start clock settings saturation)).answer ≡ true) ↔
    Unlocked validity limit clock h.events
unfolding causes first_cause setting_at saturation_bad cause_bad reading_at inertia_bad power_bad background_in locked pick
admitted_exactly validity limit h clock settings saturation order idle place vapour = (
  (λ a. unlocked validity limit clock h.events (not-false _ (exactly.0 a).1.1.1.1.1.1.1.1.1.1.0)),
  (λ u. exactly.1 (stands_not u)),
)
  where
    exactly :
        (is_accepted (tell validity limit h (Start clock settings saturation)).answer ≡ true) ↔
        NoneStand (causes validity limit h (Start clock settings saturation))
    exactly = accepted_exactly validity limit h (Start clock settings saturation)

    stands_not :
        Unlocked validity limit clock h.events → NoneStand (causes validity limit h (Start clock settings saturation))
    stands_not u =
        none_stand (causes validity limit h (Start clock settings saturation))
        (rw (le-ltb clock h.last order, idle, place, vapour, no_lock validity limit clock h.events u) refl)

-- A verdict comes from a test that runs, an input, and what the step tells of it.
next_verdict : (next : Next) (x : Verdict) → verdict_next next ≡ Some x → next ≡ Ends x
unfolding verdict_next
next_verdict (Ends y) x h = cc
next_verdict _ x h = cc

told_verdict :
    (a : Result Told Refusal) (x : Verdict) →
    verdict_told a ≡ Some x →
    (did : Did) × (a ≡ Ok (record { did = did; next = Ends x }))
unfolding verdict_told
told_verdict (Ok told) x h = (told.did, ap (λ next. Ok (record { did = told.did; next = next })) (next_verdict told.next x h))
told_verdict (Err r) x h = cc

ended_verdict : (v : Option Verdict) (t : Test) → (ended_by v t).verdict ≡ v
unfolding ended_by
ended_verdict None t = refl
ended_verdict (Some x) t = refl

module _ (h : History) (e : Event) (x : Verdict) where
  step_gives :
      (o : Option Test) (i : Option Input) →
      h.test ≡ o →
      input_of (automatic_in h.events) e ≡ i →
      (step_taken o i).verdict ≡ Some x →
      Gives h e x
  unfolding step_taken
  step_gives None i a b c = cc
  step_gives (Some t) None a b c = cc
  step_gives (Some t) (Some i) a b c =
      let g = told_verdict (step t i).answer x (sym (ended_verdict (verdict_told (step t i).answer) (step t i).test) ∙ c) in
      record { test = t; input = i; did = g.0; running = a; given = b; told = g.1 }

  gives_step : Gives h e x → (step_taken h.test (input_of (automatic_in h.events) e)).verdict ≡ Some x
  unfolding step_taken verdict_told verdict_next ended_by
  gives_step g = rw (g.running, g.given, g.told)

outcome_gives : (h : History) (e : Event) (x : Verdict) → Sort e → (outcome_of h e).verdict ≡ Some x → Gives h e x
outcome_gives h e x (serves _ s) c = cc (ap (λ o. o.verdict) (served h e s))
outcome_gives h (Start _ _ _) x (starts clock settings p) c = cc
outcome_gives h (Second _ _) x (measures clock readings) c = step_gives h (Second clock readings) x h.test _ refl refl c
outcome_gives h (Stop _ _) x (stops clock cause) c = step_gives h (Stop clock cause) x h.test _ refl refl c

gives_outcome : (h : History) (e : Event) (x : Verdict) → Sort e → Gives h e x → (outcome_of h e).verdict ≡ Some x
gives_outcome h e x (serves _ s) g = cc (ap (input_with (automatic_in h.events)) s.carries, g.given)
gives_outcome h (Start _ _ _) x (starts clock settings p) g = cc g.given
gives_outcome h (Second _ _) x (measures clock readings) g = gives_step h (Second clock readings) x g
gives_outcome h (Stop _ _) x (stops clock cause) g = gives_step h (Stop clock cause) x g

-- A verdict is answered exactly if no row stands and the history's test gives it.
pub verdicts_exactly :
    (validity limit : ℕ) (h : History) (e : Event) (x : Verdict) →
    ((tell validity limit h e).answer ≡ Ok (Some x)) ↔ (NoneStand (causes validity limit h e) × Gives h e x)
unfolding tell judged added
verdicts_exactly validity limit h e x = go (first_cause (causes validity limit h e)) refl
  where
    go :
        (o : Option Refusal) →
        first_cause (causes validity limit h e) ≡ o →
        ((judged o h e).answer ≡ Ok (Some x)) ↔ (NoneStand (causes validity limit h e) × Gives h e x)
    go (Some r) c = (
      (λ a. cc),
      (λ n. cc (stand_none (causes validity limit h e) n.0)),
    )
    go None c = (
      (λ a. (none_stand (causes validity limit h e) c, outcome_gives h e x (sort_of e) (cc))),
      (λ n. rw (gives_outcome h e x (sort_of e) n.1)),
    )
