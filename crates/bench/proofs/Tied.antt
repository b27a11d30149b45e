-- One event: the bench's step on the summary of a history is the summary of what the history tells. Assumes nothing.
use Prim.Native.Nat.{ℕ, ◌≤◌, ◌<◌}
use native.Mathlib.Omega.{arith}
use mathlib.Core.Bool.{Bool, true, false, true≢false, not, ◌&&◌, ◌||◌}
use mathlib.Core.Path.{◌≡◌, refl, ap, sym, ◌∙◌, subst}
use mathlib.Core.List.{List, ◌∷◌}
use lib.Dec.{eqb}
use lib.ListN.{drop}
use borrow.Author.Tests.{eq-eqb, ne_eqb}
use Rattle.refusal.specs.declared.Refusal.TheVariants.{SettingUnfit, SaturationUnfit, ReadingUnfit, InertiaUnfit, PowerUnfit, BackgroundUnfit, StartLocked}
use Rattle.refusal.specs.Checking.{◌⨾◌, need}
use Rattle.std.specs.Prelude.{Ok, Err, Result, Some, None, Option, is_some}
use Rattle.refusal.specs.Choice.{pick}
use Rattle.refusal.specs.declared.Refusal.{Refusal}
use Rattle.reading.specs.declared.Channel.{Channel}
use Rattle.reading.specs.Channel.{code_of}
use Rattle.reading.specs.Kind.{Readings}
use Rattle.reading.specs.declared.Second.{Second as Units}
use Rattle.reading.specs.Units.{second_of}
use Rattle.reading.specs.Fitness.{least_unfit, ToldBy}
use Rattle.reading.proofs.Least.{least_refused}
use Rattle.correction.specs.Humidity.{saturation_fit}
use Rattle.vehicle.specs.declared.Settings.{Settings}
use Rattle.vehicle.specs.Settings.{unfit_place}
use Rattle.vehicle.specs.Checked.{vehicle_of, checked_of}
use Rattle.loaded_test.specs.declared.Verdict.{Verdict}
use Rattle.loaded_test.specs.declared.Next.{Next}
use Rattle.loaded_test.specs.declared.Next.TheVariants.{Ends}
use Rattle.loaded_test.specs.declared.Test.{Test}
use Rattle.loaded_test.specs.declared.Stepped.{Stepped}
use Rattle.loaded_test.specs.State.{began}
use Rattle.loaded_test.specs.Steps.{begin, begun_by, cause_fit, second, stop}
use Rattle.loaded_test.specs.Going.{is_running, Goes}
use Rattle.loaded_test.proofs.Going.{second_goes, stop_goes, stop_refused_lem}
use Rattle.loaded_test.proofs.Passing.{stands}
use Rattle.coast_down.specs.Passing.{inertia_fit, power_fit}
use Rattle.prepare.specs.Standing.{above_greatest}
use Rattle.bench.specs.declared.Bench.{Bench}
use Rattle.bench.specs.declared.Handled.{Handled}
use Rattle.locks.specs.declared.Event.{Event}
use Rattle.locks.specs.declared.Event.TheVariants.{Start, Second, Stop}
use Rattle.locks.specs.declared.Service.{Service}
use Rattle.locks.specs.declared.Service.TheVariants as service
use Rattle.locks.specs.declared.Kind.TheVariants as kind
use Rattle.locks.specs.Events.{kind_of, same_kind, clock_of, carried_by, run_with, prepare_with}
use Rattle.locks.specs.Accepted.{Accepted, accepted}
use Rattle.locks.specs.Locks.{lock_number, lock_of, unsent_in}
use Rattle.locks.specs.State.{locks_after, verdict_counted}
use Rattle.locks.proofs.Sorts.{Serves, Sort, serves, starts, measures, stops, sort_of}
use Rattle.locks.proofs.Kept.{locks_of, locks_after_lem, verdict_counted_lem, first_lock_lem}
use Rattle.bench.specs.History.{History}
use Rattle.bench.specs.Causes.{outside_test, inside_test, number_in, setting_at, saturation_bad, cause_bad, automatic_in, reading_at, inertia_bad, power_bad, background_in, free, locked, causes, first_cause}
use Rattle.bench.specs.Telling.{second_input, verdict_next, verdict_told, leaves, ended_by, step_taken, left_by, outcome_with, outcome_of, added, judged, tell}
use Rattle.bench.specs.Running.{inputs_since}
use Rattle.bench.specs.Stepping.{refused, unless_refused, gone_on, plain_taken, background_check, service_check, service_taken, test_unless, start_taken, judged_with, followed, test_taken, second_taken, stop_taken, taken, running, step_by, step}
use Rattle.bench.proofs.Summary.{test_or, summary, summarised}
use Rattle.bench.proofs.Sound.{Sound, Runs, Follows}

-- A choice, and a choice under a map.
chosen :
    {A B : Type 0} (f : A → B) (c : Bool) (x y : A) (u v : B) →
    (c ≡ true → u ≡ f x) →
    (c ≡ false → v ≡ f y) →
    pick c u v ≡ f (pick c x y)
unfolding pick
chosen f true x y u v p q = p refl
chosen f false x y u v p q = q refl

-- A start of unfit settings or p is refused 4 or 5; any other begins.
begin_answer :
    (s : Settings) (p : ℕ) →
    begin s p
    ≡ pick (eqb (unfit_place s) 0)
    (pick (saturation_fit p) (Ok (began (vehicle_of s p))) (Err (SaturationUnfit 0)))
    (Err (SettingUnfit (unfit_place s)))
unfolding begin begun_by checked_of pick
begin_answer s p = go (eqb (unfit_place s) 0) (saturation_fit p)
  where
    go :
        (a b : Bool) →
        begun_by (pick a (pick b (Ok (vehicle_of s p)) (Err (SaturationUnfit 0))) (Err (SettingUnfit (unfit_place s))))
        ≡ pick a
        (pick b (Ok (began (vehicle_of s p))) (Err (SaturationUnfit 0)))
        (Err (SettingUnfit (unfit_place s)))
    go true true = refl
    go true false = refl
    go false b = refl

-- What an event brings that is no start, second or stop.
pub served : (h : History) (e : Event) → Serves e → outcome_of h e ≡ leaves (left_by (kind_of e) h.test)
served h e s = ap (outcome_with h e) s.carries

-- It leaves no test, where 12 does not stand.
pub none_left :
    (o : Option Test) (one inside : Bool) →
    inside ≡ false →
    is_some o && not (one || inside) ≡ false →
    pick one None o ≡ None
unfolding pick
none_left o true inside i h = refl
none_left None false inside i h = refl
none_left (Some t) false false i h = absurd (true≢false h)
none_left (Some t) false true i h = absurd (true≢false i)

module _ (validity limit : ℕ) (l : List Accepted) (last : ℕ) where
  abbrev at : Option Test → History
  at o = record { events = l; last = last; test = o }

  -- What is to be shown of an event that 11, 12 and 13 do not refuse.
  abbrev Tied : Option Test → Event → Type 0
  Tied o e =
      taken (summary validity limit (at o)) e (carried_by e)
      ≡ summarised validity limit (judged (first_cause (drop 3 (causes validity limit (at o) e))) (at o) e)

  -- A refused event, on the bench and in the history.
  refused_tied :
      (o : Option Test) (e : Event) (r : Refusal) →
      refused r (summary validity limit (at o)) ≡ summarised validity limit (judged (Some r) (at o) e)
  unfolding judged
  refused_tied o e r = refl

  -- An event that is no start, second or stop, accepted.
  plain_tied :
      (o : Option Test) (e : Event) →
      Serves e →
      is_some o && outside_test (kind_of e) ≡ false →
      plain_taken (summary validity limit (at o)).desk e ≡ summarised validity limit (judged None (at o) e)
  unfolding judged added pick left_by test_or
  plain_tied o e s h =
      rw
      (served (at o) e s, none_left o (same_kind (kind_of e) kind.PowerOn) (inside_test (kind_of e)) s.not_inside h, locks_after_lem e l)

  -- Judged by whether the inertia and the power of a coast-down run, and the background of a prepare, are fit.
  service_ruled :
      (o : Option Test) (e : Event) (x : Service) →
      plain_taken (summary validity limit (at o)).desk e ≡ summarised validity limit (judged None (at o) e) →
      unless_refused (service_check x) (summary validity limit (at o)) (λ _. plain_taken (summary validity limit (at o)).desk e)
      ≡ summarised validity limit
      (judged
      (pick (inertia_bad (run_with x)) (Some InertiaUnfit)
      (pick (power_bad (run_with x)) (Some PowerUnfit)
      (pick (is_some (background_in (prepare_with (clock_of e) x))) (Some (BackgroundUnfit (number_in code_of (background_in (prepare_with (clock_of e) x))))) None)))
      (at o) e)
  unfolding inertia_bad power_bad background_in ◌⨾◌ need pick
  service_ruled o e (service.Ran run) p = go (inertia_fit run.inertia) (power_fit run.power)
    where
      go :
          (a b : Bool) →
          unless_refused
          (need a InertiaUnfit ⨾ need b PowerUnfit)
          (summary validity limit (at o)) (λ _. plain_taken (summary validity limit (at o)).desk e)
          ≡ summarised validity limit
          (judged (pick (not a) (Some InertiaUnfit) (pick (not b) (Some PowerUnfit) None)) (at o) e)
      go true true = p
      go true false = refused_tied o e PowerUnfit
      go false b = refused_tied o e InertiaUnfit
  service_ruled o e (service.Prepared check) p = go (above_greatest check)
    where
      go :
          (x : Option Channel) →
          unless_refused (background_check x) (summary validity limit (at o)) (λ _. plain_taken (summary validity limit (at o)).desk e)
          ≡ summarised validity limit
          (judged (pick (is_some x) (Some (BackgroundUnfit (number_in code_of x))) None) (at o) e)
      go None = p
      go (Some channel) = refused_tied o e (BackgroundUnfit (code_of channel))
  service_ruled o e _ p = p

  service_tied : (o : Option Test) (e : Event) → Serves e → is_some o && outside_test (kind_of e) ≡ false → Tied o e
  unfolding causes first_cause setting_at saturation_bad cause_bad reading_at locked pick service_taken
  service_tied o e s h =
      rw s.carries (service_ruled o e s.service (plain_tied o e s h))

  -- A start where no test runs, judged by whether its settings, its p and the locks admit it.
  start_ruled :
      (clock : ℕ) (settings : Settings) (p n : ℕ) (a b c : Bool) (begins : Result Test Refusal) →
      begins
      ≡ pick a
      (pick b (Ok (began (vehicle_of settings p))) (Err (SaturationUnfit 0)))
      (Err (SettingUnfit (unfit_place settings))) →
      begin settings p ≡ begins →
      unless_refused
      (test_unless (need c (StartLocked n)) begins)
      (summary validity limit (at None))
      (λ t. gone_on (summary validity limit (at None)).desk (Start clock settings p) t)
      ≡ summarised validity limit
      (judged
      (pick (not a) (Some (SettingUnfit (unfit_place settings)))
      (pick (not b) (Some (SaturationUnfit 0))
      (pick (not c) (Some (StartLocked n)) None)))
      (at None) (Start clock settings p))
  unfolding pick need judged added test_or
  start_ruled clock settings p n true true true begins f g = rw (g, f, locks_after_lem (Start clock settings p) l)
  start_ruled clock settings p n true true false begins f g = rw f refl
  start_ruled clock settings p n true false c begins f g = rw f refl
  start_ruled clock settings p n false b c begins f g = rw f refl

  start_tied : (clock : ℕ) (settings : Settings) (p : ℕ) → Tied None (Start clock settings p)
  unfolding causes first_cause setting_at saturation_bad cause_bad reading_at inertia_bad power_bad background_in locked pick start_taken
  start_tied clock settings p =
      rw (first_lock_lem validity limit clock l)
      (start_ruled clock settings p (number_in lock_number (lock_of validity limit clock l))
      (eqb (unfit_place settings) 0) (saturation_fit p) (free (lock_of validity limit clock l)) (begin settings p) (begin_answer settings p) refl)

  -- A second or a stop that the running test took, told with what comes next.
  abbrev Next_tied : Event → Next → Test → Test → Type 0
  Next_tied e next t t' =
      followed next (summary validity limit (at (Some t))).desk e t'
      ≡ summarised validity limit (added (at (Some t)) e (ended_by (verdict_next next) t'))

  goes_tied :
      (e : Event) (t t' : Test) →
      gone_on (summary validity limit (at (Some t))).desk e t'
      ≡ summarised validity limit (added (at (Some t)) e (leaves (Some t')))
  unfolding added test_or
  goes_tied e t t' = rw (locks_after_lem e l)

  ends_tied :
      (e : Event) (t : Test) (x : Verdict) →
      locks_of (accepted e (Some x) ∷ l) ≡ verdict_counted (locks_after (locks_of l) e) →
      judged_with (summary validity limit (at (Some t))).desk e x
      ≡ summarised validity limit (added (at (Some t)) e (record { verdict = Some x; test = None }))
  unfolding added test_or
  ends_tied e t x j = rw j

  next_tied :
      (e : Event) (next : Next) (t t' : Test) →
      ((x : Verdict) → locks_of (accepted e (Some x) ∷ l) ≡ verdict_counted (locks_after (locks_of l) e)) →
      Next_tied e next t t'
  unfolding ended_by verdict_next
  next_tied e (Ends x) t t' j = ends_tied e t x (j x)
  next_tied e _ t t' j = goes_tied e t t'

  -- What the test tells is what the bench and the history go by.
  told_tied :
      (e : Event) (t : Test) (x : Stepped) →
      Goes x →
      ((y : Verdict) → locks_of (accepted e (Some y) ∷ l) ≡ verdict_counted (locks_after (locks_of l) e)) →
      test_taken x (summary validity limit (at (Some t))) e
      ≡ summarised validity limit (added (at (Some t)) e (ended_by (verdict_told x.answer) x.test))
  unfolding verdict_told
  told_tied e t x g j = rw g.taken (next_tied e g.told.next t x.test j)

  -- A second by its check, where this test runs.
  abbrev measured : ℕ → Readings → Test → Result Units Refusal → Handled
  measured clock readings t x =
      unless_refused x (summary validity limit (at (Some t))) λ s.
      test_taken (second t s) (summary validity limit (at (Some t))) (Second clock readings)

  second_tied :
      (clock : ℕ) (readings : Readings) (t : Test) →
      is_running t.progress.stage ≡ true →
      t.vehicle.automatic ≡ automatic_in l →
      unsent_in l < 65535 →
      Tied (Some t) (Second clock readings)
  unfolding causes first_cause setting_at saturation_bad cause_bad reading_at inertia_bad power_bad background_in locked test_or second_taken second_input step_taken judged pick ToldBy
  second_tied clock readings t live gearbox room =
      ap (λ b. measured clock readings t (second_of readings b)) gearbox ∙
      go (second_of readings (automatic_in l)) refl (least_refused readings (automatic_in l))
    where
      n : ℕ
      n = least_unfit (automatic_in l) readings

      go :
          (x : Result Units Refusal) →
          second_of readings (automatic_in l) ≡ x →
          ToldBy n (second_of readings (automatic_in l)) →
          measured clock readings t (second_of readings (automatic_in l))
          ≡ summarised validity limit
          (judged (pick (not (eqb n 0)) (Some (ReadingUnfit n)) None) (at (Some t)) (Second clock readings))
      go (Ok s) e c =
          let z : n ≡ 0 = subst (ToldBy n) e c in
          rw (eq-eqb n 0 z, e)
          (told_tied (Second clock readings) t (second t s) (second_goes t s live) (λ x. verdict_counted_lem (Second clock readings) x l refl room))
      go (Err r) e c =
          let d : ToldBy n (Err r) = subst (ToldBy n) e c in
          rw (ne_eqb n 0 (λ z. omega (arith, d.1, z)), e) (ap (λ x. refused x (summary validity limit (at (Some t)))) d.0)

  stop_tied :
      (clock cause : ℕ) (t : Test) →
      is_running t.progress.stage ≡ true →
      unsent_in l < 65535 →
      Tied (Some t) (Stop clock cause)
  unfolding causes first_cause setting_at saturation_bad cause_bad reading_at inertia_bad power_bad background_in locked test_or stop_taken step_taken judged pick
  stop_tied clock cause t live room = go (cause_fit cause) refl
    where
      go : (b : Bool) → cause_fit cause ≡ b → Tied (Some t) (Stop clock cause)
      go true e =
          rw e
          (told_tied (Stop clock cause) t (stop t cause) (stop_goes t cause e live) (λ x. verdict_counted_lem (Stop clock cause) x l refl room))
      go false e = rw (e, stop_refused_lem t cause e live)

  -- A running test has the gearbox of the latest start.
  gearbox_of : (t : Test) → Follows l t → t.vehicle.automatic ≡ automatic_in l
  unfolding vehicle_of
  gearbox_of t f =
      ap (λ y. y.vehicle.automatic) f.replayed ∙
      ap (λ v. v.automatic) (stands (vehicle_of f.settings f.saturation) (inputs_since l)).vehicle ∙
      sym f.gearbox

  -- An event that 11, 12 and 13 do not refuse.
  taken_tied :
      (o : Option Test) (e : Event) →
      Sort e →
      unsent_in l ≤ limit →
      limit ≤ 255 →
      Runs limit l o →
      is_some o && outside_test (kind_of e) ≡ false →
      not (is_some o) && inside_test (kind_of e) ≡ false →
      Tied o e
  taken_tied o e (serves _ s) u f r h k = service_tied o e s h
  taken_tied None (Start _ _ _) (starts clock settings p) u f r h k = start_tied clock settings p
  taken_tied (Some t) (Start _ _ _) (starts clock settings p) u f r h k = absurd (true≢false h)
  taken_tied None (Second _ _) (measures clock readings) u f r h k = absurd (true≢false k)
  taken_tied (Some t) (Second _ _) (measures clock readings) u f r h k =
      second_tied clock readings t r.0 (gearbox_of t r.2) (omega arith)
  taken_tied None (Stop _ _) (stops clock cause) u f r h k = absurd (true≢false k)
  taken_tied (Some t) (Stop _ _) (stops clock cause) u f r h k = stop_tied clock cause t r.0 (omega arith)

  -- The bench's test runs where the history has one.
  running_same : (o : Option Test) → Runs limit l o → running (summary validity limit (at o)) ≡ is_some o
  unfolding test_or is_running
  running_same None r = refl
  running_same (Some t) r = r.0

-- Three checks in order, as three choices.
by_order :
    (a b c : Bool) (p q r : Refusal) (x : Bench) (y : Handled) →
    unless_refused (need (not a) p ⨾ need (not b) q ⨾ need (not c) r) x (λ _. y)
    ≡ pick a (refused p x) (pick b (refused q x) (pick c (refused r x) y))
unfolding ◌⨾◌ need pick
by_order true b c p q r x y = refl
by_order false true c p q r x y = refl
by_order false false true p q r x y = refl
by_order false false false p q r x y = refl

-- The bench's step on a history's summary is the summary of what the history tells.
pub tied :
    (validity limit : ℕ) (h : History) (e : Event) →
    limit ≤ 255 →
    Sound limit h →
    step (summary validity limit h) e ≡ summarised validity limit (tell validity limit h e)
unfolding step step_by tell causes first_cause judged
tied validity limit h e fit sound =
    rw (running_same validity limit h.events h.last h.test sound.test)
    (by_order _ _ _ _ _ _ _ _ ∙
    chosen f _ _ _ _ _
    (λ _. refl)
    (λ _. chosen f _ _ _ _ _
    (λ _. refl)
    (λ p. chosen f _ _ _ _ _
    (λ _. refl)
    (λ q. taken_tied validity limit h.events h.last h.test e (sort_of e) sound.unsent fit sound.test p q))))
  where
    f : Option Refusal → Handled
    f o = summarised validity limit (judged o h e)
