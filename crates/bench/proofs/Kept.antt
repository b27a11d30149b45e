-- What holds of the plain history is kept by every event. Assumes nothing.
use Prim.Native.Nat.{ℕ, ◌≤◌, ◌<◌}
use native.Mathlib.Omega.{arith}
use mathlib.Core.Bool.{Bool, true, false, true≢false, not}
use mathlib.Core.Path.{◌≡◌, refl, ap, sym, ◌∙◌, subst}
use mathlib.Core.List.{List, [], ◌∷◌}
use borrow.Author.Tests.{eqb-false, eqb-true, not-false}
use Rattle.std.specs.Result.{result_ok}
use Rattle.std.specs.Prelude.{Ok, Err, Result, Some, None, Option}
use Rattle.refusal.specs.Choice.{pick}
use Rattle.refusal.specs.declared.Refusal.{Refusal}
use Rattle.reading.specs.Kind.{Readings}
use Rattle.reading.specs.declared.Second.{Second as Units}
use Rattle.reading.specs.Units.{second_of}
use Rattle.reading.specs.Fitness.{ToldBy}
use Rattle.reading.proofs.Least.{least_refused}
use Rattle.correction.specs.Humidity.{saturation_fit}
use Rattle.vehicle.specs.declared.Settings.{Settings}
use Rattle.vehicle.specs.Settings.{unfit_place}
use Rattle.vehicle.specs.Checked.{vehicle_of, checked_of}
use Rattle.loaded_test.specs.declared.Verdict.{Verdict}
use Rattle.loaded_test.specs.declared.Next.{Next}
use Rattle.loaded_test.specs.declared.Next.TheVariants.{Ends}
use Rattle.loaded_test.specs.declared.Told.{Told}
use Rattle.loaded_test.specs.declared.Test.{Test}
use Rattle.loaded_test.specs.Steps.{begin, begun_by, cause_fit}
use Rattle.loaded_test.specs.Log.{Input, a_second, a_stop, Entry, step, replay, logged, log_of}
use Rattle.loaded_test.specs.Going.{is_running, ends_in, Goes}
use Rattle.loaded_test.proofs.Going.{second_goes, stop_goes}
use Rattle.locks.specs.declared.Event.{Event}
use Rattle.locks.specs.declared.Event.TheVariants.{Start, Second, Stop}
use Rattle.locks.specs.declared.Kind.TheVariants as kind
use Rattle.locks.specs.Events.{kind_of, same_kind}
use Rattle.locks.specs.declared.Lock.{Lock}
use Rattle.locks.specs.declared.Lock.TheVariants as lock
use Rattle.locks.proofs.First.{first_exactly}
use Rattle.locks.specs.Accepted.{Accepted, accepted, is_kind, since, or_else, latest_of}
use Rattle.locks.proofs.Sorts.{Serves, Sort, serves, starts, measures, stops, sort_of}
use Rattle.locks.specs.Locks.{with_verdict, verdicts_in, unsent_in, unsent_lock, standing_in, lock_of}
use Rattle.bench.specs.History.{History}
use Rattle.bench.specs.Causes.{Cause, inside_test, setting_at, saturation_bad, cause_bad, automatic_of, automatic_in, reading_at, free, locked, causes, first_cause}
use Rattle.bench.specs.Telling.{second_input, verdict_next, verdict_told, ended_by, step_taken, left_by, outcome_of, added, judged, tell}
use Rattle.bench.specs.Running.{with_input, inputs_of, inputs_since}
use Rattle.bench.specs.Passes.{Since, started, seconded, stopped}
use Rattle.bench.specs.Demand.{NoneStand, Unlocked}
use Rattle.bench.proofs.Sound.{Follows, Runs, Sound}
use Rattle.bench.proofs.Tied.{served, none_left}

pick_none : (b : Bool) (r : Refusal) (o : Option Refusal) → pick b (Some r) o ≡ None → (b ≡ false) × (o ≡ None)
unfolding pick
pick_none true r o h = cc
pick_none false r o h = (refl, h)

-- No cause is found exactly where none stands.
pub none_stand : (l : List Cause) → first_cause l ≡ None → NoneStand l
unfolding first_cause
none_stand [] h = tt
none_stand (c ∷ l) h =
    let g = pick_none c.stands c.refusal (first_cause l) h in
    (g.0, none_stand l g.1)

pub stand_none : (l : List Cause) → NoneStand l → first_cause l ≡ None
unfolding first_cause pick
stand_none [] h = refl
stand_none (c ∷ l) h = rw h.0 (stand_none l h.1)

-- That none stands, lock by lock.
each_free : (validity limit now : ℕ) (l : List Accepted) → ((k : Lock) → standing_in validity limit now l k ≡ false) → Unlocked validity limit now l
each_free validity limit now l h = record {
  warm = h lock.NotWarm;
  active = h lock.Inactive;
  calibrated = h lock.NotCalibrated;
  signed_in = h lock.NotSignedIn;
  password = h lock.Password;
  authority = h lock.Authority;
  unsent = h lock.Unsent;
  prepared = h lock.Unprepared;
}

none_of : (validity limit now : ℕ) (l : List Accepted) → Unlocked validity limit now l → (k : Lock) → standing_in validity limit now l k ≡ false
none_of validity limit now l u lock.NotWarm = u.warm
none_of validity limit now l u lock.Inactive = u.active
none_of validity limit now l u lock.NotCalibrated = u.calibrated
none_of validity limit now l u lock.NotSignedIn = u.signed_in
none_of validity limit now l u lock.Password = u.password
none_of validity limit now l u lock.Authority = u.authority
none_of validity limit now l u lock.Unsent = u.unsent
none_of validity limit now l u lock.Unprepared = u.prepared

-- Free of locks is where none stands.
pub unlocked : (validity limit now : ℕ) (l : List Accepted) → free (lock_of validity limit now l) ≡ true → Unlocked validity limit now l
unfolding lock_of
unlocked validity limit now l h =
    each_free validity limit now l ((first_exactly (standing_in validity limit now l)).none.0 (go (lock_of validity limit now l) h))
  where
    go : (o : Option Lock) → free o ≡ true → o ≡ None
    go None e = refl
    go (Some k) e = absurd (true≢false (sym e))

pub no_lock : (validity limit now : ℕ) (l : List Accepted) → Unlocked validity limit now l → lock_of validity limit now l ≡ None
unfolding lock_of
no_lock validity limit now l u = (first_exactly (standing_in validity limit now l)).none.1 (none_of validity limit now l u)

-- Fit settings and a fit p are checked fit.
pub checked_fit :
    (s : Settings) (p : ℕ) → unfit_place s ≡ 0 → saturation_fit p ≡ true → checked_of s p ≡ Ok (vehicle_of s p)
unfolding checked_of pick
checked_fit s p a b = rw (a, b)

-- A test goes on with an input: it follows the accepted events with this one.
module _ (l : List Accepted) (t : Test) (f : Follows l t) (e : Event) (i : Input) where
  follows_on :
      (told : Told) →
      (step t i).answer ≡ Ok told →
      automatic_in (accepted e None ∷ l) ≡ automatic_in l →
      inputs_since (accepted e None ∷ l) ≡ i ∷ inputs_since l →
      ((x : Entry) (log : List Entry) →
      x.input ≡ i →
      Since f.settings f.saturation l log →
      Since f.settings f.saturation (accepted e None ∷ l) (x ∷ log)) →
      Follows (accepted e None ∷ l) (step t i).test
  unfolding replay log_of logged
  follows_on told taken a given more = record {
    settings = f.settings;
    saturation = f.saturation;
    fit = f.fit;
    gearbox = a ∙ f.gearbox;
    replayed = rw given (ap (λ y. (step y i).test) f.replayed);
    since =
        let g : (step (replay (vehicle_of f.settings f.saturation) (inputs_since l)) i).answer ≡ Ok told =
        subst (λ y. (step y i).answer ≡ Ok told) f.replayed taken in
        rw (given, g) (more (record { input = i; did = told.did; next = told.next }) _ refl f.since);
  }

module _ (validity limit : ℕ) (l : List Accepted) (last : ℕ) where
  abbrev at : Option Test → History
  at o = record { events = l; last = last; test = o }

  abbrev Kept : Option Test → Event → Type 0
  Kept o e =
      unsent_in l ≤ limit →
      Runs limit l o →
      NoneStand (causes validity limit (at o) e) →
      Sound limit (added (at o) e (outcome_of (at o) e)).history

  -- An event that is no start, second or stop brings no verdict and leaves no test.
  unsent_plain : (e : Event) → unsent_in l ≤ limit → unsent_in (accepted e None ∷ l) ≤ limit
  unfolding unsent_in since verdicts_in with_verdict pick
  unsent_plain e u = go (same_kind (kind_of e) kind.Upload)
    where
      go : (b : Bool) → verdicts_in (pick b [] (accepted e None ∷ since (is_kind kind.Upload) l)) ≤ limit
      go true = omega arith
      go false = u

  plain_kept : (o : Option Test) (e : Event) → Serves e → Kept o e
  unfolding causes added left_by
  plain_kept o e s u r n =
      rw (served (at o) e s, none_left o (same_kind (kind_of e) kind.PowerOn) (inside_test (kind_of e)) s.not_inside n.1.0)
      (record { unsent = unsent_plain e u; test = tt })

  -- An admitted start begins a test.
  begun_runs :
      (clock : ℕ) (settings : Settings) (p : ℕ) →
      unsent_in l < limit →
      checked_of settings p ≡ Ok (vehicle_of settings p) →
      Runs limit (accepted (Start clock settings p) None ∷ l) (result_ok (begin settings p))
  unfolding begin begun_by is_running unsent_in since pick verdicts_in with_verdict automatic_of latest_of or_else replay log_of inputs_of
  begun_runs clock settings p u fit =
      rw fit (
        refl,
        u,
        record {
          settings = settings;
          saturation = p;
          fit = fit;
          gearbox = refl;
          replayed = refl;
          since = started;
        },
      )

  start_kept : (o : Option Test) (clock : ℕ) (settings : Settings) (p : ℕ) → Kept o (Start clock settings p)
  unfolding causes setting_at saturation_bad locked added unsent_lock unsent_in since pick verdicts_in with_verdict
  start_kept o clock settings p u r n =
      let place : unfit_place settings ≡ 0 = eqb-true _ _ (not-false _ n.1.1.1.0) in
      let vapour : saturation_fit p ≡ true = not-false _ n.1.1.1.1.0 in
      let none_standing : Unlocked validity limit clock l =
      unlocked validity limit clock l (not-false _ n.1.1.1.1.1.1.1.1.1.1.0) in
      let other : unsent_in l ≡ limit → ⊥ = eqb-false (unsent_in l) limit none_standing.unsent in
      record {
        unsent = u;
        test = begun_runs clock settings p (omega (arith, other)) (checked_fit settings p place vapour);
      }

  -- A second or a stop that the test took, told with what comes next.
  next_kept :
      (e : Event) (t : Test) (next : Next) →
      ((v : Option Verdict) → unsent_in (accepted e v ∷ l) ≡ with_verdict v (unsent_in l)) →
      unsent_in l < limit →
      (t' : Test) →
      is_running t'.progress.stage ≡ not (ends_in next) →
      (ends_in next ≡ false → Follows (accepted e None ∷ l) t') →
      Sound limit (added (at (Some t)) e (ended_by (verdict_next next) t')).history
  unfolding added ended_by verdict_next ends_in with_verdict
  next_kept e t (Ends x) c u t' s f = record { unsent = rw c (omega arith); test = tt }
  next_kept e t _ c u t' s f = record { unsent = rw c (omega arith); test = (s, rw c u, f refl) }

  input_kept :
      (e : Event) (t : Test) (i : Input) →
      Goes (step t i) →
      Runs limit l (Some t) →
      ((v : Option Verdict) → unsent_in (accepted e v ∷ l) ≡ with_verdict v (unsent_in l)) →
      automatic_in (accepted e None ∷ l) ≡ automatic_in l →
      inputs_since (accepted e None ∷ l) ≡ i ∷ inputs_since l →
      ((f : Follows l t) (x : Entry) (log : List Entry) →
      x.input ≡ i →
      Since f.settings f.saturation l log →
      Since f.settings f.saturation (accepted e None ∷ l) (x ∷ log)) →
      Sound limit (added (at (Some t)) e (step_taken (Some t) (Some i))).history
  unfolding step_taken verdict_told
  input_kept e t i g r c a given more =
      rw g.taken
      (next_kept e t g.told.next c r.1 (step t i).test g.stage
      (λ _. follows_on l t r.2 e i g.told g.taken a given (more r.2)))

  second_kept :
      (clock : ℕ) (readings : Readings) (t : Test) (x : Result Units Refusal) →
      second_of readings (automatic_in l) ≡ x →
      ToldBy 0 x →
      Runs limit l (Some t) →
      Sound limit (added (at (Some t)) (Second clock readings) (step_taken (Some t) (second_input x))).history
  unfolding second_input ToldBy unsent_in since pick verdicts_in latest_of or_else inputs_of with_input
  second_kept clock readings t (Ok s) e z r =
      input_kept (Second clock readings) t (a_second s) (second_goes t s r.0) r (λ _. refl) refl (rw e)
      (λ f x log i since. seconded (subst (λ b. second_of readings b ≡ Ok s) f.gearbox e) i since)
  second_kept clock readings t (Err y) e z r = absurd (omega (arith, z.1))

  stop_kept :
      (clock cause : ℕ) (t : Test) →
      cause_fit cause ≡ true →
      Runs limit l (Some t) →
      Sound limit (added (at (Some t)) (Stop clock cause) (step_taken (Some t) (Some (a_stop cause)))).history
  unfolding unsent_in since pick verdicts_in latest_of or_else inputs_of with_input
  stop_kept clock cause t c r =
      input_kept (Stop clock cause) t (a_stop cause) (stop_goes t cause c r.0) r (λ _. refl) refl refl
      (λ f x log i since. stopped i since)

  accepted_kept : (o : Option Test) (e : Event) → Sort e → Kept o e
  unfolding causes cause_bad reading_at
  accepted_kept o e (serves _ s) = plain_kept o e s
  accepted_kept o (Start _ _ _) (starts clock settings p) = start_kept o clock settings p
  accepted_kept None (Second _ _) (measures clock readings) = λ u r n. absurd (true≢false n.1.1.0)
  accepted_kept (Some t) (Second _ _) (measures clock readings) =
      λ u r n.
      second_kept clock readings t (second_of readings (automatic_in l)) refl
      (subst (λ n. ToldBy n (second_of readings (automatic_in l))) (eqb-true _ _ (not-false _ n.1.1.1.1.1.1.0))
      (least_refused readings (automatic_in l)))
      r
  accepted_kept None (Stop _ _) (stops clock cause) = λ u r n. absurd (true≢false n.1.1.0)
  accepted_kept (Some t) (Stop _ _) (stops clock cause) = λ u r n. stop_kept clock cause t (not-false _ n.1.1.1.1.1.0) r

-- Every event keeps it.
pub kept :
    (validity limit : ℕ) (h : History) (e : Event) → Sound limit h → Sound limit (tell validity limit h e).history
unfolding tell judged
kept validity limit h e sound = go (first_cause (causes validity limit h e)) refl
  where
    go :
        (o : Option Refusal) → first_cause (causes validity limit h e) ≡ o → Sound limit (judged o h e).history
    go (Some r) c = record { unsent = sound.unsent; test = sound.test }
    go None c =
        accepted_kept validity limit h.events h.last h.test e (sort_of e) sound.unsent sound.test
        (none_stand (causes validity limit h e) c)
