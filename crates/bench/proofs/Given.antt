-- The history's last clock and its test are read from the accepted events. Assumes nothing.
use Prim.Native.Nat.{ℕ}
use mathlib.Core.Bool.{Bool, true, false, ◌||◌}
use mathlib.Core.Path.{◌≡◌, refl, ap, sym, ◌∙◌, subst, subst⁻¹}
use mathlib.Core.List.{List, [], ◌∷◌}
use borrow.Author.Tests.{eqb-true, not-false}
use Rattle.std.specs.Prelude.{Some, None, Option, is_some}
use Rattle.refusal.specs.Choice.{pick}
use Rattle.refusal.specs.declared.Refusal.{Refusal}
use Rattle.correction.specs.Humidity.{saturation_fit}
use Rattle.vehicle.specs.declared.Settings.{Settings}
use Rattle.vehicle.specs.Settings.{unfit_place}
use Rattle.vehicle.specs.Checked.{vehicle_of}
use Rattle.loaded_test.specs.declared.Verdict.{Verdict}
use Rattle.loaded_test.specs.declared.Test.{Test}
use Rattle.loaded_test.specs.Steps.{begin, begun_by}
use Rattle.loaded_test.specs.Log.{Input, step, replay}
use Rattle.locks.specs.declared.Event.{Event}
use Rattle.locks.specs.declared.Event.TheVariants.{Start, Second, Stop}
use Rattle.locks.proofs.Sorts.{Serves, Sort, serves, starts, measures, stops, sort_of}
use Rattle.locks.specs.declared.Kind.TheVariants as kind
use Rattle.locks.specs.Events.{kind_of, same_kind, start_with, start_in, Starting}
use Rattle.locks.specs.Accepted.{Accepted, accepted, is_kind, since, or_else, latest_of}
use Rattle.bench.specs.History.{History}
use Rattle.bench.specs.Causes.{setting_at, saturation_bad, automatic_in, causes, first_cause}
use Rattle.bench.specs.Telling.{input_with, input_of, verdict_told, Outcome, ended_by, step_taken, left_by, outcome_of, added, judged, tell, history_after}
use Rattle.bench.specs.Running.{with_input, inputs_of, inputs_since, ends_test, replayed_from, test_in}
use Rattle.bench.specs.Demand.{NoneStand}
use Rattle.bench.specs.Laws.{last_clock}
use Rattle.bench.proofs.Tied.{served}
use Rattle.bench.proofs.Kept.{none_stand, checked_fit}

-- What a second or a stop leaves: none after a verdict, else the test that took its input.
stepped_test :
    (x : Option Starting) (i : Option Input) (inputs : List Input) →
    (step_taken (replayed_from x inputs) i).test
    ≡ replayed_from (pick (is_some (step_taken (replayed_from x inputs) i).verdict) None x) (with_input i inputs)
unfolding step_taken replayed_from with_input pick replay ended_by
stepped_test None i inputs = refl
stepped_test (Some s) None inputs = refl
stepped_test (Some s) (Some i) inputs = go (verdict_told (step t i).answer)
  where
    t : Test
    t = replay (vehicle_of s.settings s.saturation) inputs

    go :
        (v : Option Verdict) →
        (ended_by v (step t i).test).test
        ≡ replayed_from (pick (is_some (ended_by v (step t i).test).verdict) None (Some s)) (i ∷ inputs)
    go None = refl
    go (Some x) = refl

-- What the newest start is after an event that is none.
since_verdict :
    (a : Accepted) (l : List Accepted) (b : Bool) →
    start_in a.event ≡ None →
    latest_of start_in (pick b [] (a ∷ since ends_test l)) ≡ pick b None (latest_of start_in (since ends_test l))
unfolding latest_of or_else pick
since_verdict a l true h = refl
since_verdict a l false h = rw h

-- The gearbox after an event that is no start.
same_gearbox : (a : Accepted) (l : List Accepted) → start_in a.event ≡ None → automatic_in (a ∷ l) ≡ automatic_in l
unfolding latest_of or_else
same_gearbox a l h = rw h

module _ (l : List Accepted) (last : ℕ) where
  abbrev at : Option Test → History
  at o = record { events = l; last = last; test = o }

  abbrev Read : Option Test → Event → Type 0
  Read o e = (outcome_of (at o) e).test ≡ test_in (accepted e (outcome_of (at o) e).verdict ∷ l)

  -- A second or a stop.
  stepped_read :
      (e : Event) (o : Option Test) →
      o ≡ test_in l →
      is_kind kind.PowerOn (accepted e None) ≡ false →
      is_kind kind.Start (accepted e None) ≡ false →
      start_in e ≡ None →
      (step_taken o (input_of (automatic_in l) e)).test
      ≡ test_in (accepted e (step_taken o (input_of (automatic_in l) e)).verdict ∷ l)
  unfolding test_in since inputs_of pick latest_of or_else
  stepped_read e o h one nine other =
      subst
      (λ o. (step_taken o (input_of (automatic_in l) e)).test ≡ test_in (accepted e (step_taken o (input_of (automatic_in l) e)).verdict ∷ l))
      (sym h)
      (stepped_test x i (inputs_since l) ∙
      sym (rw (same_gearbox (accepted e v) l other, one, nine, since_verdict (accepted e v) l (is_some v) other)))
    where
      x : Option Starting
      x = latest_of start_in (since ends_test l)

      i : Option Input
      i = input_of (automatic_in l) e

      v : Option Verdict
      v = (step_taken (replayed_from x (inputs_since l)) i).verdict

  -- An admitted start begins its test.
  begun_read :
      (clock : ℕ) (settings : Settings) (p : ℕ) (o : Option Test) →
      unfit_place settings ≡ 0 →
      saturation_fit p ≡ true →
      Read o (Start clock settings p)
  unfolding test_in since inputs_of pick latest_of or_else replayed_from replay begin begun_by
  begun_read clock settings p o a b = rw (checked_fit settings p a b)

  -- An event that is no start, second or stop.
  served_left : (o : Option Test) (e : Event) → Serves e → o ≡ test_in l → left_by (kind_of e) o ≡ test_in (accepted e None ∷ l)
  unfolding left_by test_in since inputs_of with_input latest_of or_else replayed_from pick
  served_left o e s h =
      go (same_kind (kind_of e) kind.PowerOn) ∙
      sym (rw (same_gearbox (accepted e None) l other, s.not_start, since_verdict (accepted e None) l (same_kind (kind_of e) kind.PowerOn || false) other, ap (input_with (automatic_in l)) s.carries))
    where
      other : start_in e ≡ None
      other = ap start_with s.carries

      go :
          (b : Bool) →
          pick b None o ≡ replayed_from (pick (b || false) None (latest_of start_in (since ends_test l))) (inputs_since l)
      go true = refl
      go false = h

  served_read : (o : Option Test) (e : Event) → Serves e → o ≡ test_in l → Read o e
  served_read o e s h =
      subst⁻¹ (λ (x : Outcome). x.test ≡ test_in (accepted e x.verdict ∷ l)) (served (at o) e s) (served_left o e s h)

  accepted_read :
      (validity limit : ℕ) (o : Option Test) (e : Event) →
      Sort e →
      o ≡ test_in l →
      NoneStand (causes validity limit (at o) e) →
      Read o e
  unfolding causes setting_at saturation_bad
  accepted_read validity limit o e (serves _ s) h n = served_read o e s h
  accepted_read validity limit o (Start _ _ _) (starts clock settings p) h n =
      begun_read clock settings p o (eqb-true _ _ (not-false _ n.1.1.1.0)) (not-false _ n.1.1.1.1.0)
  accepted_read validity limit o (Second _ _) (measures clock readings) h n = stepped_read (Second clock readings) o h refl refl refl
  accepted_read validity limit o (Stop _ _) (stops clock cause) h n = stepped_read (Stop clock cause) o h refl refl refl

-- What the history keeps beside the accepted events is read from them.
pub record FromEvents (h : History) : Type 0 where
  pub clock : h.last ≡ last_clock h.events
  pub test : h.test ≡ test_in h.events

told_read : (validity limit : ℕ) (h : History) (e : Event) → FromEvents h → FromEvents (tell validity limit h e).history
unfolding tell judged added last_clock
told_read validity limit h e f = go (first_cause (causes validity limit h e)) refl
  where
    go : (o : Option Refusal) → first_cause (causes validity limit h e) ≡ o → FromEvents (judged o h e).history
    go (Some r) c = record { clock = f.clock; test = f.test }
    go None c = record {
      clock = refl;
      test =
          accepted_read h.events h.last validity limit h.test e (sort_of e) f.test
          (none_stand (causes validity limit h e) c);
    }

pub after_read :
    (validity limit : ℕ) (es : List Event) (h : History) → FromEvents h → FromEvents (history_after validity limit h es)
unfolding history_after
after_read validity limit [] h f = f
after_read validity limit (e ∷ es) h f = after_read validity limit es (tell validity limit h e).history (told_read validity limit h e f)
