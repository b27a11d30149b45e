-- The pass claim, lifted from one test's log to the accepted events and their own readings. Assumes nothing.
use Prim.Native.Nat.{ℕ}
use mathlib.Core.Bool.{Bool}
use mathlib.Core.Path.{◌≡◌, refl, ap, ◌∙◌, subst}
use mathlib.Core.List.{List, [], ◌∷◌}
use Rattle.std.specs.Prelude.{Ok, Err, Result, Some, Option}
use Rattle.refusal.specs.declared.Refusal.{Refusal}
use Rattle.reading.specs.declared.Second.{Second as Units}
use Rattle.reading.specs.Units.{second_of}
use Rattle.vehicle.specs.declared.Settings.{Settings}
use Rattle.vehicle.specs.declared.Vehicle.{Vehicle}
use Rattle.vehicle.specs.Checked.{vehicle_of}
use Rattle.loaded_test.specs.declared.Verdict.{Verdict}
use Rattle.loaded_test.specs.declared.Did.{Did}
use Rattle.loaded_test.specs.declared.Next.{Next}
use Rattle.loaded_test.specs.declared.Next.TheVariants.{Ends}
use Rattle.loaded_test.specs.declared.Test.{Test}
use Rattle.loaded_test.specs.Log.{Input, a_second, Entry, step, replay, logged, log_of}
use Rattle.loaded_test.specs.Claim.{Measures, more as measuresMore, Earned, PassClaim}
use Rattle.loaded_test.specs.Laws.{VerdictAccounted, AccountedClaim}
use Rattle.loaded_test.proofs.Passing.{passes, accounted_all}
use Rattle.locks.specs.declared.Event.{Event}
use Rattle.locks.specs.declared.Event.TheVariants.{Start, Second, Stop}
use Rattle.locks.proofs.Sorts.{Sort, serves, starts, measures, stops, sort_of}
use Rattle.locks.specs.Accepted.{Accepted, accepted, since}
use Rattle.bench.specs.Causes.{automatic_in}
use Rattle.bench.specs.Telling.{second_input, input_with, input_of}
use Rattle.vehicle.specs.Settings.{automatic}
use Rattle.bench.specs.Running.{inputs_since}
use Rattle.bench.specs.Passes.{Since, seconded, stopped, Reads, no_more, before, pass, PassEarned}
use Rattle.bench.proofs.Sound.{Follows}

-- Measured seconds of the log are the newest accepted events.
reads :
    (settings : Settings) (p : ℕ) (ss : List Units) (l : List Accepted) (log : List Entry) →
    Measures ss log →
    Since settings p l log →
    Reads (automatic settings) ss l
reads settings p [] l log m since = no_more
reads settings p (s ∷ ss) l log (measuresMore i d n m) (seconded r j since) =
    before (cc (r, j, i)) (reads settings p ss _ _ m since)
reads settings p (s ∷ ss) l log (measuresMore i d n m) (stopped j since) = cc (j, i)

-- A second's input comes from its own readings.
second_input_lem :
    (x : Result Units Refusal) (s : Units) → second_input x ≡ Some (a_second s) → x ≡ Ok s
unfolding second_input
second_input_lem (Ok y) s h = cc
second_input_lem (Err r) s h = cc

-- An event that gives a test a second is a second with those units.
newest_reads :
    (e : Event) (verdict : Option Verdict) (auto : Bool) (s : Units) (ss : List Units) (l : List Accepted) →
    input_of auto e ≡ Some (a_second s) →
    Reads auto ss l →
    Reads auto (s ∷ ss) (accepted e verdict ∷ l)
newest_reads e verdict auto s ss l h r = go e (sort_of e) h
  where
    go : (e : Event) → Sort e → input_of auto e ≡ Some (a_second s) → Reads auto (s ∷ ss) (accepted e verdict ∷ l)
    go e (serves _ x) h = cc (ap (input_with auto) x.carries)
    go (Start _ _ _) (starts clock settings p) h = cc
    go (Second _ _) (measures clock readings) h = before (second_input_lem (second_of readings auto) s h) r
    go (Stop _ _) (stops clock cause) h = cc

-- What a test that follows the accepted events tells of an input is what a test of the start's vehicle tells after the inputs since.
replayed :
    (l : List Accepted) (test : Test) (i : Input) (did : Did) (next : Next) (f : Follows l test) →
    (step test i).answer ≡ Ok (record { did = did; next = next }) →
    (step (replay (vehicle_of f.settings f.saturation) (inputs_since l)) i).answer ≡ Ok (record { did = did; next = next })
replayed l test i did next f told = subst (λ y. (step y i).answer ≡ Ok (record { did = did; next = next })) f.replayed told

-- It is the newest entry of that test's log.
newest :
    (l : List Accepted) (test : Test) (i : Input) (did : Did) (next : Next) (f : Follows l test) →
    (step test i).answer ≡ Ok (record { did = did; next = next }) →
    log_of (vehicle_of f.settings f.saturation) (i ∷ inputs_since l) ≡
    record { input = i; did = did; next = next } ∷ log_of (vehicle_of f.settings f.saturation) (inputs_since l)
unfolding log_of logged
newest l test i did next f told = rw (replayed l test i did next f told)

-- The windows of a verdict that it tells are all accounted for.
pub verdict_accounted :
    (l : List Accepted) (test : Test) (i : Input) (did : Did) (x : Verdict) →
    Follows l test →
    (step test i).answer ≡ Ok (record { did = did; next = Ends x }) →
    VerdictAccounted x
verdict_accounted l test i did x f told =
    subst AccountedClaim (newest l test i did (Ends x) f told)
    (accounted_all (vehicle_of f.settings f.saturation) (i ∷ inputs_since l)) x refl

-- A pass told by a test that follows the accepted events is earned by them.
pub earned_pass :
    (l : List Accepted) (e : Event) (test : Test) (i : Input) (did : Did) (t passing failing invalid : ℕ) →
    Follows l test →
    input_of (automatic_in l) e ≡ Some i →
    (step test i).answer ≡ Ok (record { did = did; next = Ends (pass t passing failing invalid) }) →
    PassEarned l e t passing failing invalid
earned_pass l e test i did t passing failing invalid f given told = record {
  settings = f.settings;
  saturation = f.saturation;
  fit = f.fit;
  since = f.since;
  entry = entry;
  told = replayed l test i did _ f told;
  ends = refl;
  earned = earned;
  seconds =
      newest_reads e (Some (pass t passing failing invalid)) (automatic f.settings) earned.last earned.before l
      (subst (λ b. input_of b e ≡ Some (a_second earned.last)) f.gearbox (given ∙ ap Some earned.is_second))
      (reads f.settings f.saturation earned.before l (log_of v (inputs_since l)) earned.measured f.since);
}
  where
    v : Vehicle
    v = vehicle_of f.settings f.saturation

    entry : Entry
    entry = record { input = i; did = did; next = Ends (pass t passing failing invalid) }

    earned : Earned v entry (log_of v (inputs_since l)) t passing failing invalid
    earned = subst (PassClaim v) (newest l test i did _ f told) (passes v (i ∷ inputs_since l)) t passing failing invalid refl
