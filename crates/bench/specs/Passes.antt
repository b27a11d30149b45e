-- What stands in the list of accepted events wherever a pass is answered. It speaks of the accepted events, of their own readings and of
-- what document 01's steps tell of them. No state of the bench occurs here; the steps begin with the start's own test.
use Rattle.std.specs.Prelude.{ℕ, Bool, ◌≡◌, List, [], ◌∷◌, Ok, Some, None, Option}
use Rattle.reading.specs.Kind.{Readings}
use Rattle.reading.specs.declared.Second.{Second as Units}
use Rattle.reading.specs.Units.{second_of}
use Rattle.vehicle.specs.declared.Settings.{Settings}
use Rattle.vehicle.specs.Settings.{automatic}
use Rattle.vehicle.specs.Checked.{vehicle_of, checked_of}
use Rattle.loaded_test.specs.declared.Word.TheVariants.{Pass}
use Rattle.loaded_test.specs.declared.Verdict.{Verdict}
use Rattle.loaded_test.specs.declared.Next.TheVariants.{Ends}
use Rattle.loaded_test.specs.Log.{a_second, a_stop, Entry, step, replay, log_of}
use Rattle.loaded_test.specs.Claim.{Earned}
use Rattle.locks.specs.declared.Event.{Event}
use Rattle.locks.specs.declared.Event.TheVariants.{Start, Second, Stop}
use Rattle.locks.specs.Accepted.{Accepted, accepted}
use Rattle.bench.specs.Running.{inputs_since}

-- A pass with its t and its counts of windows.
abbrev pub pass : ℕ → ℕ → ℕ → ℕ → Verdict
pass t passing failing invalid = record { word = Pass; t = t; passing = passing; failing = failing; invalid = invalid }

-- The latest accepted events are seconds and stops since an accepted start with these settings and this p, none of them with a
-- verdict; the entries of the log are one for each of them, a second's with the units of its own readings.
pub data Since (settings : Settings) (p : ℕ) : List Accepted → List Entry → Type 0 where
  started : {clock : ℕ} {l : List Accepted} → Since settings p (accepted (Start clock settings p) None ∷ l) []
  seconded :
      {clock : ℕ} {readings : Readings} {s : Units} {l : List Accepted} {e : Entry} {log : List Entry} →
      second_of readings (automatic settings) ≡ Ok s →
      e.input ≡ a_second s →
      Since settings p l log →
      Since settings p (accepted (Second clock readings) None ∷ l) (e ∷ log)
  stopped :
      {clock cause : ℕ} {l : List Accepted} {e : Entry} {log : List Entry} →
      e.input ≡ a_stop cause →
      Since settings p l log →
      Since settings p (accepted (Stop clock cause) None ∷ l) (e ∷ log)

-- The latest accepted events are seconds whose own readings have these units.
pub data Reads (auto : Bool) : List Units → List Accepted → Type 0 where
  no_more : {l : List Accepted} → Reads auto [] l
  before :
      {clock : ℕ} {readings : Readings} {verdict : Option Verdict} {s : Units} {ss : List Units} {l : List Accepted} →
      second_of readings auto ≡ Ok s →
      Reads auto ss l →
      Reads auto (s ∷ ss) (accepted (Second clock readings) verdict ∷ l)

-- A pass (t, passing, failing, invalid) answered to an event after these accepted events.
pub record PassEarned (l : List Accepted) (e : Event) (t passing failing invalid : ℕ) : Type 0 where
  -- an accepted start with no verdict or power-on since: its settings and its p, read from the list, are fit
  pub settings : Settings
  pub saturation : ℕ
  pub fit : checked_of settings saturation ≡ Ok (vehicle_of settings saturation)
  -- what document 01's steps tell of each accepted second and stop since that start
  pub since : Since settings saturation l (log_of (vehicle_of settings saturation) (inputs_since l))
  -- what they tell of this event
  pub entry : Entry
  pub told : (step (replay (vehicle_of settings saturation) (inputs_since l)) entry.input).answer ≡ Ok (record { did = entry.did; next = entry.next })
  pub ends : entry.next ≡ Ends (pass t passing failing invalid)
  -- t, the attempt, the seconds' cleanness, the ending rule and the counts of windows
  pub earned :
      Earned (vehicle_of settings saturation) entry (log_of (vehicle_of settings saturation) (inputs_since l)) t passing failing invalid
  -- those seconds are the last t accepted events, this one included, by their own readings
  pub seconds :
      Reads (automatic settings) (earned.last ∷ earned.before) (accepted e (Some (pass t passing failing invalid)) ∷ l)
