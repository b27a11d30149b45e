-- The pass claim on one test: what stands in its log wherever it tells a pass. It speaks of the log and of the seconds in it; no state occurs here.
use Rattle.std.specs.Prelude.{ℕ, suc, ◌≤◌, ◌<◌, Bool, true, false, ◌≡◌, List, [], ◌∷◌, ◌++◌, map, ◌⊎◌, length}
use Rattle.reading.specs.declared.Second.{Second}
use Rattle.vehicle.specs.declared.Vehicle.{Vehicle}
use Rattle.vehicle.specs.declared.Mode.{Mode}
use Rattle.vehicle.specs.declared.Mode.TheVariants.{One, Two}
use Rattle.loaded_test.specs.declared.Word.TheVariants.{Pass}
use Rattle.loaded_test.specs.declared.Did.{Did}
use Rattle.loaded_test.specs.declared.Did.TheVariants as did
use Rattle.loaded_test.specs.declared.Next.{Next}
use Rattle.loaded_test.specs.declared.Next.TheVariants.{GoesOn, Rests, RestEnded, ModeTwo, Ends}
use Rattle.attempt.specs.declared.Ending.TheVariants.{NotYet, Passes}
use Rattle.refusal.specs.Choice.{pick}
use Rattle.attempt.specs.Screening.{Diluted}
use Rattle.attempt.specs.Speeds.{SpeedHeld}
use Rattle.loaded_test.specs.Windows.{longest_out, out_all, passing_in, failing_in, invalid_in, speeds_of, ending_of}
use Rattle.loaded_test.specs.Log.{Entry, Input, a_second, a_stop}

-- The mode is 2 exactly if mode 2 has begun.
unfoldable pub mode_after : Next → Mode → Mode
mode_after GoesOn mode = mode
mode_after Rests mode = mode
mode_after RestEnded mode = mode
mode_after ModeTwo mode = Two
mode_after (Ends x) mode = mode

-- The mode after a log.
unfoldable pub mode_in : List Entry → Mode
mode_in [] = One
mode_in (e ∷ log) = mode_after e.next (mode_in log)

-- "An attempt lasts from an admitted start, a rest's end or mode 2's beginning to the next void, mode 2, verdict ..".
unfoldable pub begins : Next → Bool
begins GoesOn = false
begins Rests = false
begins RestEnded = true
begins ModeTwo = true
begins (Ends x) = false

-- A void was told.
unfoldable pub voids : Did → Bool
voids did.Nothing = false
voids did.MeasuringBegan = false
voids (did.Measured t) = false
voids did.Restarted = false
voids (did.Voided n) = true

-- An attempt has begun, and nothing has ended it since.
pub data InAttempt : List Entry → Type 0 where
  at_start : InAttempt []
  begun : {e : Entry} {log : List Entry} → begins e.next ≡ true → InAttempt (e ∷ log)
  goes_on :
      {e : Entry} {log : List Entry} →
      voids e.did ≡ false →
      e.next ≡ GoesOn →
      InAttempt log →
      InAttempt (e ∷ log)

-- These seconds, newest first, are the newest of the log; in each t grew by one, from 0; the attempt they stand in goes on.
pub data Measures : List Second → List Entry → Type 0 where
  none : {log : List Entry} → InAttempt log → Measures [] log
  more :
      {s : Second} {l : List Second} {e : Entry} {log : List Entry} →
      e.input ≡ a_second s →
      e.did ≡ did.Measured (suc (length l)) →
      e.next ≡ GoesOn →
      Measures l log →
      Measures (s ∷ l) (e ∷ log)

-- Not over range in codes 4 to 7, and not diluted.
pub record Clean (s : Second) : Type 0 where
  pub in_range : s.over ≡ false
  pub undiluted : Diluted s → ⊥

-- Each of these seconds is clean.
pub data AllClean : List Second → Type 0 where
  no_second : AllClean []
  and_clean : {s : Second} {l : List Second} → Clean s → AllClean l → AllClean (s ∷ l)

-- The inputs of an attempt, newest first: those since the newest entry with which an attempt begins, or since the test's beginning.
unfoldable pub attempt_in : List Entry → List Input
attempt_in [] = []
attempt_in (e ∷ log) = pick (begins e.next) [] (e.input ∷ attempt_in log)

-- "While c = 0, a second with speed ≤ 10 changes nothing in the test"; "at c = 0" a stop "changes only the bench clock".
abbrev pub Waits : Input → Type 0
Waits (a_second s) = s.speed ≤ 10
Waits (a_stop n) = Unit {0}

-- Each of these inputs leaves the test waiting.
abbrev pub AllWait : List Input → Type 0
AllWait [] = Unit {0}
AllWait (i ∷ l) = Waits i × AllWait l

-- The oldest of these seconds has a speed above 10.
abbrev pub FirstAbove : List Second → Type 0
FirstAbove [] = Unit {0}
FirstAbove (s ∷ []) = 10 < s.speed
FirstAbove (s ∷ r ∷ l) = FirstAbove (r ∷ l)

-- An attempt that is not void, read from its inputs: from its first second with speed above 10 on there is no stop, no second over range in
-- codes 4 to 7, no diluted one, and there are at most 145.
pub record Unvoided (inputs : List Input) : Type 0 where
  -- the seconds from the first with speed above 10 on, and what came before them
  pub counted : List Second
  pub waiting : List Input
  pub split : inputs ≡ map a_second counted ++ waiting
  pub first : FirstAbove counted
  pub waits : AllWait waiting
  pub clean : AllClean counted
  pub most : length counted ≤ 145

-- The ending rule holds at none of the seconds before the newest.
abbrev pub NotYetIn : Vehicle → Mode → List Second → Type 0
NotYetIn v mode [] = Unit {0}
NotYetIn v mode (s ∷ l) = (ending_of v mode (s ∷ l) ≡ NotYet) × NotYetIn v mode l

-- The same in numbers: at none of them is t = 90, and at none do 25 ≤ t, passing ≥ 15 and a speed that held come together.
abbrev pub NotEndedIn : Vehicle → Mode → List Second → Type 0
NotEndedIn v mode [] = Unit {0}
NotEndedIn v mode (s ∷ l) =
    (length (s ∷ l) ≡ 90 → ⊥) ×
    (25 ≤ length (s ∷ l) → 15 ≤ passing_in v mode (s ∷ l) → SpeedHeld (speeds_of (s ∷ l)) → ⊥) ×
    NotEndedIn v mode l

-- A pass (t, passing, failing, invalid) told by the entry e after the log.
pub record Earned (v : Vehicle) (e : Entry) (log : List Entry) (t passing failing invalid : ℕ) : Type 0 where
  -- the last t inputs are seconds, measured in one attempt in which t grew by one from 0
  pub last : Second
  pub before : List Second
  pub is_second : e.input ≡ a_second last
  pub is_measured : e.did ≡ did.Measured t
  pub number : t ≡ length (last ∷ before)
  pub measured : Measures before log
  -- nothing voids the attempt from its beginning on
  pub unvoided : Unvoided (e.input ∷ attempt_in log)
  -- 25 ≤ t ≤ 90
  pub least : 25 ≤ t
  pub most : t ≤ 90
  -- none diluted or over range; never three out in a row nor six in all
  pub clean : AllClean (last ∷ before)
  pub rows : longest_out v (mode_in log) (last ∷ before) < 3
  pub few : out_all v (mode_in log) (last ∷ before) < 6
  -- the ending rule holds at the last and at none before
  pub rule : ending_of v (mode_in log) (last ∷ before) ≡ Passes
  pub not_before : NotYetIn v (mode_in log) before
  -- the rule in numbers: t = 90, or 25 ≤ t and the speed of each of seconds 1 to 10 at most 8 below second 1's; at none before
  pub ending : (t ≡ 90) ⊎ ((25 ≤ t) × SpeedHeld (speeds_of (last ∷ before)))
  pub not_ended : NotEndedIn v (mode_in log) before
  -- passing and failing are the valid windows counted from the seconds' own units
  pub passes : passing ≡ passing_in v (mode_in log) (last ∷ before)
  pub fails : failing ≡ failing_in v (mode_in log) (last ∷ before)
  -- invalid is the windows that are not valid, counted so too
  pub invalids : invalid ≡ invalid_in v (mode_in log) (last ∷ before)
  pub enough : 15 ≤ passing

-- Wherever the newest entry tells a pass, it is earned.
abbrev pub PassClaim : Vehicle → List Entry → Type 0
PassClaim v [] = Unit {0}
PassClaim v (e ∷ log) =
    (t passing failing invalid : ℕ) →
    e.next ≡ Ends (record { word = Pass; t = t; passing = passing; failing = failing; invalid = invalid }) →
    Earned v e log t passing failing invalid
