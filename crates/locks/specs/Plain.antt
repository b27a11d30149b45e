-- When each of the eight locks stands, in plain propositions over the accepted events, newest first, the start's clock (now), V and U.
use Rattle.std.specs.Prelude.{ℕ, zero, suc, ◌+◌, ◌≤◌, ◌<◌, true, ◌≡◌, List, [], ◌∷◌, ◌++◌, ◌⊎◌}
use Rattle.coast_down.specs.declared.SpeedRange.{SpeedRange}
use Rattle.coast_down.specs.declared.SpeedRange.TheVariants.{Faster, Slower}
use Rattle.coast_down.specs.declared.Run.{Run}
use Rattle.coast_down.specs.Passing.{run_passed}
use Rattle.prepare.specs.declared.ZeroCheck.{ZeroCheck}
use Rattle.prepare.specs.Claims.{Stands}
use Rattle.locks.specs.declared.Calibration.TheVariants.{Passed}
use Rattle.locks.specs.declared.Try.TheVariants.{Good, Wrong}
use Rattle.locks.specs.declared.Event.TheVariants.{Calibration, Try, CoastDown, Prepare}
use Rattle.locks.specs.declared.Kind.{Kind}
use Rattle.locks.specs.declared.Kind.TheVariants as kind
use Rattle.locks.specs.Events.{kind_of, clock_of}
use Rattle.locks.specs.Accepted.{Accepted}
use Rattle.locks.specs.Locks.{verdicts_in}

-- An accepted event of this kind.
abbrev pub IsKind : Kind → Accepted → Type 0
IsKind kind a = kind_of a.event ≡ kind

-- A power-on or a clock setting.
abbrev pub Voids : Accepted → Type 0
Voids a = IsKind kind.PowerOn a ⊎ IsKind kind.ClockSetting a

-- None of these is so.
abbrev pub NoneIs : (Accepted → Type 0) → List Accepted → Type 0
NoneIs P [] = Unit {0}
NoneIs P (a ∷ l) = (P a → ⊥) × NoneIs P l

-- One of these is so (P), and none after it is such (Q).
pub record Has (P Q : Accepted → Type 0) (l : List Accepted) : Type 0 where
  pub after : List Accepted
  pub event : Accepted
  pub before : List Accepted
  pub split : l ≡ after ++ event ∷ before
  pub is : P event
  pub none_after : NoneIs Q after

-- 1: no warm-up since the newest power-on or clock setting.
abbrev pub NotWarm : List Accepted → Type 0
NotWarm l = Has (IsKind kind.WarmUp) Voids l → ⊥

-- A warm-up or a second.
abbrev pub Active : Accepted → Type 0
Active a = IsKind kind.WarmUp a ⊎ IsKind kind.Second a

-- One more than 1,800 s before now.
abbrev pub ActiveBefore : ℕ → Accepted → Type 0
ActiveBefore now a = Active a × (clock_of a.event + 1800 < now)

-- 2: there is a newest warm-up or second, and now is more than 1,800 above its clock.
abbrev pub Inactive : ℕ → List Accepted → Type 0
Inactive now l = Has (ActiveBefore now) Active l

-- A passed calibration, now at most V after it.
pub record PassedWithin (validity now : ℕ) (a : Accepted) : Type 0 where
  pub clock : ℕ
  pub passed : a.event ≡ Calibration clock Passed
  pub valid : now ≤ clock + validity

-- A calibration, or what voids one.
abbrev pub CalibratesOrVoids : Accepted → Type 0
CalibratesOrVoids a = IsKind kind.Calibration a ⊎ Voids a

-- A coast-down run of these speeds.
pub record RunOf (speeds : SpeedRange) (a : Accepted) : Type 0 where
  pub clock : ℕ
  pub run : Run
  pub ran : a.event ≡ CoastDown clock run
  pub same : run.speeds ≡ speeds

-- One that passed.
pub record PassedRun (speeds : SpeedRange) (a : Accepted) : Type 0 where
  pub of : RunOf speeds a
  pub passed : run_passed of.run ≡ true

-- A run of these speeds, or what voids one.
abbrev pub RunsOrVoids : SpeedRange → Accepted → Type 0
RunsOrVoids speeds a = RunOf speeds a ⊎ Voids a

-- No passed run of these speeds with no run of the same speeds, power-on or clock setting after it.
abbrev pub NotCoasted : SpeedRange → List Accepted → Type 0
NotCoasted speeds l = Has (PassedRun speeds) (RunsOrVoids speeds) l → ⊥

-- No passed calibration with no calibration, power-on or clock setting after it and now ≤ its clock + V.
abbrev pub NoneCalibrated : ℕ → ℕ → List Accepted → Type 0
NoneCalibrated validity now l = Has (PassedWithin validity now) CalibratesOrVoids l → ⊥

-- 3: no such calibration, no such faster run, or no such slower run.
abbrev pub NotCalibrated : ℕ → ℕ → List Accepted → Type 0
NotCalibrated validity now l = NoneCalibrated validity now l ⊎ (NotCoasted Faster l ⊎ NotCoasted Slower l)

-- A good try, now at most its expiry.
pub record GoodWithin (now : ℕ) (a : Accepted) : Type 0 where
  pub clock : ℕ
  pub expiry : ℕ
  pub good : a.event ≡ Try clock (Good expiry)
  pub valid : now ≤ expiry

-- A try, or what voids one.
abbrev pub TriesOrVoids : Accepted → Type 0
TriesOrVoids a = IsKind kind.Try a ⊎ Voids a

-- 4: no good try with no try, power-on or clock setting after it and now ≤ its expiry.
abbrev pub NotSignedIn : ℕ → List Accepted → Type 0
NotSignedIn now l = Has (GoodWithin now) TriesOrVoids l → ⊥

-- A wrong try.
pub record WrongTry (a : Accepted) : Type 0 where
  pub clock : ℕ
  pub wrong : a.event ≡ Try clock Wrong

-- A good try, of any expiry.
pub record GoodTry (a : Accepted) : Type 0 where
  pub clock : ℕ
  pub expiry : ℕ
  pub good : a.event ≡ Try clock (Good expiry)

-- An authority unlock.
abbrev pub Unlocks : Accepted → Type 0
Unlocks a = IsKind kind.AuthorityUnlock a

-- What ends a row of wrong tries.
abbrev pub EndsRow : Accepted → Type 0
EndsRow a = Unlocks a ⊎ GoodTry a

-- So many wrong tries, with no good try and no unlock between them or after them.
abbrev pub WrongInRow : ℕ → List Accepted → Type 0
WrongInRow zero l = Unit {0}
WrongInRow (suc n) l = (x : Has WrongTry EndsRow l) × WrongInRow n x.before

-- 5: four wrong tries with no good try and no unlock between them, and no unlock after them.
pub record PasswordLocked (l : List Accepted) : Type 0 where
  pub newest : Has WrongTry Unlocks l
  pub others : WrongInRow 3 newest.before

-- 6: an authority lock with no unlock after it.
abbrev pub AuthorityLocked : List Accepted → Type 0
AuthorityLocked l = Has (IsKind kind.AuthorityLock) Unlocks l

-- An upload.
abbrev pub Uploads : Accepted → Type 0
Uploads a = IsKind kind.Upload a

-- So many verdicts since the newest upload, or in all where there is none.
abbrev pub Unsent : ℕ → List Accepted → Type 0
Unsent n l = ((x : Has Uploads Uploads l) × (verdicts_in x.after ≡ n)) ⊎ (NoneIs Uploads l × (verdicts_in l ≡ n))

-- A prepare that stands, now at most 120 s after it.
pub record StandsWithin (now : ℕ) (a : Accepted) : Type 0 where
  pub clock : ℕ
  pub check : ZeroCheck
  pub prepared : a.event ≡ Prepare clock check
  pub stands : Stands check
  pub valid : now ≤ clock + 120

-- A power-on, a clock setting or an admitted start.
abbrev pub EndsPrepare : Accepted → Type 0
EndsPrepare a = Voids a ⊎ IsKind kind.Start a

-- A prepare, or what ends one.
abbrev pub PreparesOrEnds : Accepted → Type 0
PreparesOrEnds a = IsKind kind.Prepare a ⊎ EndsPrepare a

-- 8: no standing prepare with no prepare, power-on, clock setting or admitted start after it and now ≤ its clock + 120.
abbrev pub NotPrepared : ℕ → List Accepted → Type 0
NotPrepared now l = Has (StandsWithin now) PreparesOrEnds l → ⊥
