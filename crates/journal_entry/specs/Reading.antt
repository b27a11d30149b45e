-- Reading an entry from the left: "each byte is judged in turn".
use Rattle.std.specs.Prelude.{ℕ, zero, suc, ◌-◌, Bool, true, false, List, [], ◌∷◌, length, take, drop, ltb, ◌≡◌, Some, None, Option, Ok, Err, Result, if◌then◌else◌}
use Rattle.std.specs.Int.{Width, w16, w32, byte_len, from_le_bytes}
use Rattle.refusal.specs.declared.Refusal.{Refusal}
use Rattle.refusal.specs.declared.Refusal.TheVariants.{EndsEarly, CountNotAllowed, CauseUnfit, EventUnfit, BytesLeft}
use Rattle.reading.specs.declared.ByChannel.{ByChannel}
use Rattle.vehicle.specs.declared.Settings.{Settings}
use Rattle.coast_down.specs.declared.SpeedRange.{SpeedRange}
use Rattle.coast_down.specs.declared.SpeedRange.TheVariants.{Faster, Slower}
use Rattle.locks.specs.declared.Calibration.TheVariants.{Passed, Failed}
use Rattle.locks.specs.declared.Try.TheVariants.{Good, Wrong}
use Rattle.locks.specs.declared.Kind.{Kind}
use Rattle.locks.specs.declared.Kind.TheVariants as kind
use Rattle.journal_entry.specs.declared.Entry.{Entry}
use Rattle.journal_entry.specs.declared.Fault.{Fault}
use Rattle.journal_entry.specs.declared.Fault.TheVariants.{Short, Count, Parameters, Left}
use Rattle.journal_entry.specs.declared.Fault.TheVariants as fault
use Rattle.journal_entry.specs.declared.Fields.{Fields}
use Rattle.journal_entry.specs.declared.Fields.TheVariants.{PowerOn, ClockSetting, WarmUp, Calibration, Try, AuthorityLock, AuthorityUnlock, Upload, Start, Second, Stop, CoastDown, Prepare}
use Rattle.journal_entry.specs.Kinds.{kind_of}

-- What a journal of so many bytes is refused by: 1, its length; the others at the offset of the first of the bytes that were left there.
abbrev pub placed : ℕ → Fault → Refusal
placed size Short = EndsEarly size
placed size (Count left) = CountNotAllowed (size - left)
placed size Parameters = CauseUnfit
placed size (fault.Event left) = EventUnfit (size - left)
placed size (Left left) = BytesLeft (size - left)

-- An answer whose fault is told as what a journal of so many bytes is refused by.
abbrev pub told : {A : Type 0} → ℕ → Result A Fault → Result A Refusal
told size (Ok x) = Ok x
told size (Err d) = Err (placed size d)

infixl 10 ◌>>=◌
-- What was read goes on to what follows it; the first fault is the answer.
abbrev pub ◌>>=◌ : {A B : Type 0} → Result A Fault → (A → Result B Fault) → Result B Fault
(Ok x) >>= f = f x
(Err e) >>= f = Err e

-- What a function answered, seen by view, is what reading gives.
abbrev pub Gives : {X Y : Type 0} → (X → Y) → Result X Fault → Result Y Fault → Type 0
Gives view (Ok x) read = read ≡ Ok (view x)
Gives view (Err e) read = read ≡ Err e

-- The first byte, and the bytes behind it.
unfoldable pub byte_at : List ℕ → Result (ℕ × List ℕ) Fault
byte_at [] = Err Short
byte_at (b ∷ rest) = Ok (b, rest)

-- A number of two or four bytes, the lowest byte first, and the bytes behind it.
abbrev pub number_at : Width → List ℕ → Result (ℕ × List ℕ) Fault
number_at w bytes =
    if ltb (length bytes) (byte_len w)
    then Err Short
    else Ok (from_le_bytes w (take (byte_len w) bytes), drop (byte_len w) bytes)

-- "a yes-or-no 1 byte, 1 for yes or good"; "a yes-or-no byte above 1" is refused 20 "before what follows it".
unfoldable pub yes_no_at : List ℕ → Result (Bool × List ℕ) Fault
yes_no_at [] = Err Short
yes_no_at (zero ∷ rest) = Ok (false, rest)
yes_no_at (suc zero ∷ rest) = Ok (true, rest)
yes_no_at (suc (suc b) ∷ rest) = Err (fault.Event (length (suc (suc b) ∷ rest)))

-- 20 where the number has no kind, at a byte from which on so many are left.
abbrev pub known : Option Kind → ℕ → Result Kind Fault
known (Some kind) left = Ok kind
known None left = Err (fault.Event left)

-- "a kind byte"
unfoldable pub kind_at : List ℕ → Result (Kind × List ℕ) Fault
kind_at bytes = do
  number ← byte_at bytes
  kind ← known (kind_of number.0) (length bytes)
  Ok (kind, number.1)

-- "2 clock setting (new clock)"
unfoldable pub clock_setting_at : List ℕ → Result (Fields × List ℕ) Fault
clock_setting_at bytes = do
  new ← number_at w32 bytes
  Ok (ClockSetting new.0, new.1)

-- "4 calibration (passed or not)"
abbrev pub calibration_of : Bool → Fields
calibration_of true = Calibration Passed
calibration_of false = Calibration Failed

unfoldable pub calibration_at : List ℕ → Result (Fields × List ℕ) Fault
calibration_at bytes = do
  passed ← yes_no_at bytes
  Ok (calibration_of passed.0, passed.1)

-- "5 try (good with its expiry, or wrong)"; "a wrong try has no expiry".
abbrev pub outcome_at : Bool → List ℕ → Result (Fields × List ℕ) Fault
outcome_at false bytes = Ok (Try Wrong, bytes)
outcome_at true bytes = do
  expiry ← number_at w32 bytes
  Ok (Try (Good expiry.0), expiry.1)

unfoldable pub try_at : List ℕ → Result (Fields × List ℕ) Fault
try_at bytes = do
  good ← yes_no_at bytes
  outcome_at good.0 good.1

-- "the seven settings"
unfoldable pub settings_at : List ℕ → Result (Settings × List ℕ) Fault
settings_at bytes = do
  kind ← number_at w16 bytes
  year ← number_at w16 kind.1
  displacement ← number_at w16 year.1
  gearbox ← number_at w16 displacement.1
  humidity ← number_at w16 gearbox.1
  temperature ← number_at w16 humidity.1
  pressure ← number_at w16 temperature.1
  Ok (
    record {
      kind = kind.0;
      year = year.0;
      displacement = displacement.0;
      gearbox = gearbox.0;
      humidity = humidity.0;
      temperature = temperature.0;
      pressure = pressure.0;
    },
    pressure.1,
  )

-- "9 start (the seven settings, then p ..)"
unfoldable pub start_at : List ℕ → Result (Fields × List ℕ) Fault
start_at bytes = do
  settings ← settings_at bytes
  p ← number_at w16 settings.1
  Ok (Start settings.0 p.0, p.1)

-- "codes 1 to 8", the bits of each.
unfoldable pub bits_at : List ℕ → Result (ByChannel ℕ × List ℕ) Fault
bits_at bytes = do
  speed ← number_at w32 bytes
  load ← number_at w32 speed.1
  engine ← number_at w32 load.1
  hc ← number_at w32 engine.1
  co ← number_at w32 hc.1
  nitric ← number_at w32 co.1
  co2 ← number_at w32 nitric.1
  o2 ← number_at w32 co2.1
  Ok (
    record {
      speed = speed.0;
      load = load.0;
      engine = engine.0;
      hc = hc.0;
      co = co.0;
      no = nitric.0;
      co2 = co2.0;
      o2 = o2.0;
    },
    o2.1,
  )

-- "10 second (codes 1 to 8)"
unfoldable pub second_at : List ℕ → Result (Fields × List ℕ) Fault
second_at bytes = do
  bits ← bits_at bytes
  Ok (Second bits.0, bits.1)

-- "11 stop (cause)"
unfoldable pub stop_at : List ℕ → Result (Fields × List ℕ) Fault
stop_at bytes = do
  cause ← byte_at bytes
  Ok (Stop cause.0, cause.1)

-- "which run (yes for the faster)"
abbrev pub speeds_of : Bool → SpeedRange
speeds_of true = Faster
speeds_of false = Slower

-- "inertia, power (2 bytes each), which run (yes for the faster), milliseconds (4 bytes)"
unfoldable pub coast_down_at : List ℕ → Result (Fields × List ℕ) Fault
coast_down_at bytes = do
  inertia ← number_at w16 bytes
  power ← number_at w16 inertia.1
  faster ← yes_no_at power.1
  milliseconds ← number_at w32 faster.1
  Ok (
    CoastDown (record {
      inertia = inertia.0;
      power = power.0;
      speeds = speeds_of faster.0;
      milliseconds = milliseconds.0;
    }),
    milliseconds.1,
  )

-- "background HC, CO, NO in units and the HC residue, a signed number (2 bytes each)"
unfoldable pub prepare_at : List ℕ → Result (Fields × List ℕ) Fault
prepare_at bytes = do
  hc ← number_at w16 bytes
  co ← number_at w16 hc.1
  nitric ← number_at w16 co.1
  residue ← number_at w16 nitric.1
  Ok (Prepare (record { hc = hc.0; co = co.0; no = nitric.0; residue = record { 0 = residue.0 } }), residue.1)

-- "that kind's fields": of the kinds that are not named none.
unfoldable pub fields_at : Kind → List ℕ → Result (Fields × List ℕ) Fault
fields_at kind.PowerOn bytes = Ok (PowerOn, bytes)
fields_at kind.ClockSetting bytes = clock_setting_at bytes
fields_at kind.WarmUp bytes = Ok (WarmUp, bytes)
fields_at kind.Calibration bytes = calibration_at bytes
fields_at kind.Try bytes = try_at bytes
fields_at kind.AuthorityLock bytes = Ok (AuthorityLock, bytes)
fields_at kind.AuthorityUnlock bytes = Ok (AuthorityUnlock, bytes)
fields_at kind.Upload bytes = Ok (Upload, bytes)
fields_at kind.Start bytes = start_at bytes
fields_at kind.Second bytes = second_at bytes
fields_at kind.Stop bytes = stop_at bytes
fields_at kind.CoastDown bytes = coast_down_at bytes
fields_at kind.Prepare bytes = prepare_at bytes

-- "each a kind byte, the clock, and that kind's fields": the entry that bytes begin with, and the bytes behind it.
unfoldable pub entry_of : List ℕ → Result (Entry × List ℕ) Fault
entry_of bytes = do
  kind ← kind_at bytes
  clock ← number_at w32 kind.1
  fields ← fields_at kind.0 clock.1
  Ok (record { clock = clock.0; fields = fields.0 }, fields.1)
