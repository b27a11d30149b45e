-- An entry's bytes: "each a kind byte, the clock, and that kind's fields in the order document 01, A.2 and A.5 name them". "V, clocks,
-- expiries and readings take 4 bytes, settings, p and U 2, a cause 1, and a yes-or-no 1 byte, 1 for yes or good; a wrong try has no expiry."
use Rattle.std.specs.Prelude.{ℕ, ◌<◌, ◌^◌, Bool, true, false, List, [], ◌∷◌, ◌++◌}
use Rattle.std.specs.Int.{w16, w32, to_le_bytes}
use Rattle.reading.specs.declared.ByChannel.{ByChannel}
use Rattle.vehicle.specs.declared.Settings.{Settings}
use Rattle.coast_down.specs.declared.SpeedRange.{SpeedRange}
use Rattle.coast_down.specs.declared.SpeedRange.TheVariants.{Faster, Slower}
use Rattle.coast_down.specs.declared.Run.{Run}
use Rattle.prepare.specs.declared.ZeroCheck.{ZeroCheck}
use Rattle.locks.specs.declared.Calibration.TheVariants.{Passed, Failed}
use Rattle.locks.specs.declared.Try.TheVariants.{Good, Wrong}
use Rattle.locks.specs.declared.Kind.{Kind}
use Rattle.locks.specs.declared.Kind.TheVariants as kind
use Rattle.locks.specs.Events.{kind_number}
use Rattle.journal_entry.specs.declared.Entry.{Entry}
use Rattle.journal_entry.specs.declared.Fields.{Fields}
use Rattle.journal_entry.specs.declared.Fields.TheVariants.{PowerOn, ClockSetting, WarmUp, Calibration, Try, AuthorityLock, AuthorityUnlock, Upload, Start, Second, Stop, CoastDown, Prepare}

-- A number of two bytes, of four bytes: "little-endian".
abbrev pub short : ℕ → List ℕ
short n = to_le_bytes w16 n

abbrev pub long : ℕ → List ℕ
long n = to_le_bytes w32 n

-- "a yes-or-no 1 byte, 1 for yes or good"
abbrev pub yes_no_bytes : Bool → List ℕ
yes_no_bytes true = 1 ∷ []
yes_no_bytes false = 0 ∷ []

-- "the seven settings"
abbrev pub settings_bytes : Settings → List ℕ
settings_bytes x =
    short x.kind
    ++ (short x.year
    ++ (short x.displacement
    ++ (short x.gearbox
    ++ (short x.humidity ++ (short x.temperature ++ short x.pressure)))))

-- "codes 1 to 8", the bits of each.
abbrev pub bits_bytes : ByChannel ℕ → List ℕ
bits_bytes x =
    long x.speed
    ++ (long x.load
    ++ (long x.engine
    ++ (long x.hc ++ (long x.co ++ (long x.no ++ (long x.co2 ++ long x.o2))))))

-- "yes for the faster"
abbrev pub is_faster : SpeedRange → Bool
is_faster Faster = true
is_faster Slower = false

-- "inertia, power (2 bytes each), which run .., milliseconds (4 bytes)"
abbrev pub run_bytes : Run → List ℕ
run_bytes x =
    short x.inertia ++ (short x.power ++ (yes_no_bytes (is_faster x.speeds) ++ long x.milliseconds))

-- "background HC, CO, NO in units and the HC residue, a signed number (2 bytes each)": "the residue in two's complement", which is its bits.
abbrev pub check_bytes : ZeroCheck → List ℕ
check_bytes x = short x.hc ++ (short x.co ++ (short x.no ++ short x.residue.0))

-- The kind of what an entry carries.
abbrev pub kind_in : Fields → Kind
kind_in PowerOn = kind.PowerOn
kind_in (ClockSetting new) = kind.ClockSetting
kind_in WarmUp = kind.WarmUp
kind_in (Calibration outcome) = kind.Calibration
kind_in (Try outcome) = kind.Try
kind_in AuthorityLock = kind.AuthorityLock
kind_in AuthorityUnlock = kind.AuthorityUnlock
kind_in Upload = kind.Upload
kind_in (Start settings p) = kind.Start
kind_in (Second bits) = kind.Second
kind_in (Stop cause) = kind.Stop
kind_in (CoastDown run) = kind.CoastDown
kind_in (Prepare check) = kind.Prepare

-- "that kind's fields": a clock setting's new clock, whether a calibration passed, whether a try was good and until when, settings and p of a
-- start, a second's readings, a stop's cause, a coast-down run, a prepare; nothing for the others.
abbrev pub fields_bytes : Fields → List ℕ
fields_bytes (ClockSetting new) = long new
fields_bytes (Calibration Passed) = yes_no_bytes true
fields_bytes (Calibration Failed) = yes_no_bytes false
fields_bytes (Try (Good expiry)) = yes_no_bytes true ++ long expiry
fields_bytes (Try Wrong) = yes_no_bytes false
fields_bytes (Start settings p) = settings_bytes settings ++ short p
fields_bytes (Second bits) = bits_bytes bits
fields_bytes (Stop cause) = cause ∷ []
fields_bytes (CoastDown run) = run_bytes run
fields_bytes (Prepare check) = check_bytes check
fields_bytes _ = []

-- "each a kind byte, the clock, and that kind's fields"
abbrev pub entry_bytes : Entry → List ℕ
entry_bytes e = kind_number (kind_in e.fields) ∷ (long e.clock ++ fields_bytes e.fields)

-- Numbers that the fields of an entry can hold.
pub record HeldSettings (x : Settings) : Type 0 where
  pub kind : x.kind < 2 ^ 16
  pub year : x.year < 2 ^ 16
  pub displacement : x.displacement < 2 ^ 16
  pub gearbox : x.gearbox < 2 ^ 16
  pub humidity : x.humidity < 2 ^ 16
  pub temperature : x.temperature < 2 ^ 16
  pub pressure : x.pressure < 2 ^ 16

pub record HeldBits (x : ByChannel ℕ) : Type 0 where
  pub speed : x.speed < 2 ^ 32
  pub load : x.load < 2 ^ 32
  pub engine : x.engine < 2 ^ 32
  pub hc : x.hc < 2 ^ 32
  pub co : x.co < 2 ^ 32
  pub no : x.no < 2 ^ 32
  pub co2 : x.co2 < 2 ^ 32
  pub o2 : x.o2 < 2 ^ 32

pub record HeldRun (x : Run) : Type 0 where
  pub inertia : x.inertia < 2 ^ 16
  pub power : x.power < 2 ^ 16
  pub milliseconds : x.milliseconds < 2 ^ 32

pub record HeldCheck (x : ZeroCheck) : Type 0 where
  pub hc : x.hc < 2 ^ 16
  pub co : x.co < 2 ^ 16
  pub no : x.no < 2 ^ 16
  pub residue : x.residue.0 < 2 ^ 16

abbrev pub HeldFields : Fields → Type 0
HeldFields (ClockSetting new) = new < 2 ^ 32
HeldFields (Try (Good expiry)) = expiry < 2 ^ 32
HeldFields (Start settings p) = HeldSettings settings × (p < 2 ^ 16)
HeldFields (Second bits) = HeldBits bits
HeldFields (Stop cause) = cause < 256
HeldFields (CoastDown run) = HeldRun run
HeldFields (Prepare check) = HeldCheck check
HeldFields _ = Unit {0}

-- An entry of numbers that its fields can hold: so every entry of a program.
pub record Held (e : Entry) : Type 0 where
  pub clock : e.clock < 2 ^ 32
  pub fields : HeldFields e.fields
