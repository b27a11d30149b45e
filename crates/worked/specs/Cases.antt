-- Document 01, "Worked by hand": the starred cases as one table. Each row sets what the definitions give against what document 01 writes.
-- DCF's are in the units of document 02, A.9. At its end stand figures for document 02: A.1, the engine speed on the sheet, A.2, coast-down
-- runs, A.3, the numbers of a rounding, A.5, prepares, and A.9, carbon dioxide in hundredths.
use Rattle.refusal.specs.declared.Refusal.TheVariants.{ReadingUnfit}
use Rattle.refusal.specs.declared.Refusal.{Refusal}
use Rattle.std.specs.Prelude.{◌≡◌, Bool, true, false, List, [], ◌∷◌, ℕ, zero, suc, ◌<◌, ℤ, pos, negsuc, Some, None, Option, Ok, Err, Result}
use Rattle.reading.specs.Width.{scaled, greatest_product}
use Rattle.reading.specs.declared.Channel.{Channel}
use Rattle.reading.specs.declared.Channel.TheVariants.{Hc, Co, No}
use Rattle.reading.specs.Kind.{reading_of}
use Rattle.reading.specs.Units.{second_of}
use Rattle.reading.specs.declared.Second.{Second}
use Rattle.reading.specs.declared.Level.TheVariants.{Count, Missing}
use Rattle.correction.specs.Dilution.{dcf_of}
use Rattle.correction.specs.Humidity.{k_h}
use Rattle.vehicle.specs.Driving.{in_tolerance}
use Rattle.vehicle.specs.Checked.{vehicle_of}
use Rattle.vehicle.specs.declared.Mode.TheVariants.{One}
use Rattle.window.specs.declared.Measured.{Measured}
use Rattle.window.specs.Measuring.{measured_of}
use Rattle.window.specs.Engine.{engine_speed_of}
use Rattle.coast_down.specs.declared.SpeedRange.{SpeedRange}
use Rattle.coast_down.specs.declared.SpeedRange.TheVariants.{Faster, Slower}
use Rattle.coast_down.specs.Passing.{run_passed}
use Rattle.prepare.specs.Standing.{signed_of, prepare_stands, above_greatest}
use Rattle.locks.specs.Accepted.{Accepted, accepted}
use Rattle.locks.specs.Locks.{password_lock, lock_of}
use Rattle.locks.specs.declared.Lock.{Lock}
use Rattle.locks.specs.declared.Lock.TheVariants.{NotSignedIn, Password}
use Rattle.locks.specs.declared.Calibration.TheVariants.{Passed}
use Rattle.locks.specs.declared.Try.TheVariants.{Good, Wrong}
use Rattle.locks.specs.declared.Event.TheVariants.{WarmUp, Calibration, Try}
use Rattle.worked.specs.Events.{times, motorcycle, run_with, faster, slower, check_with, prepared}

-- The units of a second whose HC, CO and CO2 have these bits and whose other readings are 0, with a manual gearbox.
unfoldable pub gases : ℕ → ℕ → ℕ → Result Second Refusal
gases hc co co2 =
    second_of
    (record {
      speed = reading_of 0;
      load = reading_of 0;
      engine = reading_of 0;
      hc = reading_of hc;
      co = reading_of co;
      no = reading_of 0;
      co2 = reading_of co2;
      o2 = reading_of 0;
    })
    false

-- The units of such a second: these counts of HC, CO and CO2, and 0 for the other codes.
abbrev pub counts : ℕ → ℕ → ℕ → Second
counts hc co co2 = record {
  speed = 0;
  load = 0;
  engine = Some 0;
  hc = hc;
  co = record { 0 = co };
  no = 0;
  co2 = record { 0 = co2 };
  over = false;
  oxygen = Count (record { 0 = 0 });
}

-- DCF of a CO2 and a CO in units.
abbrev pub dcf_at : ℕ → ℕ → ℕ
dcf_at a b = dcf_of (record { 0 = a }) (record { 0 = b })

-- A bench warmed up, calibrated, coasted down and prepared, then n wrong tries, newest first; V a day and U 10, and a start at clock 100.
unfoldable pub wrong_tries : ℕ → List Accepted
wrong_tries zero =
    accepted (prepared 20) None
    ∷ accepted (slower 20) None
    ∷ accepted (faster 20) None
    ∷ accepted (Calibration 20 Passed) None
    ∷ accepted (WarmUp 10) None
    ∷ []
wrong_tries (suc n) = accepted (Try 30 Wrong) None ∷ wrong_tries n

-- A good try, with expiry 1000.
abbrev pub good_try : Accepted
good_try = accepted (Try 40 (Good 1000)) None

-- The first standing lock for a start at clock 100.
abbrev pub lock_at100 : List Accepted → Option Lock
lock_at100 l = lock_of 86400 10 100 l

-- What is kept of a second in mode 1 with this engine speed, if there is one: 125 ml, automatic gearbox, at target and load.
abbrev pub engine_kept : Option ℕ → Measured
engine_kept engine =
    measured_of (vehicle_of (motorcycle 125 2) 2339) One
    (record {
      speed = 250;
      load = 85;
      engine = engine;
      hc = 100;
      co = record { 0 = 100 };
      no = 200;
      co2 = record { 0 = 1200 };
      over = false;
      oxygen = Missing;
    })

-- Such a second with this engine speed.
abbrev pub turning : ℕ → Measured
turning engine = engine_kept (Some engine)

-- Such a second with none.
abbrev pub engineless : Measured
engineless = engine_kept None

-- Whether a run of these speeds and milliseconds passes, at this inertia and power.
abbrev pub coasts : ℕ → ℕ → SpeedRange → ℕ → Bool
coasts inertia power speeds milliseconds = run_passed (run_with inertia power speeds milliseconds)

-- Whether a prepare of this background and residue stands.
abbrev pub stands : ℕ → ℕ → ℕ → ℕ → Bool
stands hc co nitric residue = prepare_stands (check_with hc co nitric residue)

-- The signed number of these 16 bits.
abbrev pub signed_bits : ℕ → ℤ
signed_bits bits = signed_of (record { 0 = bits })

-- The channel that refuses a prepare of this background, if one does.
abbrev pub above_at : ℕ → ℕ → ℕ → Option Channel
above_at hc co nitric = above_greatest (check_with hc co nitric 0)

-- The starred cases of "Worked by hand", one field a case; then the figures for document 02's A.1, A.2, A.3, A.5 and A.9.
pub record Worked : Type 0 where
  -- CO bits 0x3F80A3D7: 100
  pub co_bits : gases 0 0x3F80A3D7 0 ≡ Ok (counts 0 100 0)
  -- CO −0.01 (bits 0xBC23D70A): refused 8, at code 5
  pub co_negative : gases 0 0xBC23D70A 0 ≡ Err (ReadingUnfit 5)
  -- HC 9999.5 (bits 0x461C3E00): refused 8, at code 4
  pub hc_above : gases 0x461C3E00 0 0 ≡ Err (ReadingUnfit 4)
  -- HC 9999.4 (bits 0x461C3D9A): 9999
  pub hc_greatest : gases 0x461C3D9A 0 0 ≡ Ok (counts 9999 0 0)
  -- DCF: a 1200, b 100: 1,205,807; a 0, b 600: 3,000,000; a 1530, b 0: 1,001,831; a 1540, b 0: 1,000,000
  pub dcf_usual : dcf_at 1200 100 ≡ 1205807
  pub dcf_most : dcf_at 0 600 ≡ 3000000
  pub dcf_above : dcf_at 1530 0 ≡ 1001831
  pub dcf_least : dcf_at 1540 0 ≡ 1000000
  -- k: r 0: 739,449 (whatever p, and whatever B above 0); r 50, p 2339, B 1013: 897,914
  pub k_dry : (b p : ℕ) → 0 < b → k_h 0 b p ≡ 739449
  pub k_moist : k_h 50 1013 2339 ≡ 897914
  -- P 225: load 229 in, 230 out
  pub load_in : in_tolerance 229 225 ≡ true
  pub load_out : in_tolerance 230 225 ≡ false
  -- Third wrong try: no lock 5
  pub third_try : password_lock (wrong_tries 3) ≡ false
  pub third_then_good : lock_at100 (good_try ∷ wrong_tries 3) ≡ None
  -- fourth: lock 5 stands, behind lock 4 until a good try
  pub fourth_try : password_lock (wrong_tries 4) ≡ true
  pub fourth_behind : lock_at100 (wrong_tries 4) ≡ Some NotSignedIn
  pub fourth_then_good : lock_at100 (good_try ∷ wrong_tries 4) ≡ Some Password
  -- Document 02, A.1, "their mean, rounded half up": five 3999 and five 4000 (3999.5): 4000; nine 3999 and one 4004 (3999.5): 4000;
  -- nine 3999 and one 4003 (3999.4): 3999; ten of 0: 0
  pub engine_half : engine_speed_of (times 5 (turning 3999) (times 5 (turning 4000) [])) ≡ Some 4000
  pub engine_half_by_one : engine_speed_of (times 9 (turning 3999) (turning 4004 ∷ [])) ≡ Some 4000
  pub engine_less : engine_speed_of (times 9 (turning 3999) (turning 4003 ∷ [])) ≡ Some 3999
  pub engine_zero : engine_speed_of (times 10 (turning 0) []) ≡ Some 0
  -- Document 02, A.1, "With any of the ten missing the field is "-"": nine 4000 and one missing
  pub engine_one_missing : engine_speed_of (times 4 (turning 4000) (engineless ∷ times 5 (turning 4000) [])) ≡ None
  -- Document 02, A.2, "For w 1200 and q 100 the first run passes from 5512 to 6340 ms"
  pub faster_short : coasts 1200 100 Faster 5511 ≡ false
  pub faster_least : coasts 1200 100 Faster 5512 ≡ true
  pub faster_most : coasts 1200 100 Faster 6340 ≡ true
  pub faster_long : coasts 1200 100 Faster 6341 ≡ false
  -- Document 02, A.2, "ends included": w 1134 and q 50 meet 93 and 107 percent exactly
  pub exact_short : coasts 1134 50 Faster 10415 ≡ false
  pub exact_least : coasts 1134 50 Faster 10416 ≡ true
  pub exact_most : coasts 1134 50 Faster 11984 ≡ true
  pub exact_long : coasts 1134 50 Faster 11985 ≡ false
  -- Document 02, A.2, the slower run for w 1200 and q 100
  pub slower_short : coasts 1200 100 Slower 3444 ≡ false
  pub slower_least : coasts 1200 100 Slower 3445 ≡ true
  pub slower_most : coasts 1200 100 Slower 3962 ≡ true
  pub slower_long : coasts 1200 100 Slower 3963 ≡ false
  -- Document 02, A.3, "A 24-bit significand times 100 is at most 1,677,721,500": it is met where all 24 digits are 1, as in CO
  -- 1.9999999 (bits 0x3FFFFFFF), whose unit count is 200
  pub greatest_met : scaled 0x3FFFFFFF 100 ≡ greatest_product
  pub co_all_digits : gases 0 0x3FFFFFFF 0 ≡ Ok (counts 0 200 0)
  -- Document 02, A.5, "HC < 15, CO < 2, NO < 25 and the residue is 0 to 7": each end from both sides; −1 is 65535, −32,768 is 32768
  pub stands_least : stands 0 0 0 0 ≡ true
  pub stands_most : stands 14 1 24 7 ≡ true
  pub hc_too_much : stands 15 1 24 7 ≡ false
  pub co_too_much : stands 14 2 24 7 ≡ false
  pub no_too_much : stands 14 1 25 7 ≡ false
  pub residue_too_much : stands 14 1 24 8 ≡ false
  pub residue_below : stands 14 1 24 65535 ≡ false
  pub residue_negative : stands 14 1 24 32768 ≡ false
  pub minus_one : signed_bits 65535 ≡ negsuc 0
  pub least_signed : signed_bits 32768 ≡ negsuc 32767
  pub greatest_signed : signed_bits 32767 ≡ pos 32767
  -- Document 02, A.5, "above its channel's greatest, place the lowest such code": HC 9999, CO 2000, NO 5000
  pub none_above : above_at 9999 2000 5000 ≡ None
  pub no_above : above_at 9999 2000 5001 ≡ Some No
  pub co_above : above_at 9999 2001 5001 ≡ Some Co
  pub hc_greater : above_at 10000 2001 5001 ≡ Some Hc
  -- Document 02, A.9, "Code 7 gets scale 100 and greatest value 1800": 18.004999 (bits 0x41900A3D): 1800; 18.005001 (bits 0x41900A3E) and
  -- 18.049999 (bits 0x41906666), which tenths took as 18.0: refused 8, at code 7
  pub co2_greatest : gases 0 0 0x41900A3D ≡ Ok (counts 0 0 1800)
  pub co2_above : gases 0 0 0x41900A3E ≡ Err (ReadingUnfit 7)
  pub co2_near_tenth : gases 0 0 0x41906666 ≡ Err (ReadingUnfit 7)
