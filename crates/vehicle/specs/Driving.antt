-- What a checked vehicle asks of a second: limits, set load, target speed, load tolerance, good engine speed
-- (document 01, "Limits and loads").
use Rattle.std.specs.Prelude.{ℕ, ◌+◌, ◌-◌, ◌*◌, max, Bool, false, ◌&&◌, ◌||◌, leb, Option, Some, None}
use Rattle.reading.specs.declared.Second.{Second}
use Rattle.vehicle.specs.declared.Aim.{Aim}
use Rattle.vehicle.specs.declared.Conditions.{Conditions}
use Rattle.vehicle.specs.Limits.{Limits}
use Rattle.vehicle.specs.declared.Vehicle.{Vehicle}
use Rattle.vehicle.specs.declared.Mode.{Mode}
use Rattle.vehicle.specs.declared.Mode.TheVariants.{One, Two}

-- What k_H was worked out from: r, B and p.
abbrev pub conditions_of : Vehicle → Conditions
conditions_of v = record { humidity = v.humidity; pressure = v.pressure; saturation = v.saturation }

-- The vehicle's limits.
abbrev pub limits_of : Vehicle → Limits
limits_of v = v.limits

-- What a mode asks of the vehicle: set load and target speed.
unfoldable pub aim_of : Vehicle → Mode → Aim
aim_of v One = v.first
aim_of v Two = v.second

-- P of the mode.
abbrev pub set_load : Vehicle → Mode → ℕ
set_load v mode = (aim_of v mode).load

-- The target speed of the mode.
abbrev pub target_of : Vehicle → Mode → ℕ
target_of v mode = (aim_of v mode).speed

-- |a − b|
abbrev pub apart : ℕ → ℕ → ℕ
apart a b = (a - b) + (b - a)

-- "Load is in tolerance when 50·|load − P| ≤ the greater of 100 and P."
unfoldable pub in_tolerance : ℕ → ℕ → Bool
in_tolerance load set = leb (50 * apart load set) (max 100 set)

-- "from 3000 to 5000"
abbrev pub engine_within : Option ℕ → Bool
engine_within None = false
engine_within (Some n) = leb 3000 n && leb n 5000

-- "Engine speed is good from 3000 to 5000, or always with an automatic gearbox."
abbrev pub engine_good : Vehicle → Second → Bool
engine_good v s = v.automatic || engine_within s.engine

-- A vehicle of no settings, for a test that is not running.
abbrev pub blank_vehicle : Vehicle
blank_vehicle =
    record {
      automatic = false;
      limits = record { co = 0; hc = 0; no = 0 };
      first = record { speed = 0; load = 0 };
      second = record { speed = 0; load = 0 };
      k = 0;
      humidity = 0;
      pressure = 0;
      saturation = 0;
    }
