-- From settings to a checked vehicle, or the refusal (document 01, refusals 4 and 5 of a start).
use Rattle.refusal.specs.declared.Refusal.TheVariants.{SettingUnfit, SaturationUnfit}
use Rattle.refusal.specs.declared.Refusal.{Refusal}
use Rattle.std.specs.Prelude.{ℕ, eqb, Ok, Err, Result}
use Rattle.refusal.specs.Choice.{pick}
use Rattle.correction.specs.Humidity.{k_h, saturation_fit}
use Rattle.vehicle.specs.Settings.{automatic, unfit_place}
use Rattle.vehicle.specs.Limits.{limits_for}
use Rattle.vehicle.specs.Loads.{aim_for}
use Rattle.vehicle.specs.declared.Settings.{Settings}
use Rattle.vehicle.specs.declared.Vehicle.{Vehicle}
use Rattle.vehicle.specs.declared.Mode.TheVariants.{One, Two}

-- What the test needs of fit settings and of p: gearbox "2 automatic", limits, what each mode asks, and k_H with r, B and p.
unfoldable pub vehicle_of : Settings → ℕ → Vehicle
vehicle_of s p =
    record {
      automatic = automatic s;
      limits = limits_for s.kind s.year;
      first = aim_for s.kind s.displacement One;
      second = aim_for s.kind s.displacement Two;
      k = k_h s.humidity s.pressure p;
      humidity = s.humidity;
      pressure = s.pressure;
      saturation = p;
    }

-- "setting out of range | 4 | .. 1 to 7 in a start", the first unfit one; then "saturation value unfit | 5 | .. 0 in a start".
unfoldable pub checked_of : Settings → ℕ → Result Vehicle Refusal
checked_of s p =
    pick (eqb (unfit_place s) 0)
    (pick (saturation_fit p) (Ok (vehicle_of s p)) (Err (SaturationUnfit 0)))
    (Err (SettingUnfit (unfit_place s)))
