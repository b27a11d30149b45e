-- What holds of every vehicle that a check gives; the contract of `checked_of` carries it.
use Rattle.std.specs.Prelude.{ℕ, ◌≤◌, true, ◌≡◌, Ok}
use Rattle.correction.specs.Humidity.{saturation_fit}
use Rattle.vehicle.specs.Settings.{unfit_place}
use Rattle.vehicle.specs.Loads.{load_for, target_for}
use Rattle.vehicle.specs.Checked.{vehicle_of, checked_of}
use Rattle.vehicle.specs.Driving.{set_load, target_of}
use Rattle.vehicle.specs.declared.Settings.{Settings}
use Rattle.vehicle.specs.declared.Vehicle.{Vehicle}
use Rattle.vehicle.specs.declared.Mode.{Mode}

-- A vehicle of these settings and this p: they are fit, it holds what document 01's tables give for them, and k is at most 5,218,329
-- millionths.
pub record FitFor (s : Settings) (p : ℕ) (v : Vehicle) : Type 0 where
  pub settings_are_fit : unfit_place s ≡ 0
  pub saturation_is_fit : saturation_fit p ≡ true
  pub derived : v ≡ vehicle_of s p
  pub target : (mode : Mode) → target_of v mode ≡ target_for s.kind mode
  pub load : (mode : Mode) → set_load v mode ≡ load_for s.displacement mode
  pub most : v.k ≤ 5218329

-- A vehicle comes from the check only where every setting and p are fit.
abbrev pub CheckedFit : Type 0
CheckedFit = (s : Settings) (p : ℕ) (v : Vehicle) → checked_of s p ≡ Ok v → FitFor s p v
