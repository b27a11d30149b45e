-- Step 4: what ready means.
use Rattle.std.specs.Prelude.{ℕ, Bool, ◌&&◌, leb, ltb}
use Rattle.reading.specs.declared.Second.{Second}
use Rattle.correction.specs.Dilution.{dilution_sum}
use Rattle.vehicle.specs.declared.Vehicle.{Vehicle}
use Rattle.vehicle.specs.declared.Mode.{Mode}
use Rattle.vehicle.specs.Driving.{apart, target_of, set_load, in_tolerance, engine_good}

-- A speed within k of a target.
abbrev pub within : ℕ → ℕ → ℕ → Bool
within k speed target = leb (apart speed target) k

-- "Ready means: speed within 15 of target, load in tolerance, engine speed good, sum above 600."
unfoldable pub ready : Vehicle → Mode → Second → Bool
ready v mode s =
    within 15 s.speed (target_of v mode) && in_tolerance s.load (set_load v mode) && engine_good v s &&
    ltb 600 (dilution_sum s.co2 s.co)
