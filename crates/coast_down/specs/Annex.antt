-- 004's annex E1.1 as it is printed there, in the exact fractions of annex AB: nothing is rounded and no formula is reduced.
use Rattle.std.specs.Prelude.{ℕ, ◌*◌, ◌<◌}
use Rattle.correction.specs.Annex.{Fraction, Same, ratio, ◌-ᶠ◌, ◌*ᶠ◌, ◌/ᶠ◌}
use Rattle.coast_down.specs.declared.SpeedRange.{SpeedRange}
use Rattle.coast_down.specs.declared.SpeedRange.TheVariants.{Faster, Slower}
use Rattle.coast_down.specs.Passing.{Time, nominal_time}

-- A speed of so many km/h, in m/s.
abbrev pub metres_per_second : ℕ → Fraction
metres_per_second v = ratio (10 * v) 36

-- E1.1.1, E1.1.2: CCDT = DIW × (V₁² − V₂²)/(2000 × (IHP + PLHP)), with DIW in kg, V₁ and V₂ in m/s, the powers in kW.
abbrev pub coast_down_time : Fraction → Fraction → Fraction → Fraction → Fraction
coast_down_time diw v₁ v₂ power = diw *ᶠ (v₁ *ᶠ v₁ -ᶠ v₂ *ᶠ v₂) /ᶠ (ratio 2000 1 *ᶠ power)

-- E1.1.1 from 48 to 32 km/h, E1.1.2 from 33 to 17: at inertia w in 0.1 kg and power q in 0.01 kW.
abbrev pub annex_time : SpeedRange → ℕ → ℕ → Fraction
annex_time Faster w q = coast_down_time (ratio w 10) (metres_per_second 48) (metres_per_second 32) (ratio q 100)
annex_time Slower w q = coast_down_time (ratio w 10) (metres_per_second 33) (metres_per_second 17) (ratio q 100)

-- The same time as a fraction.
abbrev pub as_fraction : Time → Fraction
as_fraction x = ratio x.over x.under

-- The annex's formula reduces to 40w/(81q) and 25w/(81q), wherever it is defined: where there is some power.
abbrev pub NominalReduced : Type 0
NominalReduced =
    (speeds : SpeedRange) (w q : ℕ) → 0 < q → Same (annex_time speeds w q) (as_fraction (nominal_time speeds w q))
