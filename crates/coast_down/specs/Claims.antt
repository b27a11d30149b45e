-- What holds of every run, in plain propositions over its whole numbers; the contracts of this crate's functions carry it.
use Rattle.std.specs.Prelude.{ℕ, ◌+◌, ◌-◌, ◌*◌, ◌≤◌, ◌<◌, true, ◌≡◌, ◌↔◌}
use Rattle.coast_down.specs.declared.Run.{Run}
use Rattle.coast_down.specs.Passing.{inertia_fit, power_fit, Time, seconds, nominal, measured, percent, run_passed, whole_nominal}
use Rattle.coast_down.specs.Annex.{NominalReduced}

-- From the one to the other, ends included.
abbrev pub Between : ℕ → ℕ → ℕ → Type 0
Between least greatest n = (least ≤ n) × (n ≤ greatest)

-- An inertia is fit exactly from 105.0 to 135.0 kg.
abbrev pub InertiaExactly : Type 0
InertiaExactly = (w : ℕ) → (inertia_fit w ≡ true) ↔ Between 1050 1350 w

-- A power is fit exactly from 0.50 to 3.25 kW.
abbrev pub PowerExactly : Type 0
PowerExactly = (q : ℕ) → (power_fit q ≡ true) ↔ Between 50 325 q

-- The first time is at most the second.
abbrev pub AtMost : Time → Time → Type 0
AtMost x y = x.over * y.under ≤ y.over * x.under

-- How far two numbers are apart.
abbrev pub apart : ℕ → ℕ → ℕ
apart a b = (a - b) + (b - a)

-- How far two times are apart.
abbrev pub difference : Time → Time → Time
difference x y = seconds (apart (x.over * y.under) (y.over * x.under)) (x.under * y.under)

-- The measured time differs from the nominal one by at most 7 percent of the nominal one.
abbrev pub WithinSeven : Run → Type 0
WithinSeven r = AtMost (difference (measured r) (nominal r)) (percent 7 (nominal r))

-- 93·N ≤ 8,100·q·ms ≤ 107·N, in whole numbers.
abbrev pub WithinWhole : Run → Type 0
WithinWhole r =
    (93 * whole_nominal r.speeds r.inertia ≤ 8100 * r.power * r.milliseconds) ×
    (8100 * r.power * r.milliseconds ≤ 107 * whole_nominal r.speeds r.inertia)

-- A run passes exactly if it is within 7 percent, where there is some power, and exactly if the whole numbers say so, always.
pub record PassesExactly (r : Run) : Type 0 where
  pub within : 0 < r.power → (run_passed r ≡ true) ↔ WithinSeven r
  pub whole : (run_passed r ≡ true) ↔ WithinWhole r

-- Of every run; and the nominal time is the annex's own.
pub record RunClaims : Type 0 where
  pub passes : (r : Run) → PassesExactly r
  pub reduced : NominalReduced
