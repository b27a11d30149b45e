-- A coast-down run (document 02, A.2): the ranges of its inertia and power, its nominal time, and when it passes.
use Rattle.std.specs.Prelude.{ℕ, ◌+◌, ◌-◌, ◌*◌, Bool, ◌&&◌, leb}
use Rattle.coast_down.specs.declared.SpeedRange.{SpeedRange}
use Rattle.coast_down.specs.declared.SpeedRange.TheVariants.{Faster, Slower}
use Rattle.coast_down.specs.declared.Run.{Run}

-- "w is inertia in 0.1 kg (1050 to 1350)"
abbrev pub inertia_fit : ℕ → Bool
inertia_fit w = leb 1050 w && leb w 1350

-- "q the sum of set and friction power in 0.01 kW (50 to 325)"
abbrev pub power_fit : ℕ → Bool
power_fit q = leb 50 q && leb q 325

-- A time in seconds: a fraction of two whole numbers, never rounded.
pub record Time : Type 0 where
  pub over : ℕ
  pub under : ℕ

-- over/under seconds.
abbrev pub seconds : ℕ → ℕ → Time
seconds over under = record { over = over; under = under }

-- "the nominal time is 40w/(81q) seconds from 48 to 32 km/h and 25w/(81q) from 33 to 17"
abbrev pub nominal_time : SpeedRange → ℕ → ℕ → Time
nominal_time Faster w q = seconds (40 * w) (81 * q)
nominal_time Slower w q = seconds (25 * w) (81 * q)

-- The nominal time of a run.
abbrev pub nominal : Run → Time
nominal r = nominal_time r.speeds r.inertia r.power

-- "its measured milliseconds", in seconds
abbrev pub measured : Run → Time
measured r = seconds r.milliseconds 1000

-- So many percent of a time.
abbrev pub percent : ℕ → Time → Time
percent n x = seconds (n * x.over) (100 * x.under)

-- The first time is at most the second.
abbrev pub at_most : Time → Time → Bool
at_most x y = leb (x.over * y.under) (y.over * x.under)

-- "A run passes when its measured milliseconds are within 7 percent of nominal, ends included."
unfoldable pub run_passed : Run → Bool
run_passed r =
    at_most (percent (100 - 7) (nominal r)) (measured r) && at_most (measured r) (percent (100 + 7) (nominal r))

-- N = 40,000w or 25,000w: the nominal milliseconds, times 81q.
abbrev pub whole_nominal : SpeedRange → ℕ → ℕ
whole_nominal Faster w = 40000 * w
whole_nominal Slower w = 25000 * w
