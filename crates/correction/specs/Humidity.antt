-- The humidity correction k_H (document 01, "Corrections"; 004, annex AB2), and the ranges of what it is worked out from.
use Rattle.std.specs.Prelude.{ℕ, ◌-◌, ◌*◌, ◌^◌, Bool, ◌&&◌, leb, Some, None, Option}
use Rattle.refusal.specs.Choice.{pick}
use Rattle.correction.specs.Rounding.{half_up}

-- "humidity 0 to 100"
abbrev pub humidity_fit : ℕ → Bool
humidity_fit r = leb r 100

-- "pressure 800 to 1100"
abbrev pub pressure_fit : ℕ → Bool
pressure_fit b = leb 800 b && leb b 1100

-- saturation pressure: "500 to 4300" Pa
abbrev pub saturation_fit : ℕ → Bool
saturation_fit p = leb 500 p && leb p 4300

-- "E = 10,000B − rp", with r humidity in %, B pressure in 0.1 kPa, p saturation pressure in Pa.
abbrev pub dry_pressure : ℕ → ℕ → ℕ → ℕ
dry_pressure r b p = 10000 * b - r * p

-- "1,352,359E − 20,434,190rp"
abbrev pub humidity_divisor : ℕ → ℕ → ℕ → ℕ
humidity_divisor r b p = 1352359 * dry_pressure r b p - 20434190 * (r * p)

-- "k is 10^12 E/(1,352,359E − 20,434,190rp) in millionths, rounded half up."
unfoldable pub k_h : ℕ → ℕ → ℕ → ℕ
k_h r b p = half_up (10 ^ 12 * dry_pressure r b p) (humidity_divisor r b p)

-- k_H where r, B and p are within their ranges; elsewhere there is none.
unfoldable pub humidity_factor : ℕ → ℕ → ℕ → Option ℕ
humidity_factor r b p = pick (humidity_fit r && (pressure_fit b && saturation_fit p)) (Some (k_h r b p)) None
