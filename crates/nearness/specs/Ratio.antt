-- Fractions of two whole numbers, and how near a float lies to one (document 02, A.11). Definitions only. Nothing is rounded or reduced.
use Rattle.std.specs.Prelude.{◌≡◌, false, ℕ, ◌+◌, ◌-◌, ◌*◌, ◌^◌, ◌≤◌, ◌<◌, pos, Float}
use Rattle.std.specs.Float.{nan, inf, fin}
use Rattle.std.specs.Float.Ieee.{up, down}

-- top/bottom
pub record Ratio : Type 0 where
  pub top : ℕ
  pub bottom : ℕ

-- A whole number.
unfoldable pub whole : ℕ → Ratio
whole n = record { top = n; bottom = 1 }

-- Their product.
unfoldable pub times : Ratio → Ratio → Ratio
times x y = record { top = x.top * y.top; bottom = x.bottom * y.bottom }

-- Their quotient.
unfoldable pub over : Ratio → Ratio → Ratio
over x y = record { top = x.top * y.bottom; bottom = x.bottom * y.top }

-- Their sum.
unfoldable pub plus : Ratio → Ratio → Ratio
plus x y = record { top = x.top * y.bottom + y.top * x.bottom; bottom = x.bottom * y.bottom }

-- |a − b|
abbrev pub distance : ℕ → ℕ → ℕ
distance a b = (a - b) + (b - a)

-- "within 2^-45 times the exact average of that average": |x − v|·2^45 ≤ v. A finite float x is m·up/down, negative where its sign is true;
-- here both sides are multiplied by down·bottom. An infinity, no number and a negative number lie near no fraction.
unfoldable pub Within : Float → Ratio → Type 0
Within nan v = ⊥
Within (inf s) v = ⊥
Within (fin s m e) v = (s ≡ false) × (distance (m * up e * v.bottom) (v.top * down e) * 2 ^ 45 ≤ v.top * down e)

-- What a float answers for a fraction, which is one: its bottom is above 0. "Zero giving exactly zero": +0.
pub record Approximates (x : Float) (v : Ratio) : Type 0 where
  pub divides : 0 < v.bottom
  pub near : Within x v
  pub zero : v.top ≡ 0 → x ≡ fin false 0 (pos 0)
