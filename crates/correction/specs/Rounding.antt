-- Rounding half up, for every quotient that document 01 rounds to the unit.
use Rattle.std.specs.Prelude.{ℕ, ◌+◌, ◌*◌, ◌/◌, ◌≤◌, ◌<◌}

-- "rounded half up": the greatest whole number not above a/b plus 1/2, which is (2a + b)/(2b). A divisor 0 gives 0.
unfoldable pub half_up : ℕ → ℕ → ℕ
half_up a b = (2 * a + b) / (2 * b)

-- n is a/b rounded half up: n ≤ a/b + 1/2 < n + 1, in whole numbers: all multiplied by 2b.
abbrev pub HalfUpOf : ℕ → ℕ → ℕ → Type 0
HalfUpOf a b n = (2 * b * n ≤ 2 * a + b) × (2 * a + b < 2 * b * (n + 1))

-- So is every quotient rounded; the contract of `half_up` carries it.
abbrev pub HalfUpExact : Type 0
HalfUpExact = (a b : ℕ) → 0 < b → HalfUpOf a b (half_up a b)
