-- Rounding half up by quotient and remainder. Assumes nothing.
use mathlib.Core.Path.{◌≡◌}
use Prim.Native.Nat.{ℕ, ◌+◌, ◌-◌, ◌*◌, ◌/◌, ◌%◌, ◌<◌, ◌≤◌}
use native.Mathlib.Nat.{div-add-mod', mod-lt, div-eq_of_lt-le, div-zero, div-lt_iff_lt-mul, le-div_iff_mul-le, mul-le-mul_left, mul-div-le, lt-mul-div-succ}
use native.Mathlib.Omega.{arith}
use Rattle.correction.specs.Rounding.{half_up, HalfUpExact}

-- A divisor 0 gives 0.
pub none : (a b : ℕ) → b ≡ 0 → half_up a b ≡ 0
unfolding half_up
none a b h = rw h (div-zero (2 * a + 0))

-- A remainder below half of the divisor is dropped.
pub down : (a b : ℕ) → 0 < b → a % b < b - a % b → half_up a b ≡ a / b
unfolding half_up
down a b h l = div-eq_of_lt-le (2 * b) (omega (arith, div-add-mod' a b)) (omega (arith, div-add-mod' a b, mod-lt a h))

-- Any other adds 1.
pub up : (a b : ℕ) → 0 < b → b - a % b ≤ a % b → half_up a b ≡ a / b + 1
unfolding half_up
up a b h l = div-eq_of_lt-le (2 * b) (omega (arith, div-add-mod' a b, mod-lt a h)) (omega (arith, div-add-mod' a b, mod-lt a h))

-- There is room for that 1.
pub room : (a b : ℕ) → 0 < b → b - a % b ≤ a % b → a / b + 1 ≤ a
room a b h l = omega (arith, div-add-mod' a b, mod-lt a h, mul-le-mul_left (a / b) h)

-- A quotient below q + 1/2 is rounded to q at most.
pub at_most : (a b q : ℕ) → 0 < b → 2 * a < (2 * q + 1) * b → half_up a b ≤ q
unfolding half_up
at_most a b q h l =
    let pos : 0 < 2 * b = omega arith in
    let less : (2 * a + b) / (2 * b) < q + 1 = (div-lt_iff_lt-mul pos).1 (omega arith) in
    omega arith

-- A quotient of at least q - 1/2 is rounded to q at least.
pub at_least : (a b q : ℕ) → 0 < b → 2 * q * b ≤ 2 * a + b → q ≤ half_up a b
unfolding half_up
at_least a b q h l =
    let pos : 0 < 2 * b = omega arith in
    (le-div_iff_mul-le pos).1 (omega arith)

-- Every quotient is rounded half up.
pub half_up_exact : HalfUpExact
unfolding half_up
half_up_exact a b h =
    let pos : 0 < 2 * b = omega arith in
    (mul-div-le (2 * a + b) (2 * b), lt-mul-div-succ (2 * a + b) pos)
