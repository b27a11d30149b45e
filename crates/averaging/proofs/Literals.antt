-- Whole numbers as floats, and quotients of two. Assumes nothing.
use mathlib.Core.Path.{◌≡◌, refl}
use Prim.Native.Nat.{ℕ, ◌*◌, ◌^◌, ◌≤◌, ◌<◌}
use native.Mathlib.Nat.{le_refl, mul-one, one-mul}
use lib.Dec.{lit≤, lit<}
use lib.IntN.{pos}
use lib.Ieee.{binary64, of_bits, of_int, div}
use Rattle.nearness.specs.Ratio.{whole, over}
use Rattle.nearness.specs.Near.{Sound}
use Rattle.nearness.proofs.Carried.{sound_whole, sound_over, sound_more, sound_within}

-- The literals 1.0, 3.0, 10.0 and 10_000_000.0.
pub one_is : of_bits binary64 4607182418800017408 ≡ of_int binary64 (pos 1)
unfolding of_bits of_int
one_is = refl

pub three_is : of_bits binary64 4613937818241073152 ≡ of_int binary64 (pos 3)
unfolding of_bits of_int
three_is = refl

pub ten_is : of_bits binary64 4621819117588971520 ≡ of_int binary64 (pos 10)
unfolding of_bits of_int
ten_is = refl

pub ten_million_is : of_bits binary64 4711630319722168320 ≡ of_int binary64 (pos 10000000)
unfolding of_bits of_int
ten_million_is = refl

-- A whole number of at most 2^53 is exact.
pub exact_whole : (n : ℕ) → n ≤ 2 ^ 53 → Sound (of_int binary64 (pos n)) 0 (2 ^ 53) (whole n)
exact_whole n h = sound_whole n (2 ^ 53) h h (lit< tt)

-- A quotient of two is one rounding away, in whatever range it lies.
pub sound_quotient :
    (m n B : ℕ) →
    m ≤ 2 ^ 53 →
    n ≤ 2 ^ 53 →
    0 < n →
    m ≤ n * B →
    n ≤ m * B →
    Sound (div binary64 (of_int binary64 (pos m)) (of_int binary64 (pos n))) 1 B (over (whole m) (whole n))
unfolding over whole
sound_quotient m n B hm hn p most least =
    sound_within {B = 2 ^ 106} (sound_more (sound_over (exact_whole m hm) (exact_whole n hn) p (lit≤ tt) (lit≤ tt)) (le_refl 1) (lit≤ tt))
    (rw (mul-one m, one-mul n) most)
    (rw (mul-one m, one-mul n) least)
