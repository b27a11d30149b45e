-- How an error is carried through float operations: by a factor, which products and quotients add up and sums keep. Definitions only; they occur
-- in no contract of a callable function.
use Rattle.std.specs.Prelude.{◌≡◌, ◌⊎◌, false, T, ℕ, suc, ◌-◌, ◌*◌, ◌^◌, ◌≤◌, ◌<◌, Float}
use Rattle.std.specs.Float.{nan, inf, fin, binary64}
use Rattle.std.specs.Float.Ieee.{up, down, fits}
use Rattle.nearness.specs.Ratio.{Ratio}

-- 2^52 − 1 and 2^52: one rounding changes a number by a factor of at most fine/less.
unfoldable pub less : ℕ
less = 2 ^ 52 - 1

unfoldable pub fine : ℕ
unfolding less
fine = suc less

-- p/q and a/b differ by a factor of at most (fine/less)^k, either way.
abbrev pub Close : ℕ → ℕ → ℕ → ℕ → ℕ → Type 0
Close k p q a b = (p * b * less ^ k ≤ a * q * fine ^ k) × (a * q * less ^ k ≤ p * b * fine ^ k)

-- The float is finite, not negative, and so close to a/b.
abbrev pub Near : Float → ℕ → ℕ → ℕ → Type 0
Near nan k a b = ⊥
Near (inf s) k a b = ⊥
Near (fin s m e) k a b = (s ≡ false) × Close k (m * up e) (down e) a b

-- What is carried from function to function: v is a fraction, zero or from 1/B to B, and x is k roundings from it.
pub record Sound (x : Float) (k B : ℕ) (v : Ratio) : Type 0 where
  pub holds : T (fits binary64 x)
  pub divides : 0 < v.bottom
  pub near : Near x k v.top v.bottom
  pub most : v.top ≤ v.bottom * B
  pub least : (v.top ≡ 0) ⊎ (v.bottom ≤ v.top * B)
