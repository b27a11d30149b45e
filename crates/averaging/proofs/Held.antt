-- DCF and k in floats. Assumes nothing.
use mathlib.Core.Path.{subst⁻¹}
use Prim.Native.Nat.{ℕ, ◌*◌, ◌^◌, ◌≤◌, ◌<◌}
use native.Mathlib.Nat.{le_trans}
use native.Mathlib.Omega.{arith}
use lib.Dec.{lit≤, lit<}
use lib.IntN.{pos}
use lib.Ieee.{Float, binary64, of_bits, of_int, div}
use borrow.Author.Tests.{leb-true, leb-false}
use Rattle.refusal.proofs.Picked.{on_pick}
use Rattle.nearness.specs.Ratio.{Ratio, whole, over}
use Rattle.nearness.specs.Near.{Sound}
use Rattle.nearness.proofs.Carried.{sound_whole, sound_more}
use Rattle.averaging.specs.Exact.{at_most, at_least}
use Rattle.averaging.proofs.Literals.{one_is, three_is, ten_million_is, sound_quotient}

-- 10^7/D, held within 1 and 3.
abbrev pub held : ℕ → Ratio
held d = at_least 1 (at_most 3 (over (whole (10 ^ 7)) (whole d)))

module _ (P : Ratio → Type 0) (d : ℕ) where
  -- What holds of 1 holds of DCF where D is above 10^7,
  pub held_least : 10 ^ 7 < d → P (whole 1) → P (held d)
  unfolding at_least at_most over whole
  held_least h p =
      on_pick (λ r. P (at_least 1 r)) _ _ _
      (λ e. on_pick P _ _ _ (λ f. let g = leb-true _ _ f in absurd (omega arith)) (λ f. p))
      (λ e. let g = leb-false _ _ e in absurd (omega arith))

  -- of 3 where 3·D is below it,
  pub held_greatest : 3 * d < 10 ^ 7 → P (whole 3) → P (held d)
  unfolding at_least at_most over whole
  held_greatest h p =
      on_pick (λ r. P (at_least 1 r)) _ _ _
      (λ e. let g = leb-true _ _ e in absurd (omega arith))
      (λ e. on_pick P _ _ _ (λ f. p) (λ f. let k : 3 < 1 = leb-false 1 3 f in absurd (omega arith)))

  -- and of 10^7/D where it lies between.
  pub held_between : d ≤ 10 ^ 7 → 10 ^ 7 ≤ 3 * d → P (over (whole (10 ^ 7)) (whole d)) → P (held d)
  unfolding at_least at_most over whole
  held_between h g p =
      on_pick (λ r. P (at_least 1 r)) _ _ _
      (λ e. on_pick P _ _ _ (λ f. p) (λ f. let k = leb-false _ _ f in absurd (omega arith)))
      (λ e. let k = leb-false _ _ e in absurd (omega arith))

-- DCF in floats, from D.
pub dcf_least : (d : ℕ) → 10 ^ 7 < d → Sound (of_bits binary64 4607182418800017408) 1 4 (held d)
dcf_least d h =
    held_least (Sound _ 1 4) d h
    (subst⁻¹ (λ (x : Float). Sound x 1 4 (whole 1)) one_is (sound_more (sound_whole 1 4 (lit≤ tt) (lit≤ tt) (lit< tt)) (lit≤ tt) (lit≤ tt)))

pub dcf_greatest : (d : ℕ) → 3 * d < 10 ^ 7 → Sound (of_bits binary64 4613937818241073152) 1 4 (held d)
dcf_greatest d h =
    held_greatest (Sound _ 1 4) d h
    (subst⁻¹ (λ (x : Float). Sound x 1 4 (whole 3)) three_is (sound_more (sound_whole 3 4 (lit≤ tt) (lit≤ tt) (lit< tt)) (lit≤ tt) (lit≤ tt)))

pub dcf_between :
    (d : ℕ) →
    d ≤ 10 ^ 7 →
    10 ^ 7 ≤ 3 * d →
    Sound (div binary64 (of_bits binary64 4711630319722168320) (of_int binary64 (pos d))) 1 4 (held d)
dcf_between d h g =
    held_between (Sound _ 1 4) d h g
    (subst⁻¹ (λ (x : Float). Sound (div binary64 x (of_int binary64 (pos d))) 1 4 (over (whole (10 ^ 7)) (whole d))) ten_million_is
    (sound_quotient (10 ^ 7) d 4 (lit≤ tt) (le_trans h (lit≤ tt)) (omega arith) (omega arith) (omega arith)))
