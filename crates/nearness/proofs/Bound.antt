-- From `Sound` to the bound of 2^-45. Assumes nothing.
use mathlib.Core.Path.{◌≡◌, refl, sym, ap, ◌∙◌, subst}
use mathlib.Core.Logic.{inl, inr}
use mathlib.Core.Bool.{true, false, true≢false}
use Prim.Native.Nat.{ℕ, zero, suc, ◌+◌, ◌-◌, ◌*◌, ◌^◌, ◌≤◌, ◌<◌}
use native.Mathlib.Nat.{le_refl, le_trans, le_of_eq, lt_of_lt_of_le, lt_of_le_of_lt, mul-one, mul_comm, mul_assoc, mul_left_comm, add-mul, mul-add, add-le-add, zero-mul, mul-le-mul, mul-le-mul_left, mul-le-mul_right, mul-lt-mul_of_pos_right, le_of_mul-le-mul_right, mul-pos, eq-zero-or-pos, lt_irrefl}
use native.Mathlib.Omega.{arith}
use lib.Dec.{T, eqb→eq, lit≤, lit<}
use lib.IntN.{ℤ, pos, negsuc}
use lib.Ieee.{Float, nan, inf, fin, binary64, up, down, fits}
use lib.Ieee.Fits.{up_pos, down_pos}
use lib.Pow.{pow_mono}
use Rattle.nearness.specs.Ratio.{Ratio, distance, Within, Approximates}
use Rattle.nearness.specs.Near.{less, fine, Near, Sound}
use Rattle.nearness.proofs.Closeness.{less_pow_pos}
use Rattle.nearness.proofs.Carried.{sound_more}

-- 100 roundings change a number by at most 2^-45 of it.
bound_over : (H P A X Y : ℕ) → 0 < X → P * X ≤ A * Y → Y * H ≤ X * (H + 1) → (P - A) * H ≤ A
bound_over H P A X Y p h c =
    let a : P * H * X ≤ A * (H + 1) * X = le_trans (le_of_eq (simp (mul_assoc, mul_comm, mul_left_comm))) (le_trans (mul-le-mul_right H h) (le_trans (le_of_eq (mul_assoc A Y H)) (le_trans (mul-le-mul_left A c) (le_of_eq (simp (mul_assoc, mul_comm)))))) in
    let b : P * H ≤ A * (H + 1) = le_of_mul-le-mul_right a p in
    le_trans (le_of_eq (mul_comm (P - A) H ∙ native.Mathlib.Nat.mul-sub H P A)) (omega (arith, mul-add A H 1, mul-one A, mul_comm P H, mul_comm A H))

bound_under : (H P A X Y : ℕ) → 0 < Y → A * X ≤ P * Y → Y * H ≤ X * (H + 1) → X ≤ Y → (A - P) * H ≤ A
bound_under H P A X Y p h c d =
    let a : A * H * Y ≤ (P * H + A) * Y =
    le_trans (le_of_eq (e₁ A H Y)) (le_trans (mul-le-mul_left A c) (le_trans (le_of_eq (e₂ A X H)) (le_trans (add-le-add (mul-le-mul_right H h) (mul-le-mul_left A d)) (le_of_eq (e₃ P Y H A))))) in
    let b : A * H ≤ P * H + A = le_of_mul-le-mul_right a p in
    le_trans (le_of_eq (mul_comm (A - P) H ∙ native.Mathlib.Nat.mul-sub H A P)) (omega (arith, mul_comm P H, mul_comm A H))
  where
    e₁ : (A H Y : ℕ) → A * H * Y ≡ A * (Y * H)
    e₁ A H Y = simp (mul_assoc, mul_comm)

    e₂ : (A X H : ℕ) → A * (X * (H + 1)) ≡ A * X * H + A * X
    e₂ A X H = simp (mul-add, mul-one, mul_assoc)

    e₃ : (P Y H A : ℕ) → P * Y * H + A * Y ≡ (P * H + A) * Y
    e₃ P Y H A = simp (add-mul, mul_assoc, mul_comm)

hundred : fine ^ 100 * 2 ^ 45 ≤ less ^ 100 * (2 ^ 45 + 1)
unfolding fine less
hundred = lit≤ tt

hundred_pos : 0 < less ^ 100
unfolding less
hundred_pos = lit< tt

hundred_le : less ^ 100 ≤ fine ^ 100
unfolding fine less
hundred_le = lit≤ tt

within : (H P A X Y : ℕ) → 0 < X → P * X ≤ A * Y → A * X ≤ P * Y → Y * H ≤ X * (H + 1) → X ≤ Y → distance P A * H ≤ A
within H P A X Y x over under c d =
    elim (eq-zero-or-pos (P - A)) [
      | inl z ↦ le_trans (le_of_eq (ap (λ (n : ℕ). n * H) (below z))) (bound_under H P A X Y (lt_of_lt_of_le x d) under c d)
      | inr p ↦ le_trans (le_of_eq (ap (λ (n : ℕ). n * H) (above p))) (bound_over H P A X Y x over c)
    ]
  where
    below : P - A ≡ 0 → distance P A ≡ A - P
    below z = omega arith

    above : 0 < P - A → distance P A ≡ P - A
    above p = omega arith

near_within : (x : Float) (v : Ratio) → Near x 100 v.top v.bottom → Within x v
unfolding Within
near_within nan v h = h
near_within (inf s) v h = h
near_within (fin s m e) v h =
    (h.0, within (2 ^ 45) (m * up e * v.bottom) (v.top * down e) (less ^ 100) (fine ^ 100) hundred_pos h.1.0 h.1.1 hundred hundred_le)

-- The one zero that a format holds.
zero_is : (e : ℤ) → T (fits binary64 (fin false 0 e)) → fin false 0 e ≡ fin false 0 (pos 0)
unfolding fits
zero_is (pos zero) t = refl
zero_is (pos (suc k)) t = absurd (two (2 ^ suc k) (eqb→eq (2 ^ suc k * 1) 1 t) (pow_mono (one_le k)))
  where
    one_le : (k : ℕ) → 1 ≤ suc k
    one_le k = omega arith

    two : (z : ℕ) → z * 1 ≡ 1 → 2 ≤ z → ⊥
    two z h g = omega arith
zero_is (negsuc k) t = absurd (two (2 ^ suc k) (eqb→eq (1 * 2 ^ suc k) 1 t) (pow_mono (one_le k)))
  where
    one_le : (k : ℕ) → 1 ≤ suc k
    one_le k = omega arith

    two : (z : ℕ) → 1 * z ≡ 1 → 2 ≤ z → ⊥
    two z h g = omega arith

near_zero : (x : Float) (k b : ℕ) → T (fits binary64 x) → 0 < b → Near x k 0 b → x ≡ fin false 0 (pos 0)
near_zero nan k b f B h = absurd h
near_zero (inf s) k b f B h = absurd h
near_zero (fin true m e) k b f B h = absurd (true≢false h.0)
near_zero (fin false m e) k b f B h =
    let z : m ≡ 0 = none m (up e) b (less ^ k) (down e) (fine ^ k) (up_pos e) B (less_pow_pos k) h.1.0 in
    ap (λ (n : ℕ). fin false n e) z ∙ zero_is e (subst (λ (n : ℕ). T (fits binary64 (fin false n e))) z f)
  where
    none : (m u b x d y : ℕ) → 0 < u → 0 < b → 0 < x → m * u * b * x ≤ 0 * d * y → m ≡ 0
    none m u b x d y U B X h = elim (eq-zero-or-pos m) [
      | inl e ↦ e
      | inr M ↦ absurd (lt_irrefl 0 (lt_of_lt_of_le (mul-pos (mul-pos (mul-pos M U) B) X) (le_trans h (le_of_eq (simp zero-mul)))))
    ]

-- What a float answers that is at most 100 roundings away.
pub sound_approximates : {x : Float} {k B : ℕ} {v : Ratio} → Sound x k B v → k ≤ 100 → Approximates x v
sound_approximates {x} {k} {B} {v} s h =
    record {
      divides = s.divides;
      near = near_within x v (sound_more s h (le_refl B)).near;
      zero = λ z. near_zero x k v.bottom s.holds s.divides (subst (λ (a : ℕ). Near x k a v.bottom) z s.near);
    }

-- The float is from 0 up to below n.
abbrev pub Below : ℕ → Float → Type 0
Below n nan = ⊥
Below n (inf s) = ⊥
Below n (fin s m e) = (s ≡ false) × (m * up e < n * down e)

hundred_twice : fine ^ 100 ≤ 2 * less ^ 100
unfolding fine less
hundred_twice = lit≤ tt

near_below : (x : Float) (B n a b : ℕ) → 0 < b → a ≤ b * B → B * 2 < n → Near x 100 a b → Below n x
near_below nan B n a b P h g k = k
near_below (inf s) B n a b P h g k = k
near_below (fin s m e) B n a b P h g k = (
  k.0,
  lt_of_le_of_lt
      (le_of_mul-le-mul_right
      (le_trans (le_of_eq (sym (mul_assoc (m * up e) b (less ^ 100))))
      (le_trans k.1.0
      (le_trans (mul-le-mul (mul-le-mul_right (down e) h) hundred_twice) (le_of_eq (shuffle b B (down e) (less ^ 100))))))
      (mul-pos P hundred_pos))
      (mul-lt-mul_of_pos_right g (down_pos e)),
)
  where
    shuffle : (b B d l : ℕ) → b * B * d * (2 * l) ≡ B * 2 * d * (b * l)
    shuffle b B d l = simp (mul_assoc, mul_comm, mul_left_comm)

-- Twice the range bounds it.
pub sound_below : {x : Float} {k B : ℕ} {v : Ratio} (n : ℕ) → Sound x k B v → k ≤ 100 → B * 2 < n → Below n x
sound_below {x} {k} {B} {v} n s h g = near_below x B n v.top v.bottom s.divides s.most g (sound_more s h (le_refl B)).near
