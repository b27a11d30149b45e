-- One rounding to binary64 keeps a fraction close. Assumes nothing.
use mathlib.Core.Path.{◌≡◌, refl, sym, ap, ◌∙◌, subst}
use mathlib.Core.Bool.{false}
use Prim.Native.Nat.{ℕ, suc, ◌+◌, ◌-◌, ◌*◌, ◌/◌, ◌%◌, ◌^◌, ◌≤◌, ◌<◌, compare}
use native.Mathlib.Nat.{le_trans, le_of_eq, lt_of_lt_of_le, lt_of_le_of_lt, one-mul, mul_comm, mul_assoc, mul_left_comm, mul_right_comm, mul-suc, suc-mul, zero-mul, mul-le-mul_left, mul-le-mul_right, le_of_mul-le-mul_right, mul-pos, div-mul-le_self, lt-div-mul-add, le-div_iff_mul-le, div-lt_iff_lt-mul, div-div-eq-div-mul, pow-suc}
use native.Mathlib.Omega.{arith}
use lib.Dec.{lit≤, lit<}
use lib.Pow.{pow-add, pow_pos, pow-lt}
use lib.Ieee.{Float, nan, inf, fin, binary64, emax, low, up, down, size, round}
use lib.Ieee.Digits.{size-le, size_reaches}
use lib.Ieee.Fits.{nearest-le, kept-lt}
use lib.Ieee.Exact.{HasValue, round_exact}
use lib.Ieee.Nearest.{nearest-ge}
use lib.Ieee.Order.{drop, kept}
use lib.Ieee.Scale.{grid, overflow, round_val, normal_of_fraction}
use Rattle.nearness.specs.Near.{less, fine, Close, Near}

fine_is : fine ≡ suc less
unfolding fine
fine_is = refl

pub fine_pow : fine ≡ 2 ^ 52
unfolding fine
fine_pow = refl

-- N / u with a whole part of at least fine, and c one of the two whole numbers beside it.
module _ (M n u v c : ℕ) (large : suc M ≤ v) (lo : v * u ≤ n) (hi : n < v * u + u) (above : v ≤ c) (under : c ≤ suc v) where
  small : u * suc M ≤ v * u
  small = le_trans (le_of_eq (mul_comm u (suc M))) (mul-le-mul_right u large)

  not_over : c * u * M ≤ n * suc M
  not_over =
      let a : c * u * M ≤ suc v * u * M = mul-le-mul_right M (mul-le-mul_right u under) in
      let b : suc v * u * M ≡ (v * u + u) * M = ap (λ (z : ℕ). z * M) (suc-mul v u) in
      let d : (v * u + u) * M ≤ (n + u) * M = mul-le-mul_right M (omega arith) in
      let e : u * M + u ≤ n = le_trans (le_of_eq (sym (mul-suc u M))) (le_trans small lo) in
      omega (arith, native.Mathlib.Nat.add-mul n u M, mul-suc n M)

  not_under : n * M ≤ c * u * suc M
  not_under =
      let a : v * u ≤ c * u = mul-le-mul_right u above in
      let b : n * M ≤ (c * u + u) * M = mul-le-mul_right M (omega arith) in
      let e : u * M + u ≤ v * u = le_trans (le_of_eq (sym (mul-suc u M))) small in
      omega (arith, native.Mathlib.Nat.add-mul (c * u) u M, mul-suc (c * u) M)

-- The fraction p / q in units of the smallest value, whose whole part has all the digits that the format keeps.
keeps : (z p : ℕ) → 0 < p → p ≤ z → p - 1 + (z - p) < z
keeps z p P h = omega arith

module _ (p q : ℕ) (Q : 0 < q) (normal : 53 ≤ size (p * 2 ^ low binary64 / q)) where
  pub full : fine ≤ p * 2 ^ low binary64 / (q * 2 ^ drop 53 (p * 2 ^ low binary64) q)
  full =
      let w = p * 2 ^ low binary64 / q in
      let k = size w - 53 in
      let a : 2 ^ 52 * 2 ^ k ≤ w = le_trans (le_of_eq (sym (pow-add 2 52 k))) (size_reaches w (52 + k) (keeps (size w) 53 (lit< tt) normal)) in
      le_trans (le_of_eq fine_pow)
      (subst (λ (x : ℕ). 2 ^ 52 ≤ x) (div-div-eq-div-mul (p * 2 ^ low binary64) q (2 ^ k)) ((le-div_iff_mul-le (pow_pos k)).1 a))

  pub grid_close : (grid binary64 p q * q * less ≤ p * 2 ^ low binary64 * fine) × (p * 2 ^ low binary64 * less ≤ grid binary64 p q * q * fine)
  grid_close =
      let n = p * 2 ^ low binary64 in
      let k = drop 53 n q in
      let u = q * 2 ^ k in
      let v = n / u in
      let c = kept 53 n q in
      let U : 0 < u = mul-pos Q (pow_pos k) in
      let g : c * 2 ^ k * q ≡ c * u = mul_assoc c (2 ^ k) q ∙ ap (λ (x : ℕ). c * x) (mul_comm (2 ^ k) q) in
      let large : suc less ≤ v = le_trans (le_of_eq (sym fine_is)) full in
      let over : c * u * less ≤ n * suc less = not_over less n u v c large (div-mul-le_self n u) (lt-div-mul-add U) (nearest-ge v (compare (n % u * 2) u)) (nearest-le v (compare (n % u * 2) u)) in
      let under : n * less ≤ c * u * suc less = not_under less n u v c large (div-mul-le_self n u) (lt-div-mul-add U) (nearest-ge v (compare (n % u * 2) u)) (nearest-le v (compare (n % u * 2) u)) in (
        subst (λ (x : ℕ). x * less ≤ n * fine) (sym g) (subst (λ (x : ℕ). c * u * less ≤ n * x) (sym fine_is) over),
        subst (λ (x : ℕ). n * less ≤ x * fine) (sym g) (subst (λ (x : ℕ). n * less ≤ c * u * x) (sym fine_is) under),
      )

  kept_most : kept 53 (p * 2 ^ low binary64) q ≤ 2 ^ 53
  kept_most =
      let n = p * 2 ^ low binary64 in
      let k = drop 53 n q in
      let u = q * 2 ^ k in
      le_trans (nearest-le (n / u) (compare (n % u * 2) u)) (subst (λ (x : ℕ). x < 2 ^ 53) (div-div-eq-div-mul n q (2 ^ k)) (kept-lt 53 (n / q)))

  -- below 2 ^ 1000 nothing overflows
  pub grid_under : p < q * 2 ^ 1000 → grid binary64 p q < overflow binary64
  grid_under h =
      let l = low binary64 in
      let n = p * 2 ^ l in
      let w = n / q in
      let x : n < 2 ^ (1000 + l) * q = lt_of_lt_of_le (mul_lt_right h (pow_pos l)) (le_of_eq (mul_right_comm q (2 ^ 1000) (2 ^ l) ∙ eq q l)) in
      let s : size w ≤ 1000 + l = size-le w (1000 + l) ((div-lt_iff_lt-mul Q).1 x) in
      lt_of_le_of_lt (mul-le-mul_right (2 ^ (size w - 53)) kept_most)
      (lt_of_le_of_lt (le_of_eq (sym (pow-add 2 53 (size w - 53)))) (pow-lt (top (size w) s)))
    where
      mul_lt_right : {a b k : ℕ} → a < b → 0 < k → a * k < b * k
      mul_lt_right = native.Mathlib.Nat.mul-lt-mul_of_pos_right

      eq : (q l : ℕ) → q * 2 ^ l * 2 ^ 1000 ≡ 2 ^ (1000 + l) * q
      eq q l = simp (mul_assoc, mul_comm, mul_left_comm, pow-add)

      top : (z : ℕ) → z ≤ 1000 + low binary64 → 53 + (z - 53) < low binary64 + suc (emax binary64)
      top z h = omega arith

-- From the value in units to the float.
pub of_value : (x : Float) (g l k p q : ℕ) → 0 < l → HasValue x false g l → Close k g l p q → Near x k p q
of_value nan g l k p q L v h = v
of_value (inf s) g l k p q L v h = v
of_value (fin s m e) g l k p q L v h =
    let A = m * up e in
    let D = down e in (
      v.0,
      (
        le_of_mul-le-mul_right (scaled A D g l q p (less ^ k) (fine ^ k) v.1 h.0) L,
        le_of_mul-le-mul_right (scaled' A D g l q p (less ^ k) (fine ^ k) v.1 h.1) L,
      ),
    )
  where
    scaled : (A D g l q p M N : ℕ) → A * l ≡ g * D → g * q * M ≤ p * l * N → A * q * M * l ≤ p * D * N * l
    scaled A D g l q p M N e h =
        le_trans (le_of_eq (simp (mul_assoc, mul_comm, mul_left_comm) (simp (mul_assoc, mul_comm) at (ap (λ (z : ℕ). z * (q * M)) e))))
        (le_trans (mul-le-mul_right D h) (le_of_eq (simp (mul_assoc, mul_comm, mul_left_comm))))

    scaled' : (A D g l q p M N : ℕ) → A * l ≡ g * D → p * l * M ≤ g * q * N → p * D * M * l ≤ A * q * N * l
    scaled' A D g l q p M N e h =
        le_trans (le_of_eq (simp (mul_assoc, mul_comm, mul_left_comm)))
        (le_trans (mul-le-mul_right D h)
        (le_of_eq (simp (mul_assoc, mul_comm, mul_left_comm) (simp (mul_assoc, mul_comm) at (ap (λ (z : ℕ). z * (q * N)) (sym e))))))

-- One rounding of a fraction from 2 ^ -1000 to 2 ^ 1000.
pub round_close : (p q : ℕ) → 0 < q → q ≤ p * 2 ^ 1000 → p < q * 2 ^ 1000 → Near (round binary64 false p q) 1 p q
round_close p q Q lo hi =
    let l = low binary64 in
    let N : 53 ≤ size (p * 2 ^ l / q) = normal_of_fraction binary64 p q Q
    (le_trans (mul-le-mul_left (2 ^ 52) lo) (le_trans (le_of_eq (mul_left_comm (2 ^ 52) p (2 ^ 1000))) (mul-le-mul_left p (lit≤ tt)))) in
    let c = grid_close p q Q N in
    of_value (round binary64 false p q) (grid binary64 p q) (2 ^ l) 1 p q (pow_pos l) (round_val binary64 p q (grid_under p q Q N hi)) (simp pow_one c.0, simp pow_one c.1)
  where
    pow_one : (z : ℕ) → z ^ 1 ≡ z
    pow_one z = pow-suc z 0 ∙ ap (λ (y : ℕ). y * z) (native.Mathlib.Nat.pow-zero z) ∙ one-mul z

-- zero stays zero, whatever the denominator
pub round_zero : (q : ℕ) → 0 < q → HasValue (round binary64 false 0 q) false 0 q
round_zero q Q = round_exact binary64 false 0 q 0 0 Q (pow_pos 53) (lit< tt) (zero-mul (2 ^ 1074) ∙ sym (zero-mul q))
