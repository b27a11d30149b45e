-- What one float operation does to `Near`. Assumes nothing.
use mathlib.Core.Path.{◌≡◌, sym, ap, ◌∙◌, subst}
use mathlib.Core.Logic.{◌⊎◌, inl, inr}
use mathlib.Core.Bool.{true, false, cond, true≢false}
use Prim.Native.Nat.{ℕ, ◌+◌, ◌*◌, ◌^◌, ◌≤◌, ◌<◌}
use native.Mathlib.Nat.{le_refl, le_trans, le_of_eq, lt_of_lt_of_le, lt_of_le_of_lt, lt_irrefl, eq-zero-or-pos, mul_comm, zero-mul, mul-le-mul_left, mul-lt-mul_of_pos_left, mul-pos}
use native.Mathlib.Omega.{arith}
use lib.Dec.{T, eqb, eqb→eq, not_T, lit<}
use lib.Pow.{pow_mono, pow-lt}
use lib.IntN.{pos}
use lib.Ieee.{Float, nan, inf, fin, binary64, up, down, round, add, mul, div, of_int}
use lib.Ieee.Fits.{up_pos, down_pos, eq→eqb}
use lib.Ieee.Bits.{is_false}
use lib.Ieee.Back.{round_whole}
use lib.Ieee.Positive.{first_pos}
use Rattle.nearness.specs.Near.{less, fine, Close, Near}
use Rattle.nearness.proofs.Round.{of_value, round_close, round_zero}
use Rattle.nearness.proofs.Closeness.{less_pow_pos, side_flip, side_range, close_refl, close_mul, close_add, close_trans, close_more, close_flip}

-- a / b is zero, or lies from 2 ^ -r to 2 ^ r
abbrev pub Safe : ℕ → ℕ → ℕ → Type 0
Safe r a b = (a ≤ b * 2 ^ r) × ((a ≡ 0) ⊎ (b ≤ a * 2 ^ r))

near_trans : (x : Float) (i j p q a b : ℕ) → 0 < q → Near x i p q → Close j p q a b → Near x (i + j) a b
near_trans nan i j p q a b Q h k = h
near_trans (inf s) i j p q a b Q h k = h
near_trans (fin s m e) i j p q a b Q h k = (h.0, close_trans i j (m * up e) (down e) p q a b Q h.1 k)

none : (p b x y : ℕ) → 0 < b → 0 < x → p * b * x ≤ 0 * y → p ≡ 0
none p b x y B X h = elim (eq-zero-or-pos p) [ inl e ↦ e | inr P ↦ absurd (lt_irrefl 0 (lt_of_lt_of_le (mul-pos (mul-pos P B) X) (le_trans h (le_of_eq (zero-mul y))))) ]

-- one rounding of p / q, which is close to a / b
pub fl : (k r p q a b : ℕ) → 0 < q → 0 < b → Close k p q a b → Safe r a b → r + k ≤ 999 → Near (round binary64 false p q) (1 + k) a b
fl k r p q a b Q B h (hi, inl z) R =
    let P : p ≡ 0 = none p b (less ^ k) (q * fine ^ k) B (less_pow_pos k) (le_trans h.0 (le_of_eq (ap (λ (y : ℕ). y * q * fine ^ k) z ∙ native.Mathlib.Nat.mul_assoc 0 q (fine ^ k)))) in
    subst (λ (y : ℕ). Near (round binary64 false p q) (1 + k) y b) (sym z)
    (subst (λ (y : ℕ). Near (round binary64 false y q) (1 + k) 0 b) (sym P)
    (of_value (round binary64 false 0 q) 0 q (1 + k) 0 b Q (round_zero q Q) (nought (less ^ (1 + k)) (fine ^ (1 + k)) b q, nought (less ^ (1 + k)) (fine ^ (1 + k)) q b)))
  where
    nought : (x y b q : ℕ) → 0 * b * x ≤ 0 * q * y
    nought x y b q = simp zero-mul (le_refl 0)
fl k r p q a b Q B h (hi, inr lo) R =
    let A : 0 < a = first_pos a (2 ^ r) (lt_of_lt_of_le B lo) in
    let up' : p ≤ q * 2 ^ (r + k) = side_range k r p q a b B h.0 hi in
    let down' : q ≤ p * 2 ^ (r + k) = side_range k r q p b a A (side_flip k a b p q h.1) lo in
    near_trans (round binary64 false p q) 1 k p q a b Q
    (round_close p q Q (le_trans down' (mul-le-mul_left p (pow_mono (wide R)))) (lt_of_le_of_lt up' (mul-lt-mul_of_pos_left (pow-lt (wider R)) Q))) h
  where
    wide : {z : ℕ} → z ≤ 999 → z ≤ 1000
    wide h = omega arith

    wider : {z : ℕ} → z ≤ 999 → z < 1000
    wider h = omega arith

-- The operations, by the fractions that their operands are close to.
pub near_mul : (x y : Float) (i j r a b c d : ℕ) → 0 < b → 0 < d → Near x i a b → Near y j c d → Safe r (a * c) (b * d) → r + (i + j) ≤ 999
    → Near (mul binary64 x y) (1 + (i + j)) (a * c) (b * d)
unfolding mul
near_mul nan y i j r a b c d B D h k S R = absurd h
near_mul (inf s) y i j r a b c d B D h k S R = absurd h
near_mul (fin s m e) nan i j r a b c d B D h k S R = absurd k
near_mul (fin s m e) (inf t) i j r a b c d B D h k S R = absurd k
near_mul (fin true m e) (fin t n f) i j r a b c d B D h k S R = absurd (true≢false h.0)
near_mul (fin false m e) (fin true n f) i j r a b c d B D h k S R = absurd (true≢false k.0)
near_mul (fin false m e) (fin false n f) i j r a b c d B D h k S R =
    fl (i + j) r (m * up e * (n * up f)) (down e * down f) (a * c) (b * d) (mul-pos (down_pos e) (down_pos f)) (mul-pos B D)
    (close_mul i j (m * up e) (down e) a b (n * up f) (down f) c d h.1 k.1) S R

pub near_add : (x y : Float) (k r a b c d : ℕ) → 0 < b → 0 < d → Near x k a b → Near y k c d → Safe r (a * d + c * b) (b * d) → r + k ≤ 999
    → Near (add binary64 x y) (1 + k) (a * d + c * b) (b * d)
unfolding add
near_add nan y k r a b c d B D h g S R = absurd h
near_add (inf s) y k r a b c d B D h g S R = absurd h
near_add (fin s m e) nan k r a b c d B D h g S R = absurd g
near_add (fin s m e) (inf t) k r a b c d B D h g S R = absurd g
near_add (fin true m e) (fin t n f) k r a b c d B D h g S R = absurd (true≢false h.0)
near_add (fin false m e) (fin true n f) k r a b c d B D h g S R = absurd (true≢false g.0)
near_add (fin false m e) (fin false n f) k r a b c d B D h g S R =
    fl k r (m * up e * down f + n * up f * down e) (down e * down f) (a * d + c * b) (b * d) (mul-pos (down_pos e) (down_pos f)) (mul-pos B D)
    (close_add k (m * up e) (down e) a b (n * up f) (down f) c d h.1 g.1) S R

positive : (n u c d x y w : ℕ) → 0 < c → 0 < d → 0 < x → c * d * x ≤ n * u * w * y → T (eqb n 0) → ⊥
positive n u c d x y w C D X h t =
    let z : n ≡ 0 = eqb→eq n 0 t in
    lt_irrefl 0 (lt_of_lt_of_le (mul-pos (mul-pos C D) X) (le_trans h (le_of_eq (ap (λ (k : ℕ). k * u * w * y) z ∙ simp zero-mul))))

pub near_div : (x y : Float) (i j r a b c d : ℕ) → 0 < b → 0 < c → Near x i a b → Near y j c d → Safe r (a * d) (b * c) → r + (i + j) ≤ 999
    → Near (div binary64 x y) (1 + (i + j)) (a * d) (b * c)
unfolding div
near_div nan y i j r a b c d B C h k S R = absurd h
near_div (inf s) y i j r a b c d B C h k S R = absurd h
near_div (fin s m e) nan i j r a b c d B C h k S R = absurd k
near_div (fin s m e) (inf t) i j r a b c d B C h k S R = absurd k
near_div (fin true m e) (fin t n f) i j r a b c d B C h k S R = absurd (true≢false h.0)
near_div (fin false m e) (fin true n f) i j r a b c d B C h k S R = absurd (true≢false k.0)
near_div (fin false m e) (fin false n f) i j r a b c d B C h k S R =
    go (positive n (up f) c (down f) (less ^ j) (fine ^ j) d C (down_pos f) (less_pow_pos j) k.1.1)
    (λ P. fl (i + j) r (m * up e * down f) (n * up f * down e) (a * d) (b * c) (mul-pos (mul-pos P (up_pos f)) (down_pos e)) (mul-pos B C)
    (subst (λ (z : ℕ). Close (i + j) (m * up e * down f) z (a * d) (b * c)) (mul_comm (down e) (n * up f))
    (close_mul i j (m * up e) (down e) a b (down f) (n * up f) d c h.1 (close_flip j (n * up f) (down f) c d k.1))) S R)
  where
    other : (T (eqb n 0) → ⊥) → 0 < n
    other g = elim (eq-zero-or-pos n) [ inl z ↦ absurd (g (eq→eqb z)) | inr P ↦ P ]

    go : (T (eqb n 0) → ⊥) → (0 < n → Near (round binary64 false (m * up e * down f) (n * up f * down e)) (1 + (i + j)) (a * d) (b * c))
        → Near (cond (eqb n 0) (cond (eqb m 0) nan (inf false)) (round binary64 false (m * up e * down f) (n * up f * down e))) (1 + (i + j)) (a * d) (b * c)
    go g h = rw (is_false (eqb n 0) (not_T (eqb n 0) g)) (h (other g))

pub near_int : (n : ℕ) → n ≤ 2 ^ 53 → Near (of_int binary64 (pos n)) 0 n 1
unfolding of_int
near_int n h = of_value (round binary64 false n 1) n 1 0 n 1 (lit< tt) (round_whole binary64 false n h) (close_refl n 1)

pub near_more : (x : Float) (k j a b : ℕ) → Near x k a b → Near x (k + j) a b
near_more nan k j a b h = h
near_more (inf s) k j a b h = h
near_more (fin s m e) k j a b h = (h.0, close_more k j (m * up e) (down e) a b h.1)
