-- The algebra of `Close`: products, quotients and sums, a wider factor, a range. Assumes nothing.
use mathlib.Core.Path.{◌≡◌, sym, subst}
use Prim.Native.Nat.{ℕ, zero, suc, ◌+◌, ◌*◌, ◌^◌, ◌≤◌, ◌<◌}
use native.Mathlib.Nat.{le_refl, le_trans, le_of_eq, mul_comm, mul_assoc, mul_left_comm, mul-add, add-le-add, mul-le-mul, mul-le-mul_right, le_of_mul-le-mul_right, mul-pos, pow-suc, pow-zero, pow-le-pow_left, zero-lt-suc}
use lib.Dec.{lit≤, lit<}
use lib.Pow.{pow-add}
use Rattle.nearness.specs.Near.{less, fine, Close}

-- Of less and fine: 0 < less ≤ fine ≤ 2 * less.
pub less_pos : 0 < less
unfolding less
less_pos = lit< tt

pub less_fine : less ≤ fine
unfolding fine
less_fine = lit≤ tt

fine_twice : fine ≤ 2 * less
unfolding fine
fine_twice = lit≤ tt

pub less_pow_pos : (k : ℕ) → 0 < less ^ k
less_pow_pos zero = subst (λ (z : ℕ). 0 < z) (sym (pow-zero less)) (zero-lt-suc 0)
less_pow_pos (suc k) = subst (λ (z : ℕ). 0 < z) (sym (pow-suc less k)) (mul-pos (less_pow_pos k) less_pos)

fine_pow_twice : (k : ℕ) → fine ^ k ≤ 2 ^ k * less ^ k
unfolding fine
fine_pow_twice zero = lit≤ tt
fine_pow_twice (suc k) =
    le_trans (le_of_eq (pow-suc fine k)) (le_trans (mul-le-mul (fine_pow_twice k) fine_twice) (le_of_eq (simp (pow-suc) (shuffle (2 ^ k) (less ^ k) less))))
  where
    shuffle : (a b c : ℕ) → a * b * (2 * c) ≡ a * 2 * (b * c)
    shuffle a b c = simp (mul_assoc, mul_comm, mul_left_comm)

-- The algebra, one side at a time: `Side k p q a b` says that p / q is not above a / b by more.
abbrev pub Side : ℕ → ℕ → ℕ → ℕ → ℕ → Type 0
Side k p q a b = p * b * less ^ k ≤ a * q * fine ^ k

side_mul : (i j p q a b r s c d : ℕ) → Side i p q a b → Side j r s c d → Side (i + j) (p * r) (q * s) (a * c) (b * d)
side_mul i j p q a b r s c d h k =
    rw (pow-add less i j, pow-add fine i j)
    (le_trans (le_of_eq (eq p r b d (less ^ i) (less ^ j))) (le_trans (mul-le-mul h k) (le_of_eq (sym (eq a c q s (fine ^ i) (fine ^ j))))))
  where
    eq : (p r b d x y : ℕ) → p * r * (b * d) * (x * y) ≡ p * b * x * (r * d * y)
    eq p r b d x y = simp (mul_assoc, mul_left_comm)

side_add : (k p q a b r s c d : ℕ) → Side k p q a b → Side k r s c d → Side k (p * s + r * q) (q * s) (a * d + c * b) (b * d)
side_add k p q a b r s c d h g =
    le_trans (le_of_eq (eq p s r q b d (less ^ k)))
    (le_trans (add-le-add (mul-le-mul_right (s * d) h) (mul-le-mul_right (q * b) g)) (le_of_eq (eq' a d c b q s (fine ^ k))))
  where
    eq : (p s r q b d x : ℕ) → (p * s + r * q) * (b * d) * x ≡ p * b * x * (s * d) + r * d * x * (q * b)
    eq p s r q b d x = simp (mul_assoc, mul_comm, mul_left_comm, mul-add)

    eq' : (a d c b q s x : ℕ) → a * q * x * (s * d) + c * s * x * (q * b) ≡ (a * d + c * b) * (q * s) * x
    eq' a d c b q s x = simp (mul_assoc, mul_comm, mul_left_comm, mul-add)

pub side_trans : (i j p q a b c d : ℕ) → 0 < b → Side i p q a b → Side j a b c d → Side (i + j) p q c d
side_trans i j p q a b c d B h k =
    rw (pow-add less i j, pow-add fine i j)
    (le_of_mul-le-mul_right
    (le_trans (le_of_eq (e₁ p d b (less ^ i) (less ^ j)))
    (le_trans (mul-le-mul_right (d * less ^ j) h)
    (le_trans (le_of_eq (e₂ a q d (fine ^ i) (less ^ j)))
    (le_trans (mul-le-mul_right (q * fine ^ i) k) (le_of_eq (e₃ c b q (fine ^ i) (fine ^ j))))))) B)
  where
    e₁ : (p d b x y : ℕ) → p * d * (x * y) * b ≡ p * b * x * (d * y)
    e₁ p d b x y = simp (mul_assoc, mul_comm, mul_left_comm)

    e₂ : (a q d x y : ℕ) → a * q * x * (d * y) ≡ a * d * y * (q * x)
    e₂ a q d x y = simp (mul_assoc, mul_comm, mul_left_comm)

    e₃ : (c b q x y : ℕ) → c * b * y * (q * x) ≡ c * q * (x * y) * b
    e₃ c b q x y = simp (mul_assoc, mul_comm, mul_left_comm)

pub side_more : (k j p q a b : ℕ) → Side k p q a b → Side (k + j) p q a b
side_more k j p q a b h =
    rw (pow-add less k j, pow-add fine k j)
    (le_trans (le_of_eq (sym (mul_assoc (p * b) (less ^ k) (less ^ j))))
    (le_trans (mul-le-mul h (pow-le-pow_left less_fine j)) (le_of_eq (mul_assoc (a * q) (fine ^ k) (fine ^ j)))))

pub side_flip : (k p q a b : ℕ) → Side k p q a b → Side k b a q p
side_flip k p q a b h = simp mul_comm (simp mul_comm at h)

-- from p / q ≤ a / b, up to the factor, and a / b ≤ 2 ^ r: p / q ≤ 2 ^ (r + k)
pub side_range : (k r p q a b : ℕ) → 0 < b → Side k p q a b → a ≤ b * 2 ^ r → p ≤ q * 2 ^ (r + k)
side_range k r p q a b B h g =
    rw (pow-add 2 r k)
    (le_of_mul-le-mul_right
    (le_trans (le_of_eq (sym (mul_assoc p b (less ^ k))))
    (le_trans h
    (le_trans (mul-le-mul (mul-le-mul_right q g) (fine_pow_twice k)) (le_of_eq (eq b (2 ^ r) q (2 ^ k) (less ^ k))))))
    (mul-pos B (less_pow_pos k)))
  where
    eq : (b x q y z : ℕ) → b * x * q * (y * z) ≡ q * (x * y) * (b * z)
    eq b x q y z = simp (mul_assoc, mul_left_comm)

-- Both sides.
pub close_refl : (p q : ℕ) → Close 0 p q p q
unfolding fine less
close_refl p q = (le_refl _, le_refl _)

pub close_mul : (i j p q a b r s c d : ℕ) → Close i p q a b → Close j r s c d → Close (i + j) (p * r) (q * s) (a * c) (b * d)
close_mul i j p q a b r s c d h k = (side_mul i j p q a b r s c d h.0 k.0, side_mul i j a b p q c d r s h.1 k.1)

pub close_add : (k p q a b r s c d : ℕ) → Close k p q a b → Close k r s c d → Close k (p * s + r * q) (q * s) (a * d + c * b) (b * d)
close_add k p q a b r s c d h g = (side_add k p q a b r s c d h.0 g.0, side_add k a b p q c d r s h.1 g.1)

pub close_trans : (i j p q a b c d : ℕ) → 0 < b → Close i p q a b → Close j a b c d → Close (i + j) p q c d
close_trans i j p q a b c d B h k = (side_trans i j p q a b c d B h.0 k.0, swap (side_trans j i c d a b p q B k.1 h.1))
  where
    swap : Side (j + i) c d p q → Side (i + j) c d p q
    swap h = rw (native.Mathlib.Nat.add_comm i j) h

pub close_more : (k j p q a b : ℕ) → Close k p q a b → Close (k + j) p q a b
close_more k j p q a b h = (side_more k j p q a b h.0, side_more k j a b p q h.1)

-- one over each
pub close_flip : (k p q a b : ℕ) → Close k p q a b → Close k q p b a
close_flip k p q a b h = (side_flip k a b p q h.1, side_flip k p q a b h.0)
