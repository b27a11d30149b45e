-- `Sound` through each operation. Assumes nothing.
use mathlib.Core.Path.{◌≡◌, refl, sym, ap, ◌∙◌, subst}
use mathlib.Core.Logic.{◌⊎◌, inl, inr}
use Prim.Native.Nat.{ℕ, zero, suc, ◌+◌, ◌-◌, ◌*◌, ◌^◌, ◌≤◌, ◌<◌}
use native.Mathlib.Nat.{le_trans, le_of_eq, one-mul, mul_comm, mul_assoc, mul_left_comm, mul-add, add-le-add, zero-mul, mul-zero, mul-le-mul, mul-le-mul_left, mul-le-mul_right, mul-pos, add-sub_of_le, le-add_right, le-add_left}
use native.Mathlib.Omega.{arith}
use lib.Dec.{lit<}
use lib.IntN.{pos}
use lib.Ieee.{Float, binary64, add, mul, div, of_int}
use lib.Ieee.Fits.{add-fits, mul-fits, div-fits, of_int-fits}
use Rattle.nearness.specs.Ratio.{Ratio, whole, times, over, plus}
use Rattle.nearness.specs.Near.{Near, Sound}
use Rattle.nearness.proofs.Ops.{Safe, near_mul, near_add, near_div, near_int, near_more}

-- How large: products, quotients and sums of fractions from 1/B to B.
abbrev Least : ℕ → ℕ → ℕ → Type 0
Least B a b = (a ≡ 0) ⊎ (b ≤ a * B)

shuffle : (b x d y : ℕ) → b * x * (d * y) ≡ b * d * (x * y)
shuffle b x d y = simp (mul_assoc, mul_left_comm)

most_mul : (B C a b c d : ℕ) → a ≤ b * B → c ≤ d * C → a * c ≤ b * d * (B * C)
most_mul B C a b c d h k = le_trans (mul-le-mul h k) (le_of_eq (shuffle b B d C))

least_mul : (B C a b c d : ℕ) → Least B a b → Least C c d → Least (B * C) (a * c) (b * d)
least_mul B C a b c d (inl z) k = inl (ap (λ (y : ℕ). y * c) z ∙ zero-mul c)
least_mul B C a b c d (inr h) (inl z) = inl (ap (λ (y : ℕ). a * y) z ∙ mul-zero a)
least_mul B C a b c d (inr h) (inr k) = inr (le_trans (mul-le-mul h k) (le_of_eq (shuffle a B c C)))

most_add : (B C a b c d : ℕ) → a ≤ b * B → c ≤ d * C → a * d + c * b ≤ b * d * (B + C)
most_add B C a b c d h k = le_trans (add-le-add (mul-le-mul_right d h) (mul-le-mul_right b k)) (le_of_eq eq)
  where
    eq : b * B * d + d * C * b ≡ b * d * (B + C)
    eq = simp (mul-add, mul_assoc, mul_comm, mul_left_comm)

least_add : (B C a b c d : ℕ) → Least B a b → Least C c d → Least (B + C) (a * d + c * b) (b * d)
least_add B C a b c d (inr h) k =
    inr (le_trans (mul-le-mul_right d h) (le_trans (le_of_eq (swap a B d)) (mul-le-mul (le-add_right (a * d) (c * b)) (le-add_right B C))))
  where
    swap : (a x d : ℕ) → a * x * d ≡ a * d * x
    swap a x d = simp (mul_assoc, mul_comm)
least_add B C a b c d (inl z) (inr k) =
    inr (le_trans (mul-le-mul_left b k) (le_trans (le_of_eq (swap b c C)) (mul-le-mul (le-add_left (c * b) (a * d)) (le-add_left C B))))
  where
    swap : (b c x : ℕ) → b * (c * x) ≡ c * b * x
    swap b c x = simp (mul_assoc, mul_comm)
least_add B C a b c d (inl z) (inl y) = inl (ap (λ (x : ℕ). x * d + c * b) z ∙ ap (λ (x : ℕ). 0 * d + x * b) y ∙ simp zero-mul)

safe : (B a b : ℕ) → B ≤ 2 ^ 400 → a ≤ b * B → Least B a b → Safe 400 a b
safe B a b h m (inl z) = (le_trans m (mul-le-mul_left b h), inl z)
safe B a b h m (inr l) = (le_trans m (mul-le-mul_left b h), inr (le_trans l (mul-le-mul_left a h)))

room : {k : ℕ} → k ≤ 100 → 400 + k ≤ 999
room h = omega arith

-- The operations.
pub sound_whole : (n B : ℕ) → n ≤ 2 ^ 53 → n ≤ B → 0 < B → Sound (of_int binary64 (pos n)) 0 B (whole n)
unfolding whole
sound_whole n B h k p = record { holds = of_int-fits binary64 (pos n); divides = lit< tt; near = near_int n h; most = le_trans k (le_of_eq (sym (one-mul B))); least = go n }
  where
    go : (n : ℕ) → Least B n 1
    go zero = inl refl
    go (suc n) = inr (mul-pos (native.Mathlib.Nat.zero-lt-suc n) p)

pub sound_times : {x y : Float} {i j B C : ℕ} {v w : Ratio} → Sound x i B v → Sound y j C w → B * C ≤ 2 ^ 400 → i + j ≤ 100
    → Sound (mul binary64 x y) (1 + (i + j)) (B * C) (times v w)
unfolding times
sound_times {x} {y} {i} {j} {B} {C} {v} {w} s t L K =
    let m = most_mul B C v.top v.bottom w.top w.bottom s.most t.most in
    let l = least_mul B C v.top v.bottom w.top w.bottom s.least t.least in
    record {
      holds = mul-fits binary64 x y;
      divides = mul-pos s.divides t.divides;
      near = near_mul x y i j 400 v.top v.bottom w.top w.bottom s.divides t.divides s.near t.near (safe (B * C) (v.top * w.top) (v.bottom * w.bottom) L m l) (room K);
      most = m;
      least = l;
    }

pub sound_over : {x y : Float} {i j B C : ℕ} {v w : Ratio} → Sound x i B v → Sound y j C w → 0 < w.top → B * C ≤ 2 ^ 400 → i + j ≤ 100
    → Sound (div binary64 x y) (1 + (i + j)) (B * C) (over v w)
unfolding over
sound_over {x} {y} {i} {j} {B} {C} {v} {w} s t W L K =
    let m = most_mul B C v.top v.bottom w.bottom w.top s.most (reach t.least) in
    let l = least_mul B C v.top v.bottom w.bottom w.top s.least (inr t.most) in
    record {
      holds = div-fits binary64 x y;
      divides = mul-pos s.divides W;
      near = near_div x y i j 400 v.top v.bottom w.top w.bottom s.divides W s.near t.near (safe (B * C) (v.top * w.bottom) (v.bottom * w.top) L m l) (room K);
      most = m;
      least = l;
    }
  where
    reach : Least C w.top w.bottom → w.bottom ≤ w.top * C
    reach (inl z) = absurd (native.Mathlib.Nat.lt_irrefl 0 (subst (λ (q : ℕ). 0 < q) z W))
    reach (inr h) = h

pub sound_plus : {x y : Float} {k B C : ℕ} {v w : Ratio} → Sound x k B v → Sound y k C w → B + C ≤ 2 ^ 400 → k ≤ 100
    → Sound (add binary64 x y) (1 + k) (B + C) (plus v w)
unfolding plus
sound_plus {x} {y} {k} {B} {C} {v} {w} s t L K =
    let m = most_add B C v.top v.bottom w.top w.bottom s.most t.most in
    let l = least_add B C v.top v.bottom w.top w.bottom s.least t.least in
    record {
      holds = add-fits binary64 x y;
      divides = mul-pos s.divides t.divides;
      near = near_add x y k 400 v.top v.bottom w.top w.bottom s.divides t.divides s.near t.near (safe (B + C) (v.top * w.bottom + w.top * v.bottom) (v.bottom * w.bottom) L m l) (room K);
      most = m;
      least = l;
    }

-- More roundings, and a wider range.
pub sound_more : {x : Float} {i B C k : ℕ} {v : Ratio} → Sound x i B v → i ≤ k → B ≤ C → Sound x k C v
sound_more {x} {i} {B} {C} {k} {v} s h g =
    record {
      holds = s.holds;
      divides = s.divides;
      near = subst (λ (z : ℕ). Near x z v.top v.bottom) (add-sub_of_le h) (near_more x i (k - i) v.top v.bottom s.near);
      most = le_trans s.most (mul-le-mul_left v.bottom g);
      least = go s.least;
    }
  where
    go : Least B v.top v.bottom → Least C v.top v.bottom
    go (inl z) = inl z
    go (inr l) = inr (le_trans l (mul-le-mul_left v.top g))

-- A narrower range, known otherwise.
pub sound_within : {x : Float} {k B C : ℕ} {v : Ratio} → Sound x k B v → v.top ≤ v.bottom * C → v.bottom ≤ v.top * C → Sound x k C v
sound_within s m l = record { holds = s.holds; divides = s.divides; near = s.near; most = m; least = inr l }
