-- The billionths of a float from the fields of its pattern. Assumes nothing.
use mathlib.Core.Path.{◌≡◌, refl, sym, ap, subst, ◌∙◌}
use mathlib.Core.Bool.{Bool, true, false, true≢false, cond}
use Prim.Native.Nat.{ℕ, zero, suc, ◌+◌, ◌-◌, ◌*◌, ◌/◌, ◌%◌, ◌^◌, ◌≤◌, ◌<◌}
use native.Mathlib.Nat.{le_trans, le_of_eq, lt_of_lt_of_le, mul_comm, mul_assoc, mul_right_comm, mul-le-mul, mul-le-mul_left, lt_of_mul-lt-mul_right, mul-lt-mul_of_pos_right, eq_of_mul-eq-mul_right, div-eq_of_lt, div-lt_iff_lt-mul}
use native.Mathlib.Omega.{arith}
use borrow.Author.Tests.{ltb-true, lt-ltb, le-ltb, ne_eqb, lt-leb, leb-false}
use lib.Dec.{ltb, leb, eqb, lit≤}
use lib.Pow.{pow-add, pow_pos, pow_mono}
use lib.Ieee.{Float, nan, inf, fin, binary64, up, down, odd, of_fields, of_bits, ne}
use lib.Ieee.Compare.{differs_from_itself}
use lib.Ieee.Exact.{HasValue, odd_sign}
use lib.Ieee.Fits.{down_pos}
use lib.Ieee.Nearest.{div_same}
use Rattle.std.specs.Prelude.{Some, None}
use Rattle.refusal.specs.Choice.{pick}
use Rattle.averaging.specs.Decimals.{billionths}

-- Equal fractions are below the same number.
below : (a c b d k : ℕ) → 0 < c → 0 < d → a * d ≡ b * c → b < k * d → a < k * c
below a c b d k C D e h =
    lt_of_mul-lt-mul_right d
    (lt_of_lt_of_le (subst (λ (n : ℕ). n < k * d * c) (sym e) (mul-lt-mul_of_pos_right h C)) (le_of_eq (mul_right_comm k d c)))

below_same : (a c b d k : ℕ) → 0 < c → 0 < d → a * d ≡ b * c → ltb a (k * c) ≡ ltb b (k * d)
below_same a c b d k C D e = go (ltb b (k * d)) (ltb a (k * c)) refl refl
  where
    go : (t r : Bool) → ltb b (k * d) ≡ t → ltb a (k * c) ≡ r → r ≡ t
    go true true h g = refl
    go false false h g = refl
    go true false h g = sym (sym (lt-ltb _ _ (below a c b d k C D e (ltb-true _ _ h))) ∙ g)
    go false true h g = sym (lt-ltb _ _ (below b d a c k D C (sym e) (ltb-true _ _ g))) ∙ h

-- Of a value a/c.
of_value : (x : Float) (a c : ℕ) → 0 < c → HasValue x false a c → billionths x ≡ pick (ltb a (2 ^ 34 * c)) (Some (a * 10 ^ 9 / c)) None
unfolding billionths
of_value nan a c C v = absurd v
of_value (inf s) a c C v = absurd v
of_value (fin true m e) a c C v = absurd (true≢false v.0)
of_value (fin false m e) a c C v =
    ap (λ (t : Bool). pick t (Some (m * up e * 10 ^ 9 / down e)) None) (below_same (m * up e) (down e) a c (2 ^ 34) (down_pos e) C v.1) ∙
    ap (λ (n : ℕ). pick (ltb a (2 ^ 34 * c)) (Some n) None)
    (div_same (m * up e * 10 ^ 9) (down e) (a * 10 ^ 9) c (down_pos e) C
    (mul_right_comm (m * up e) (10 ^ 9) c ∙ ap (λ (n : ℕ). n * 10 ^ 9) v.1 ∙ mul_right_comm a (down e) (10 ^ 9)))

-- A number with its sign has none.
negative : (x : Float) (a c : ℕ) → HasValue x true a c → billionths x ≡ None
unfolding billionths
negative nan a c v = absurd v
negative (inf s) a c v = absurd v
negative (fin true m e) a c v = refl
negative (fin false m e) a c v = absurd (true≢false (sym v.0))

-- The value q·2^k/2^l, where k + j is l.
reduced : (x : Float) (s : Bool) (q k j l : ℕ) → k + j ≡ l → HasValue x s (q * 2 ^ k) (2 ^ l) → HasValue x s q (2 ^ j)
reduced nan s q k j l e v = absurd v
reduced (inf t) s q k j l e v = absurd v
reduced (fin t m d) s q k j l e v = (
  v.0,
  eq_of_mul-eq-mul_right (2 ^ k) (pow_pos k) (m * up d * 2 ^ j) (q * down d)
      (mul_assoc (m * up d) (2 ^ j) (2 ^ k) ∙
      ap (λ (n : ℕ). m * up d * n) (mul_comm (2 ^ j) (2 ^ k) ∙ sym (pow-add 2 k j) ∙ ap (λ (n : ℕ). 2 ^ n) e) ∙
      v.1 ∙
      mul_right_comm q (2 ^ k) (down d)),
)

-- Below 2^34 there are billionths.
some_of : (x : Float) (q j : ℕ) → HasValue x false q (2 ^ j) → q < 2 ^ 53 → 19 ≤ j → billionths x ≡ Some (q * 10 ^ 9 / 2 ^ j)
unfolding pick
some_of x q j v h g =
    of_value x q (2 ^ j) (pow_pos j) v ∙
    rw (lt-ltb q (2 ^ 34 * 2 ^ j) (lt_of_lt_of_le h (mul-le-mul_left (2 ^ 34) (pow_mono {i = 19} {j = j} g)))) refl

nought : (q j : ℕ) → q < 2 ^ 53 → 84 ≤ j → q * 10 ^ 9 / 2 ^ j ≡ 0
nought q j h g = div-eq_of_lt (lt_of_lt_of_le small (pow_mono {i = 84} {j = j} g))
  where
    small : q * 10 ^ 9 < 2 ^ 84
    small = omega arith

-- By the exponent's field: below a billionth,
small_field : (f t : ℕ) → f < 992 → t < 2 ^ 52 → billionths (of_fields binary64 false f t) ≡ Some 0
unfolding of_fields
small_field zero t h k =
    some_of _ t 1074 (reduced _ false t 0 1074 1074 refl (odd_sign 53 false t 0 1074)) (omega arith) (lit≤ tt) ∙
    ap Some (nought t 1074 (omega arith) (lit≤ tt))
small_field (suc x) t h k =
    rw (ne_eqb (suc x) 2047 (λ e. omega arith))
    (some_of _ (2 ^ 52 + t) (1074 - x) (reduced _ false (2 ^ 52 + t) x (1074 - x) 1074 (omega arith) (odd_sign 53 false (2 ^ 52 + t) x 1074)) (omega arith) (omega arith) ∙
    ap Some (nought (2 ^ 52 + t) (1074 - x) (omega arith) (omega arith)))

-- a shift,
near_field :
    (f t : ℕ) → 992 ≤ f → f < 1057 → t < 2 ^ 52 → billionths (of_fields binary64 false f t) ≡ Some ((2 ^ 52 + t) * 10 ^ 9 / 2 ^ (1075 - f))
unfolding of_fields
near_field zero t g h k = absurd (omega arith)
near_field (suc x) t g h k =
    rw (ne_eqb (suc x) 2047 (λ e. omega arith))
    (some_of _ (2 ^ 52 + t) (1075 - suc x) (reduced _ false (2 ^ 52 + t) x (1075 - suc x) 1074 (omega arith) (odd_sign 53 false (2 ^ 52 + t) x 1074)) (omega arith) (omega arith))

-- An infinity and no number have none.
number_alone : (ones whole sign : Bool) (y : Float) → billionths y ≡ None → billionths (cond ones (cond whole (inf sign) nan) y) ≡ None
unfolding billionths
number_alone true true sign y h = refl
number_alone true false sign y h = refl
number_alone false whole sign y h = h

-- from 2^34 on.
far_field : (f t : ℕ) → 1057 ≤ f → billionths (of_fields binary64 false f t) ≡ None
unfolding of_fields pick
far_field zero t g = absurd (omega arith)
far_field (suc x) t g =
    number_alone (eqb (suc x) 2047) (eqb t 0) false (odd 53 false (2 ^ 52 + t) x 1074)
    (of_value _ ((2 ^ 52 + t) * 2 ^ x) (2 ^ 1074) (pow_pos 1074) (odd_sign 53 false (2 ^ 52 + t) x 1074) ∙
    rw (le-ltb ((2 ^ 52 + t) * 2 ^ x) (2 ^ 34 * 2 ^ 1074) (le_trans (lit≤ tt) (mul-le-mul {n₁ = 2 ^ 52} {m₁ = 2 ^ 1056} {n₂ = 2 ^ 52 + t} {m₂ = 2 ^ x} (omega arith) (pow_mono {i = 1056} {j = x} (omega arith))))) refl)

-- With the sign.
negative_field : (f t : ℕ) → billionths (of_fields binary64 true f t) ≡ None
unfolding of_fields
negative_field zero t = negative _ (t * 2 ^ 0) (2 ^ 1074) (odd_sign 53 true t 0 1074)
negative_field (suc x) t =
    number_alone (eqb (suc x) 2047) (eqb t 0) true (odd 53 true (2 ^ 52 + t) x 1074)
    (negative _ ((2 ^ 52 + t) * 2 ^ x) (2 ^ 1074) (odd_sign 53 true (2 ^ 52 + t) x 1074))

-- The pattern's fields.
fields : (b : ℕ) → of_bits binary64 b ≡ of_fields binary64 (leb 9223372036854775808 b) (b % 9223372036854775808 / 4503599627370496) (b % 4503599627370496)
unfolding of_bits
fields b = refl

plain_fields : (b : ℕ) → b < 9223372036854775808 → of_bits binary64 b ≡ of_fields binary64 false (b / 4503599627370496) (b % 4503599627370496)
plain_fields b h =
    let e : b % 9223372036854775808 ≡ b = omega arith in
    fields b ∙ rw (lt-leb 9223372036854775808 b (omega arith), e) refl

-- From the pattern: 4760304806130614272 is that of 2^34.
pub small_bits : (b : ℕ) → b < 4760304806130614272 → b / 4503599627370496 < 992 → Some 0 ≡ billionths (of_bits binary64 b)
small_bits b h g =
    sym (rw (plain_fields b (omega arith)) (small_field (b / 4503599627370496) (b % 4503599627370496) g (omega arith)))

pub near_bits :
    (b : ℕ) →
    b < 4760304806130614272 →
    992 ≤ b / 4503599627370496 →
    Some ((4503599627370496 + b % 4503599627370496) * 10 ^ 9 / 2 ^ (1075 - b / 4503599627370496)) ≡ billionths (of_bits binary64 b)
near_bits b h g =
    sym (rw (plain_fields b (omega arith)) (near_field (b / 4503599627370496) (b % 4503599627370496) g (omega arith) (omega arith)))

pub far_bits : (b : ℕ) → 4760304806130614272 ≤ b → billionths (of_bits binary64 b) ≡ None
far_bits b h = go (leb 9223372036854775808 b) refl
  where
    go : (t : Bool) → leb 9223372036854775808 b ≡ t → billionths (of_bits binary64 b) ≡ None
    go true e = rw (fields b, e) (negative_field (b % 9223372036854775808 / 4503599627370496) (b % 4503599627370496))
    go false e =
        let l : b < 9223372036854775808 = leb-false 9223372036854775808 b e in
        rw (plain_fields b l) (far_field (b / 4503599627370496) (b % 4503599627370496) (omega arith))

-- The quotient fits 64 bits.
pub near_fits : (a f : ℕ) → a < 4503599627370496 → f < 1057 → (4503599627370496 + a) * 10 ^ 9 / 2 ^ (1075 - f) < 2 ^ 64
near_fits a f h g =
    (div-lt_iff_lt-mul (pow_pos (1075 - f))).1
    (lt_of_lt_of_le small (mul-le-mul_left (2 ^ 64) (pow_mono {i = 19} {j = 1075 - f} (omega arith))))
  where
    small : (4503599627370496 + a) * 10 ^ 9 < 2 ^ 64 * 2 ^ 19
    small = omega arith

-- Only no number differs from itself.
pub none_nan : (x : Float) → ne x x ≡ true → billionths x ≡ None
unfolding billionths
none_nan x e = rw (differs_from_itself x (rw e tt)) refl
