-- A window's sum in floats, second by second. Assumes nothing.
use Prim.Native.Nat.{ℕ, suc, ◌+◌, ◌-◌, ◌*◌, ◌^◌, ◌≤◌, ◌<◌}
use mathlib.Core.Path.{◌≡◌, refl, subst, subst⁻¹, sym, ◌∙◌}
use mathlib.Core.List.{List, [], ◌∷◌}
use native.Mathlib.Nat.{le_trans, le_of_eq, mul-le-mul_left, mul-suc, add_comm}
use native.Mathlib.Omega.{arith}
use lib.Dec.{lit≤, lit<}
use lib.IntN.{pos}
use lib.ListN.{length, drop, get_or, length-drop, drop_of_length-le}
use lib.Seq.{drop-cons}
use lib.Ieee.{Float, binary64, of_bits, of_int, add, mul}
use Rattle.nearness.specs.Ratio.{Ratio, whole, times, plus}
use Rattle.nearness.specs.Near.{Sound}
use Rattle.nearness.proofs.Carried.{sound_whole, sound_times, sound_plus, sound_more}
use Rattle.vehicle.specs.declared.Gases.{Gases}
use Rattle.window.specs.declared.Counts.{Counts}
use Rattle.averaging.specs.Exact.{exact_dcf, hc_in, co_in, no_in, exact_sum}
use Rattle.averaging.specs.Sums.{SumsSound}

zero_is : of_bits binary64 0 ≡ of_int binary64 (pos 0)
unfolding of_bits of_int
zero_is = refl

zero_sound : Sound (of_bits binary64 0) 2 (2 ^ 18 * 1) (whole 0)
zero_sound = subst⁻¹ (λ (x : Float). Sound x 2 (2 ^ 18 * 1) (whole 0)) zero_is (sound_more (sound_whole 0 (2 ^ 18) (lit≤ tt) (lit≤ tt) (lit< tt)) (lit≤ tt) (lit≤ tt))

-- A count times DCF, and the sum so far.
abbrev with_one : ℕ → Float → Float → Float
with_one count dcf x = add binary64 (mul binary64 (of_int binary64 (pos count)) dcf) x

-- A sum over n seconds and the product of one more.
pub one_more :
    (count n : ℕ) (dcf x : Float) (q r : Ratio) →
    count ≤ 2 ^ 16 →
    n ≤ 9 →
    Sound dcf 1 4 q →
    Sound x (2 + n) (2 ^ 18 * suc n) r →
    Sound (with_one count dcf x) (2 + suc n) (2 ^ 18 * suc (suc n)) (plus (times (whole count) q) r)
one_more count n dcf x q r C N d h =
    let p = sound_times (sound_whole count (2 ^ 16) (le_trans C (lit≤ tt)) C (lit< tt)) d (lit≤ tt) (lit≤ tt) in
    let m = sound_more p two (lit≤ tt) in
    subst (λ (k : ℕ). Sound (with_one count dcf x) k (2 ^ 18 * suc (suc n)) (plus (times (whole count) q) r)) rounds
    (subst (λ (B : ℕ). Sound (with_one count dcf x) (1 + (2 + n)) B (plus (times (whole count) q) r)) bound
    (sound_plus m h (le_trans (le_of_eq bound) (le_trans (mul-le-mul_left (2 ^ 18) most) (lit≤ tt))) room))
  where
    rounds : 1 + (2 + n) ≡ 2 + suc n
    rounds = omega arith

    two : 2 ≤ 2 + n
    two = omega arith

    room : 2 + n ≤ 100
    room = omega arith

    most : suc (suc n) ≤ 11
    most = omega arith

    bound : 2 ^ 18 + 2 ^ 18 * suc n ≡ 2 ^ 18 * suc (suc n)
    bound = add_comm (2 ^ 18) _ ∙ sym (mul-suc (2 ^ 18) (suc n))

-- The sums of a window's seconds.
pub second_more :
    (c : Counts) (l : List Counts) (dcf : Float) (x : Gases Float) →
    c.hc ≤ 2 ^ 16 →
    c.co.0 ≤ 2 ^ 16 →
    c.no ≤ 2 ^ 16 →
    length l ≤ 9 →
    Sound dcf 1 4 (exact_dcf c) →
    SumsSound l x →
    SumsSound (c ∷ l) (record { hc = with_one c.hc dcf x.hc; co = with_one c.co.0 dcf x.co; no = with_one c.no dcf x.no })
unfolding exact_sum
second_more c l dcf x hc co nitric n d h =
    record {
      hc = one_more c.hc (length l) dcf x.hc (exact_dcf c) (exact_sum hc_in l) hc n d h.hc;
      co = one_more c.co.0 (length l) dcf x.co (exact_dcf c) (exact_sum co_in l) co n d h.co;
      nitric = one_more c.no (length l) dcf x.no (exact_dcf c) (exact_sum no_in l) nitric n d h.nitric;
    }

-- Of no second: 0.0 each.
abbrev pub zeros : Gases Float
zeros = record { hc = of_bits binary64 0; co = of_bits binary64 0; no = of_bits binary64 0 }

none_sound : SumsSound [] zeros
unfolding exact_sum
none_sound = record { hc = zero_sound; co = zero_sound; nitric = zero_sound }

module _ (w : List Counts) (ten : length w ≡ 10) where
  -- From the tenth on there is no second.
  pub start_sound : SumsSound (drop 10 w) zeros
  start_sound = subst⁻¹ (λ (l : List Counts). SumsSound l zeros) (drop_of_length-le w {i = 10} (omega arith)) none_sound

  -- From the one before the i-th on.
  pub before_sound :
      (i : ℕ) (d : Counts) (x y : Gases Float) →
      0 < i →
      i ≤ 10 →
      ((l : List Counts) → length l ≤ 9 → SumsSound l x → SumsSound (get_or w (i - 1) d ∷ l) y) →
      SumsSound (drop i w) x →
      SumsSound (drop (i - 1) w) y
  before_sound i d x y p h more s =
      subst⁻¹ (λ (l : List Counts). SumsSound l y) (drop-cons w (i - 1) d (omega arith))
      (more (drop (suc (i - 1)) w) (le_trans (le_of_eq (length-drop (suc (i - 1)) w)) (omega arith))
      (subst (λ (n : ℕ). SumsSound (drop n w) x) same s))
    where
      same : i ≡ suc (i - 1)
      same = omega arith
