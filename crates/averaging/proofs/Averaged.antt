-- The averages in floats lie near the exact ones. Assumes nothing.
use mathlib.Core.Path.{◌≡◌, refl, subst, subst⁻¹}
use mathlib.Core.Bool.{true, false, true≢false}
use mathlib.Core.List.{List}
use Prim.Native.Nat.{ℕ, suc, ◌+◌, ◌*◌, ◌^◌, ◌≤◌}
use borrow.Author.Tests.{lt-ltb}
use lib.Dec.{lit≤, lit<}
use lib.ListN.{length}
use lib.Ieee.{Float, nan, inf, fin, binary64, up, down, of_bits, mul, div}
use Rattle.std.specs.Prelude.{IsSome}
use Rattle.refusal.specs.Choice.{pick}
use Rattle.nearness.specs.Ratio.{Ratio, whole, over}
use Rattle.nearness.specs.Near.{Sound}
use Rattle.nearness.proofs.Carried.{sound_whole, sound_over, sound_times, sound_more}
use Rattle.nearness.proofs.Bound.{Below, sound_approximates, sound_below}
use Rattle.vehicle.specs.declared.Conditions.{Conditions}
use Rattle.vehicle.specs.declared.Gases.{Gases}
use Rattle.window.specs.declared.Counts.{Counts}
use Rattle.averaging.specs.Exact.{hc_in, co_in, no_in, exact_k, exact_sum, exact_averages}
use Rattle.averaging.specs.Answers.{Answers, AllNear}
use Rattle.averaging.specs.Decimals.{billionths}
use Rattle.averaging.specs.Sums.{SumSound, SumsSound}
use Rattle.averaging.proofs.Literals.{ten_is}

-- A tenth of a sum.
abbrev pub tenth : Float → Float
tenth x = div binary64 x (of_bits binary64 4621819117588971520)

average_sound :
    (count : Counts → ℕ) (l : List Counts) (x : Float) →
    length l ≡ 10 →
    SumSound count l x →
    Sound (tenth x) 13 (2 ^ 26) (over (exact_sum count l) (whole 10))
unfolding whole
average_sound count l x ten h =
    subst⁻¹ (λ (y : Float). Sound (div binary64 x y) 13 (2 ^ 26) (over (exact_sum count l) (whole 10))) ten_is
    (sound_more
    (sound_over (subst (λ (n : ℕ). Sound x (2 + n) (2 ^ 18 * suc n) (exact_sum count l)) ten h) (sound_whole 10 16 (lit≤ tt) (lit≤ tt) (lit< tt)) (lit< tt) (lit≤ tt) (lit≤ tt))
    (lit≤ tt) (lit≤ tt))

-- A float below 2^34 has its digits.
has_digits : (x : Float) → Below (2 ^ 34) x → IsSome (billionths x)
unfolding billionths pick
has_digits nan h = absurd h
has_digits (inf s) h = absurd h
has_digits (fin true m e) h = absurd (true≢false h.0)
has_digits (fin false m e) h = rw (lt-ltb (m * up e) (2 ^ 34 * down e) h.1) refl

-- What is answered for an average that is at most 15 roundings away.
answers : {x : Float} {k : ℕ} {v : Ratio} → Sound x k (2 ^ 29) v → k ≤ 100 → Answers v x
answers {x} s h = record { near = sound_approximates s h; digits = has_digits x (sound_below (2 ^ 34) s h (lit< tt)) }

pub all_near :
    (x : Conditions) (l : List Counts) (sums : Gases Float) (k : Float) →
    length l ≡ 10 →
    SumsSound l sums →
    Sound k 1 8 (exact_k x) →
    AllNear (exact_averages x l)
    (record { hc = tenth sums.hc; co = tenth sums.co; no = mul binary64 (tenth sums.no) k })
unfolding exact_averages
all_near x l sums k ten h s =
    record {
      hc = answers {k = 13} (sound_more (average_sound hc_in l sums.hc ten h.hc) (lit≤ tt) (lit≤ tt)) (lit≤ tt);
      co = answers {k = 13} (sound_more (average_sound co_in l sums.co ten h.co) (lit≤ tt) (lit≤ tt)) (lit≤ tt);
      nitric = answers (sound_times (average_sound no_in l sums.no ten h.nitric) s (lit≤ tt) (lit≤ tt)) (lit≤ tt);
    }
