-- A number in decimal reads back as it. Assumes nothing.
use mathlib.Core.Path.{◌≡◌, refl, sym, ap, subst, ◌∙◌}
use mathlib.Core.List.{List, [], ◌∷◌, ◌++◌}
use Prim.Native.Nat.{ℕ, zero, suc, ◌+◌, ◌/◌, ◌%◌, ◌^◌, ◌<◌}
use native.Mathlib.Nat.{pow-suc}
use native.Mathlib.Omega.{arith}
use lib.ListN.{length}
use Rattle.std.proofs.Common.{rules}
use Rattle.std.proofs.lemmas.Fmt.{decimal_digit, digits_decimal, digits_value-decimal}
use Rattle.std.proofs.lemmas.List.{length-append}
use Rattle.std.proofs.lemmas.Str.Parse.{IsNumeralModel, numerals_by_fold}
use Rattle.std.specs.Fmt.{decimal}
use Rattle.rejudging.specs.Laws.{AllDigits, read_after}
use Rattle.rejudging.proofs.Spelling.{digits_behind, read_behind}
use Rattle.averaging.specs.Decimals.{places, decimal_text}
use Rattle.averaging.specs.Printing.{InDecimal}

own : IsNumeralModel AllDigits (read_after 0)
own = numerals_by_fold _ (search rules) read_after (search rules)

-- The last of several places is a digit.
one_behind : (k n : ℕ) → places (suc k) n ≡ places k (n / 10) ++ ((48 + n % 10) ∷ [])
unfolding places
one_behind k n = ap (λ (l : List ℕ). places k (n / 10) ++ l) (decimal_digit (n % 10) (omega arith))

places_digits : (k n : ℕ) → AllDigits (places k n)
unfolding places
places_digits zero n = tt
places_digits (suc k) n =
    subst AllDigits (sym (one_behind k n))
    (digits_behind (places k (n / 10)) (48 + n % 10) (omega arith) (omega arith) (places_digits k (n / 10)))

places_length : (k n : ℕ) → length (places k n) ≡ k
unfolding places
places_length zero n = refl
places_length (suc k) n =
    ap length (one_behind k n) ∙
    length-append (places k (n / 10)) ((48 + n % 10) ∷ []) ∙
    ap (λ (l : ℕ). l + 1) (places_length k (n / 10)) ∙
    one k
  where
    one : (k : ℕ) → k + 1 ≡ suc k
    one k = omega arith

-- A number below 10^k is read back from k places.
places_read : (k n : ℕ) → n < 10 ^ k → read_after 0 (places k n) ≡ n
unfolding places
places_read zero n h = let e : n < 1 = h in omega arith
places_read (suc k) n h =
    ap (read_after 0) (one_behind k n) ∙
    read_behind 0 (places k (n / 10)) (48 + n % 10) ∙
    (let e = places_read k (n / 10) (omega (arith, pow-suc 10 k)) in omega arith)

pub in_decimal : (n : ℕ) → n < 2 ^ 64 → InDecimal n (decimal_text n)
unfolding decimal_text
in_decimal n h =
    let small : n / 10 ^ 9 < 2 ^ 64 = omega arith in
    record {
      front = decimal (n / 10 ^ 9);
      back = places 9 (n % 10 ^ 9);
      same = refl;
      front_digits = digits_decimal own (n / 10 ^ 9) small;
      back_digits = places_digits 9 (n % 10 ^ 9);
      nine = places_length 9 (n % 10 ^ 9);
      units = digits_value-decimal own (n / 10 ^ 9) small;
      rest = places_read 9 (n % 10 ^ 9) (omega arith);
    }
