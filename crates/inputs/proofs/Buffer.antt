-- The next bytes of the input in a buffer, and the numbers that stand in it. Assumes nothing.
use Rattle.std.proofs.Common.{◌≡◌, ℕ, zero, suc, ◌+◌, ◌*◌, ◌-◌, ◌<◌, ◌≤◌, List, [], ◌∷◌, ◌++◌, length, get_or, take, drop, replicate, Option, Some, None, Result, Ok, Err, refl, sym, ap, zero-add, ◌∙◌, arith}
use Rattle.std.specs.Prelude.{IfSome}
use Rattle.std.proofs.lemmas.List.{get_or-drop, drop-drop, drop_all, length-take, take-append-drop}
use Rattle.std.proofs.lemmas.Grind.{get_or_after_one}
use Rattle.inputs.specs.Inputs.{byte_of, bytes_of, short_of, long_of, Takes}

-- An entry of the first n bytes.
byte_in : (n i : ℕ) (xs : List ℕ) → i < n → get_or (bytes_of n xs) i 0 ≡ get_or xs i 0
unfolding bytes_of
byte_in zero i xs h = absurd (omega (arith, h))
byte_in (suc n) zero xs h = refl
byte_in (suc n) (suc i) xs h =
    let next : 1 + i ≡ suc i = omega arith in
    byte_in n i (drop 1 xs) (omega (arith, h)) ∙ get_or_after_one xs i 0 ∙ ap (λ k. get_or xs k 0) next

-- The byte so many behind a place.
behind : (at i : ℕ) (xs : List ℕ) → byte_of (drop i (drop at xs)) ≡ get_or xs (at + i) 0
behind at i xs = ap byte_of (drop-drop i at xs) ∙ get_or-drop (at + i) xs 0 0 ∙ ap (λ k. get_or xs k 0) (omega arith)

here : (at : ℕ) (xs : List ℕ) → byte_of (drop at xs) ≡ get_or xs at 0
here at xs = get_or-drop at xs 0 0 ∙ ap (λ k. get_or xs k 0) (omega arith)

-- A number of two bytes by its entries.
pub short_by : (at : ℕ) (xs : List ℕ) → get_or xs at 0 + 256 * get_or xs (at + 1) 0 ≡ short_of (drop at xs)
unfolding short_of
short_by at xs =
    sym (ap (λ k. k + 256 * byte_of (drop 1 (drop at xs))) (here at xs) ∙ ap (λ k. get_or xs at 0 + 256 * k) (behind at 1 xs))

pub long_by : (at : ℕ) (xs : List ℕ) → short_of (drop at xs) + 65536 * short_of (drop (at + 2) xs) ≡ long_of (drop at xs)
unfolding long_of
long_by at xs = ap (λ (l : List ℕ). short_of (drop at xs) + 65536 * short_of l) (sym (drop-drop 2 at xs))

pub short_in : (n at : ℕ) (xs : List ℕ) → at + 2 ≤ n → short_of (drop at (bytes_of n xs)) ≡ short_of (drop at xs)
short_in n at xs h =
    sym (short_by at (bytes_of n xs))
    ∙ ap (λ k. k + 256 * get_or (bytes_of n xs) (at + 1) 0) (byte_in n at xs (omega (arith, h)))
    ∙ ap (λ k. get_or xs at 0 + 256 * k) (byte_in n (at + 1) xs (omega (arith, h)))
    ∙ short_by at xs

pub long_in : (n at : ℕ) (xs : List ℕ) → at + 4 ≤ n → long_of (drop at (bytes_of n xs)) ≡ long_of (drop at xs)
long_in n at xs h =
    sym (long_by at (bytes_of n xs))
    ∙ ap (λ k. k + 65536 * short_of (drop (at + 2) (bytes_of n xs))) (short_in n at xs (omega (arith, h)))
    ∙ ap (λ k. short_of (drop at xs) + 65536 * k) (short_in n (at + 2) xs (omega (arith, h)))
    ∙ long_by at xs

none_known : (m : ℕ) → bytes_of m [] ≡ replicate m 0
unfolding bytes_of
none_known zero = refl
none_known (suc m) = ap (λ (l : List ℕ). 0 ∷ l) (none_known m)

-- What was read stands in front, zeros behind it where the input has ended.
pub known : (front ys : List ℕ) (m : ℕ) → (0 < m → ys ≡ []) → bytes_of (length front + m) (front ++ ys) ≡ front ++ replicate m 0
unfolding bytes_of
known [] ys zero h = refl
known [] ys (suc m) h =
    ap (λ k. bytes_of k ys) (zero-add (suc m)) ∙ ap (λ (l : List ℕ). bytes_of (suc m) l) (h (omega arith)) ∙ none_known (suc m)
known (x ∷ front) ys m h =
    let next : length (x ∷ front) + m ≡ suc (length front + m) = omega arith in
    ap (λ k. bytes_of k (x ∷ (front ++ ys))) next ∙ ap (λ (l : List ℕ). x ∷ l) (known front ys m h)

-- A buffer filled as far as the input goes, and zeros behind.
pub padded :
    (room n : ℕ) (old now : Option (List ℕ)) (into out : List ℕ) →
    length into ≡ room →
    n ≤ room →
    IfSome old (λ xs. (take n into ≡ take room xs) × (now ≡ Some (drop room xs))) →
    out ≡ take n into ++ replicate (length into - n) 0 →
    IfSome old (λ xs. (out ≡ bytes_of room xs) × (now ≡ Some (drop room xs)))
padded room n None now into out size le f o = tt
padded room n (Some xs) now into out size le f o =
    let count : length (take room xs) ≡ n = omega (arith, ap length f.0, length-take n into, size, le) in
    let whole : length (take room xs) + (room - n) ≡ room = omega (arith, count, le) in
    let end : 0 < room - n → drop room xs ≡ [] = λ more. drop_all room xs (omega (arith, count, length-take room xs, more)) in
    let all : bytes_of room xs ≡ take room xs ++ replicate (room - n) 0 =
    ap (λ k. bytes_of k xs) (sym whole)
    ∙ ap (λ (l : List ℕ). bytes_of (length (take room xs) + (room - n)) l) (sym (take-append-drop room xs))
    ∙ known (take room xs) (drop room xs) (room - n) end in
    let zeros : out ≡ take n into ++ replicate (room - n) 0 = o ∙ ap (λ k. take n into ++ replicate (k - n) 0) size in
    (zeros ∙ ap (λ (l : List ℕ). l ++ replicate (room - n) 0) f.0 ∙ sym all, f.1)

-- An answer made of the bytes taken.
pub taken : {A : Type 0} (n : ℕ) (of : List ℕ → A) (old new : Option (List ℕ)) (into : List ℕ) (v : A) →
    ((xs : List ℕ) → of (bytes_of n xs) ≡ of xs) →
    v ≡ of into →
    IfSome old (λ xs. (into ≡ bytes_of n xs) × (new ≡ Some (drop n xs))) →
    IfSome old (λ xs. (v ≡ of xs) × (new ≡ Some (drop n xs)))
taken n of None new into v agrees made h = tt
taken n of (Some xs) new into v agrees made h = (made ∙ ap of h.0 ∙ agrees xs, h.1)

-- An answer that was read of the bytes taken.
pub through : {A E : Type 0} (n : ℕ) (of : List ℕ → A) (old new after : Option (List ℕ)) (into part : List ℕ) (r : Result A E) →
    ((xs : List ℕ) → of (bytes_of n xs) ≡ of xs) →
    part ≡ into →
    Takes n of (Some part) r after →
    IfSome old (λ xs. (into ≡ bytes_of n xs) × (new ≡ Some (drop n xs))) →
    Takes n of old r new
through n of old new after into part (Ok v) agrees whole t h = taken n of old new into v agrees (t.0 ∙ ap of whole) h
through n of old new after into part (Err e) agrees whole t h = tt
