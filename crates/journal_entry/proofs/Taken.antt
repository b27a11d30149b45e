-- Numbers and yes-or-no bytes that are read are those that were spelt, and what was spelt is read again; and what is made of several.
-- Assumes nothing.
use Rattle.std.proofs.Common.{◌≡◌, ℕ, zero, suc, ◌+◌, ◌^◌, ◌<◌, ◌≤◌, Bool, true, false, cond, ltb, List, [], ◌∷◌, ◌++◌, length, take, drop, Result, Ok, Err, refl, sym, ap, subst, ◌∙◌, append_assoc, arith, inl, inr}
use Rattle.std.specs.Int.{Width, w16, w32, byte_len, from_le_bytes, to_le_bytes}
use Rattle.std.proofs.lemmas.Bool.{cases_lt, ltb-false, le-ltb}
use Rattle.std.proofs.lemmas.List.{take_at, drop_at, take-append-drop, length-append, length-take, get_or-drop, get_or-take, get_or_past}
use Rattle.std.proofs.lemmas.Nat.{le_bytes_2, le_bytes_4, from_le_bytes-to_le_bytes_2, from_le_bytes-to_le_bytes_4}
use Rattle.journal_entry.specs.declared.Fault.{Fault}
use Rattle.journal_entry.specs.declared.Fault.TheVariants.{Short}
use Rattle.journal_entry.specs.Claims.{IsBytes}
use Rattle.journal_entry.specs.Spelling.{short, long, yes_no_bytes}
use Rattle.journal_entry.specs.Reading.{◌>>=◌, byte_at, number_at, yes_no_at}

IsBytes-drop : (n : ℕ) (bytes : List ℕ) → IsBytes bytes → IsBytes (drop n bytes)
IsBytes-drop n bytes h i = rw get_or-drop (h (n + i))

IsBytes-take : (n : ℕ) (bytes : List ℕ) → IsBytes bytes → IsBytes (take n bytes)
IsBytes-take n bytes h i =
    elim (cases_lt i n) [
      | inl lt ↦ rw (get_or-take n bytes i 0 lt) (h i)
      | inr le ↦ rw (get_or_past (take n bytes) i 0 (omega (arith, length-take n bytes))) (omega arith)
    ]

IsBytes-rest : (b : ℕ) (bytes : List ℕ) → IsBytes (b ∷ bytes) → IsBytes bytes
IsBytes-rest b bytes h i = h (suc i)

-- What was taken from the front, as it is spelt, and what is left.
pub record Takes (bytes text rest : List ℕ) : Type 0 where
  pub parts : bytes ≡ text ++ rest
  pub rest_fits : IsBytes rest

pub both : {a x b y c : List ℕ} → Takes a x b → Takes b y c → Takes a (x ++ y) c
both {x = x} {y = y} {c = c} p q =
    record { parts = p.parts ∙ ap (λ (t : List ℕ). x ++ t) q.parts ∙ sym (append_assoc x y c); rest_fits = q.rest_fits }

pub nothing : {a : List ℕ} → IsBytes a → Takes a [] a
nothing fits = record { parts = refl; rest_fits = fits }

-- What is read is spelt so, and holds; what is spelt so and holds is read again, whatever follows it.
pub record Laws {A : Type 0} (read : List ℕ → Result (A × List ℕ) Fault) (spell : A → List ℕ) (Holds : A → Type 0) : Type 0 where
  pub takes : (bytes : List ℕ) (x : A × List ℕ) → IsBytes bytes → read bytes ≡ Ok x → Takes bytes (spell x.0) x.1 × Holds x.0
  pub again : (a : A) (rest : List ℕ) → Holds a → read (spell a ++ rest) ≡ Ok (a, rest)

-- What holds of a fault and of what follows each value holds of an answer and what follows it.
pub on_answer :
    {A B : Type 0} (P : Result B Fault → Type 0) →
    ((d : Fault) → P (Err d)) →
    (r : Result A Fault) (f : A → Result B Fault) →
    ((x : A) → r ≡ Ok x → P (f x)) →
    P (r >>= f)
on_answer P bad (Ok x) f good = good x refl
on_answer P bad (Err d) f good = bad d

-- What holds of a step's answer: of its fault, and of what follows its value.
module _ {A B : Type 0} {read : List ℕ → Result (A × List ℕ) Fault} {spell : A → List ℕ} {Holds : A → Type 0} (l : Laws read spell Holds) where
  pub on :
      (P : Result B Fault → Type 0) →
      ((d : Fault) → P (Err d)) →
      (s : List ℕ) (f : A × List ℕ → Result B Fault) →
      IsBytes s →
      ((a : A) (rest : List ℕ) → Takes s (spell a) rest → Holds a → P (f (a, rest))) →
      P (read s >>= f)
  on P bad s f fits good =
      on_answer P bad (read s) f λ x e. good x.0 x.1 (l.takes s x fits e).0 (l.takes s x fits e).1

  -- A step over what was spelt goes on with its value.
  pub resume :
      (a : A) (rest : List ℕ) (f : A × List ℕ → Result B Fault) (y : Result B Fault) →
      Holds a →
      f (a, rest) ≡ y →
      (read (spell a ++ rest) >>= f) ≡ y
  resume a rest f y h e = rw (l.again a rest h) e

-- What is said of an answer that is no fault.
abbrev pub Fine : {A : Type 0} → (A → Type 0) → Result A Fault → Type 0
Fine P (Ok x) = P x
Fine P (Err d) = Unit {0}

pub fine_at : {A : Type 0} (P : A → Type 0) {r : Result A Fault} (x : A) → Fine P r → r ≡ Ok x → P x
fine_at P x h e = subst (Fine P) e h

abbrev done : {A : Type 0} → A → Result A Fault
done x = Ok x

pub ok_is : {A : Type 0} (x y : A) → done x ≡ done y → x ≡ y
ok_is x y e = cc

-- A test that did not fail.
guard_ok : {A : Type 0} (b : Bool) (d : Fault) (x y : A) → cond b (Err d) (Ok x) ≡ Ok y → (b ≡ false) × (x ≡ y)
guard_ok true d x y e = absurd cc
guard_ok false d x y e = (refl, cc)

-- The bytes behind a number and behind a byte.
pub number_rest : (w : Width) (s : List ℕ) (x : ℕ × List ℕ) → number_at w s ≡ Ok x → x.1 ≡ drop (byte_len w) s
number_rest w s x e =
    let g = guard_ok (ltb (length s) (byte_len w)) Short (from_le_bytes w (take (byte_len w) s), drop (byte_len w) s) x e in
    sym (ap (λ (y : ℕ × List ℕ). y.1) g.1)

pub byte_rest : (s : List ℕ) (x : ℕ × List ℕ) → byte_at s ≡ Ok x → x.1 ≡ drop 1 s
unfolding byte_at
byte_rest [] x e = absurd cc
byte_rest (b ∷ s) x e = sym (ap (λ (y : ℕ × List ℕ). y.1) (ok_is (b, s) x e))

-- A number of a width, and the bound of its values.
record IsWide (w : Width) (limit : ℕ) : Type 0 where
  len : (n : ℕ) → length (to_le_bytes w n) ≡ byte_len w
  back : (bytes : List ℕ) → length bytes ≡ byte_len w → IsBytes bytes → to_le_bytes w (from_le_bytes w bytes) ≡ bytes
  forth : (n : ℕ) → n < limit → from_le_bytes w (to_le_bytes w n) ≡ n
  below : (bytes : List ℕ) → IsBytes bytes → from_le_bytes w bytes < limit

wide16 : IsWide w16 (2 ^ 16)
wide16 = record {
  len = λ n. refl;
  back = λ bytes len fits. le_bytes_2 bytes _ len fits refl;
  forth = λ n lt. from_le_bytes-to_le_bytes_2 n lt;
  below = λ bytes fits. omega (arith, fits 0, fits 1);
}

wide32 : IsWide w32 (2 ^ 32)
wide32 = record {
  len = λ n. refl;
  back = λ bytes len fits. le_bytes_4 bytes _ len fits refl;
  forth = λ n lt. from_le_bytes-to_le_bytes_4 n lt;
  below = λ bytes fits. omega (arith, fits 0, fits 1, fits 2, fits 3);
}

abbrev Below : ℕ → ℕ → Type 0
Below limit n = n < limit

module _ (w : Width) (limit : ℕ) (wide : IsWide w limit) where
  number_takes :
      (bytes : List ℕ) (x : ℕ × List ℕ) →
      IsBytes bytes →
      number_at w bytes ≡ Ok x →
      Takes bytes (to_le_bytes w x.0) x.1 × Below limit x.0
  number_takes bytes x fits e =
      let front : List ℕ = take (byte_len w) bytes in
      let g = guard_ok (ltb (length bytes) (byte_len w)) Short (from_le_bytes w front, drop (byte_len w) bytes) x e in
      let long : byte_len w ≤ length bytes = ltb-false _ _ g.0 in
      let bytes_fit : IsBytes front = IsBytes-take (byte_len w) bytes fits in
      let back : to_le_bytes w (from_le_bytes w front) ≡ front = wide.back front (omega (arith, length-take (byte_len w) bytes)) bytes_fit in
      subst (λ (y : ℕ × List ℕ). Takes bytes (to_le_bytes w y.0) y.1 × Below limit y.0) g.1
      (record { parts = rw back (sym (take-append-drop (byte_len w) bytes)); rest_fits = IsBytes-drop (byte_len w) bytes fits }, wide.below front bytes_fit)

  number_again : (n : ℕ) (rest : List ℕ) → Below limit n → number_at w (to_le_bytes w n ++ rest) ≡ Ok (n, rest)
  number_again n rest lt =
      let len = wide.len n in
      let long : ltb (length (to_le_bytes w n ++ rest)) (byte_len w) ≡ false = le-ltb _ _ (omega (arith, length-append (to_le_bytes w n) rest)) in
      rw (long, take_at (to_le_bytes w n) rest (byte_len w) len, drop_at (to_le_bytes w n) rest (byte_len w) len, wide.forth n lt) refl

  number_laws : Laws (number_at w) (to_le_bytes w) (Below limit)
  number_laws = record { takes = number_takes; again = number_again }

pub shorts : Laws (number_at w16) short (Below (2 ^ 16))
shorts = number_laws w16 (2 ^ 16) wide16

pub longs : Laws (number_at w32) long (Below (2 ^ 32))
longs = number_laws w32 (2 ^ 32) wide32

-- A byte.
abbrev pub one : ℕ → List ℕ
one b = b ∷ []

byte_takes : (bytes : List ℕ) (x : ℕ × List ℕ) → IsBytes bytes → byte_at bytes ≡ Ok x → Takes bytes (one x.0) x.1 × Below 256 x.0
unfolding byte_at
byte_takes [] x fits e = absurd cc
byte_takes (b ∷ bytes) x fits e =
    subst (λ (y : ℕ × List ℕ). Takes (b ∷ bytes) (one y.0) y.1 × Below 256 y.0) (ok_is (b, bytes) x e)
    (record { parts = refl; rest_fits = IsBytes-rest b bytes fits }, fits 0)

pub bytes : Laws byte_at one (Below 256)
unfolding byte_at
bytes = record { takes = byte_takes; again = λ a rest h. refl }

-- Nothing is asked of a yes-or-no.
abbrev pub Any : {A : Type 0} → A → Type 0
Any x = Unit {0}

yes_no_takes : (bytes : List ℕ) (x : Bool × List ℕ) → IsBytes bytes → yes_no_at bytes ≡ Ok x → Takes bytes (yes_no_bytes x.0) x.1 × Any x.0
unfolding yes_no_at
yes_no_takes [] x fits e = absurd cc
yes_no_takes (zero ∷ bytes) x fits e =
    subst (λ (y : Bool × List ℕ). Takes (0 ∷ bytes) (yes_no_bytes y.0) y.1 × Any y.0) (ok_is (false, bytes) x e)
    (record { parts = refl; rest_fits = IsBytes-rest 0 bytes fits }, tt)
yes_no_takes (suc zero ∷ bytes) x fits e =
    subst (λ (y : Bool × List ℕ). Takes (1 ∷ bytes) (yes_no_bytes y.0) y.1 × Any y.0) (ok_is (true, bytes) x e)
    (record { parts = refl; rest_fits = IsBytes-rest 1 bytes fits }, tt)
yes_no_takes (suc (suc b) ∷ bytes) x fits e = absurd cc

yes_no_again : (yes : Bool) (rest : List ℕ) → Any yes → yes_no_at (yes_no_bytes yes ++ rest) ≡ Ok (yes, rest)
unfolding yes_no_at
yes_no_again true rest h = refl
yes_no_again false rest h = refl

pub yes_nos : Laws yes_no_at yes_no_bytes Any
yes_nos = record { takes = yes_no_takes; again = yes_no_again }
