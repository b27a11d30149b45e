-- A buffer that is filled from its front, one read after another. Assumes nothing.
use Rattle.std.proofs.Common.{◌≡◌, ℕ, ◌+◌, ◌<◌, ◌≤◌, List, [], ◌∷◌, ◌++◌, length, take, drop, Option, Some, None, refl, sym, ap, subst, ◌∙◌, append_assoc, zero-add, suc, inl, inr, arith}
use Rattle.std.specs.Prelude.{IfSome}
use Rattle.std.specs.Io.KnownBytes.{Consumes, IsAtEnd}
use Rattle.std.proofs.lemmas.Bool.{cases_lt}
use Rattle.std.proofs.lemmas.List.{append-nil, length-append, length-take, take_at, drop_at, take_all, drop_all, take-append-le}
use borrow.Rule.Slice.PartMut.{put_mid, post_of}

-- What was read so far stands in front of what is left.
abbrev pub SoFar : Option (List ℕ) → Option (List ℕ) → List ℕ → Type 0
SoFar old now front = IfSome old (λ xs. (ys : List ℕ) × (now ≡ Some ys) × (xs ≡ front ++ ys))

pub begun : (old : Option (List ℕ)) → SoFar old old []
begun None = tt
begun (Some xs) = (xs, refl, refl)

more : (old now new : Option (List ℕ)) (front piece : List ℕ) → SoFar old now front → Consumes now new piece → SoFar old new (front ++ piece)
more None now new front piece t c = tt
more (Some xs) None new front piece t c = absurd cc
more (Some xs) (Some ys) None front piece t c = absurd c
more (Some xs) (Some ys) (Some zs) front piece t c =
    let same : t.0 ≡ ys = cc (t.1) in
    (zs, refl, t.2 ∙ ap (λ (l : List ℕ). front ++ l) (same ∙ c) ∙ sym (append_assoc front piece zs))

-- The buffer is full, or the input has ended.
pub filled :
    (old now : Option (List ℕ)) (front : List ℕ) (room : ℕ) →
    SoFar old now front →
    length front ≤ room →
    (length front < room → IsAtEnd now) →
    IfSome old (λ xs. (front ≡ take room xs) × (now ≡ Some (drop room xs)))
filled None now front room t l h = tt
filled (Some xs) now front room t l h =
    elim (cases_lt (length front) room) [
      | inl lt ↦
          let none : t.0 ≡ [] = subst IsAtEnd t.1 (h lt) in
          let all : xs ≡ front = t.2 ∙ ap (λ (l : List ℕ). front ++ l) none ∙ append-nil front in
          let fits : length xs ≤ room = omega (arith, ap length all, l) in
          (sym all ∙ sym (take_all room xs fits), t.1 ∙ ap Some (none ∙ sym (drop_all room xs fits)))
      | inr ge ↦
          let size : length front ≡ room = omega (arith, ge, l) in (
            sym (ap (take room) t.2 ∙ take_at front t.0 room size),
            t.1 ∙ ap Some (sym (ap (drop room) t.2 ∙ drop_at front t.0 room size)),
          )
    ]

-- So many bytes behind those in front.
take_behind : (a b : List ℕ) (n : ℕ) → take (length a + n) (a ++ b) ≡ a ++ take n b
take_behind [] b n = ap (λ (k : ℕ). take k b) (zero-add n)
take_behind (x ∷ a) b n =
    let k : length (x ∷ a) + n ≡ suc (length a + n) = omega arith in
    ap (λ (k : ℕ). take k (x ∷ (a ++ b))) k ∙ ap (λ (l : List ℕ). x ∷ l) (take_behind a b n)

-- A piece that was read behind the others.
read_behind :
    (into buf : List ℕ) (at k n : ℕ) →
    at ≤ length into →
    n ≤ length buf →
    take (at + n) (put_mid at k into buf) ≡ take at into ++ take n buf
read_behind into buf at k n h l =
    let size : length (take at into) ≡ at = omega (arith, length-take at into, h) in
    let rest : List ℕ = buf ++ post_of at k into in
    ap (λ (m : ℕ). take (m + n) (take at into ++ rest)) (sym size)
    ∙ take_behind (take at into) rest n
    ∙ ap (λ (l : List ℕ). take at into ++ l) (take-append-le n buf (post_of at k into) l)

pub one_read :
    (old now new : Option (List ℕ)) (into buf : List ℕ) (at k n : ℕ) →
    at ≤ length into →
    SoFar old now (take at into) →
    n ≤ length buf →
    Consumes now new (take n buf) →
    (at + n ≤ length (put_mid at k into buf)) × SoFar old new (take (at + n) (put_mid at k into buf))
one_read old now new into buf at k n h t l c =
    let e : take (at + n) (put_mid at k into buf) ≡ take at into ++ take n buf = read_behind into buf at k n h l in (
      omega (arith, length-append (take at into) (buf ++ post_of at k into), length-append buf (post_of at k into), length-take at into, h, l),
      subst (SoFar old new) (sym e) (more old now new (take at into) (take n buf) t c),
    )
