-- An array mapped by a closure that keeps its captures is the list of the values. Assumes nothing.
use mathlib.Core.Path.{◌≡◌, sym, ap, subst, ◌∙◌}
use mathlib.Core.Logic.{inl, inr}
use mathlib.Core.List.{List, map}
use Prim.Native.Nat.{ℕ, zero, suc, ◌+◌, ◌≤◌, ◌<◌, zero-le}
use native.Mathlib.Nat.{eq-or-lt_of_le, zero-add}
use native.Mathlib.Omega.{arith}
use lib.ListN.{length, length-map, get_or, get_or-map}
use Rattle.std.proofs.lemmas.List.{ext_get_or}
use Rattle.std.specs.Array.{MapsFrom, IsMapOf}
use denote.Param.Members.{Mut, Called}

module _ {F A B : Type 0} (h : A → B) (g : Mut F (A × Unit {0}) B) (f : F) (xs : List A) (ys : List B) (d : A)
    (gives : (q : F) (x : A) (y : B) → Called g f (x, tt) y q → (y ≡ h x) × (q ≡ f))
  where
    -- From the i-th on.
    mapped_from : (n i : ℕ) → MapsFrom g f xs ys i n → (j : ℕ) → i ≤ j → j < i + n → get_or ys j (h d) ≡ h (get_or xs j d)
    mapped_from zero i m j lo hi = absurd (omega arith)
    mapped_from (suc n) i (q, x, y, ex, ey, c, rest) j lo hi =
        let (e, stays) = gives q x y c in
        elim (eq-or-lt_of_le lo) [
          | inl s ↦
              subst (λ (k : ℕ). get_or ys k (h d) ≡ h (get_or xs k d)) s (ey.1 (h d) ∙ e ∙ ap h (sym (ex.1 d)))
          | inr l ↦ mapped_from n (i + 1) (subst (λ (p : F). MapsFrom g p xs ys (i + 1) n) stays rest) j (omega arith) (omega arith)
        ]

    pub map_is : (n : ℕ) → length xs ≡ n → IsMapOf g f xs ys n → ys ≡ map h xs
    map_is n e m =
        let same : length ys ≡ length (map h xs) = m.long ∙ sym e ∙ sym (length-map xs h) in
        ext_get_or (h d) ys (map h xs) same λ i b.
        mapped_from n 0 m.each i zero-le (subst (λ (k : ℕ). i < k) (m.long ∙ sym (zero-add n)) b) ∙ sym (get_or-map h xs i d)
