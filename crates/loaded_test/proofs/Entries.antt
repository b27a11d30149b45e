-- The first entries of a list, one by one. Assumes nothing.
use Prim.Native.Nat.{ℕ, zero, suc, ◌+◌, ◌≤◌}
use native.Mathlib.Omega.{arith}
use mathlib.Core.Path.{◌≡◌, refl, ap, ◌∙◌}
use mathlib.Core.List.{List, [], ◌∷◌}
use lib.ListN.{length, take, drop, get_or}
use lib.Seq.{drop-cons}

module _ {A : Type 0} (d : A) (l : List A) where
  -- n entries from the i-th on.
  abbrev pub entries : ℕ → ℕ → List A
  entries zero i = []
  entries (suc n) i = get_or l i d ∷ entries n (suc i)

  pub taken_entries : (n i : ℕ) → i + n ≤ length l → take n (drop i l) ≡ entries n i
  taken_entries zero i h = refl
  taken_entries (suc n) i h =
      ap (take (suc n)) (drop-cons l i d (omega arith)) ∙
      ap (λ (x : List A). get_or l i d ∷ x) (taken_entries n (suc i) (omega arith))
