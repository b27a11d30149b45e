-- The digits of a number, place by place. Assumes nothing.
use mathlib.Core.Path.{◌≡◌, refl, sym, ap, ◌∙◌}
use mathlib.Core.List.{List, [], ◌++◌, append_assoc}
use Rattle.std.specs.Prelude.{Some, None, Option, Ok, Err, Result, OnOk}
use Rattle.std.specs.Io.KnownBytes.{Appends}
use Prim.Native.Nat.{ℕ, zero, suc, ◌-◌, ◌/◌, ◌%◌}
use native.Mathlib.Omega.{arith}
use Rattle.std.specs.Fmt.{decimal}
use Rattle.averaging.specs.Decimals.{places}

-- No place.
pub no_place : (k n : ℕ) → k ≡ 0 → places k n ≡ []
unfolding places
no_place zero n e = refl
no_place (suc k) n e = absurd (omega arith)

-- The last of several.
pub last_place : (k n : ℕ) → (k ≡ 0 → ⊥) → places k n ≡ places (k - 1) (n / 10) ++ decimal (n % 10)
unfolding places
last_place zero n h = absurd (h refl)
last_place (suc k) n h = let e : suc k - 1 ≡ k = omega arith in rw e refl

-- One piece behind another.
appends_then : (a b c : Option (List ℕ)) (x y z : List ℕ) → z ≡ x ++ y → Appends a b x → Appends b c y → Appends a c z
appends_then None b c x y z e p q = p
appends_then (Some a) None c x y z e p q = absurd p
appends_then (Some a) (Some b) None x y z e p q = absurd q
appends_then (Some a) (Some b) (Some c) x y z e p q =
    q ∙ ap (λ (l : List ℕ). l ++ y) p ∙ append_assoc a x y ∙ ap (λ (l : List ℕ). a ++ l) (sym e)

pub appends_more :
    {E : Type 0} (r : Result (Unit {0}) E) (a b c : Option (List ℕ)) (x y z : List ℕ) →
    z ≡ x ++ y →
    Appends a b x →
    OnOk r (Appends b c y) →
    OnOk r (Appends a c z)
appends_more (Ok u) a b c x y z e p q = appends_then a b c x y z e p q
appends_more (Err f) a b c x y z e p q = tt
