-- A test is true exactly where what it tests holds: for laws that give a boolean as a proposition. Assumes nothing.
use mathlib.Core.Bool.{Bool, true, false, not, ◌&&◌, ◌||◌, false≢true}
use mathlib.Core.Logic.{◌↔◌, ◌⊎◌, inl, inr}
use mathlib.Core.Path.{◌≡◌, refl}
use Prim.Native.Nat.{ℕ, ◌≤◌, ◌<◌}
use lib.Dec.{leb, ltb, eqb}
use borrow.Author.Tests.{leb-true, le-leb, ltb-true, lt-ltb, eqb-true, eq-eqb}

pub leb_exactly : (a b : ℕ) → (leb a b ≡ true) ↔ (a ≤ b)
leb_exactly a b = (leb-true a b, le-leb a b)

pub ltb_exactly : (a b : ℕ) → (ltb a b ≡ true) ↔ (a < b)
ltb_exactly a b = (ltb-true a b, lt-ltb a b)

pub eqb_exactly : (a b : ℕ) → (eqb a b ≡ true) ↔ (a ≡ b)
eqb_exactly a b = (eqb-true a b, eq-eqb a b)

-- Both hold.
pub and_exactly :
    {P Q : Type 0} (x y : Bool) → (x ≡ true) ↔ P → (y ≡ true) ↔ Q → (x && y ≡ true) ↔ (P × Q)
and_exactly true y p q = (λ h. (p.0 refl, q.0 h), λ h. q.1 h.1)
and_exactly false y p q = (λ h. absurd (false≢true h), λ h. absurd (false≢true (p.1 h.0)))

-- One of the two holds.
pub or_exactly :
    {P Q : Type 0} (x y : Bool) → (x ≡ true) ↔ P → (y ≡ true) ↔ Q → (x || y ≡ true) ↔ (P ⊎ Q)
or_exactly true y p q = (λ h. inl (p.0 refl), λ h. refl)
or_exactly {P = P} {Q = Q} false y p q = (λ h. inr (q.0 h), back)
  where
    back : P ⊎ Q → y ≡ true
    back (inl a) = absurd (false≢true (p.1 a))
    back (inr b) = q.1 b

-- It does not hold.
pub not_exactly : {P : Type 0} (x : Bool) → (x ≡ true) ↔ P → (not x ≡ true) ↔ (P → ⊥)
not_exactly true p = (λ h a. absurd (false≢true h), λ h. absurd (h (p.0 refl)))
not_exactly false p = (λ h a. absurd (false≢true (p.1 a)), λ h. refl)
