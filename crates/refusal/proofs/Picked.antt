-- What holds of a choice. Assumes nothing.
use mathlib.Core.Bool.{Bool, true, false}
use mathlib.Core.Path.{◌≡◌, refl}
use Rattle.refusal.specs.Choice.{pick}

-- A property holds of a choice where it holds of each side under its test.
pub on_pick :
    {A : Type 0} (P : A → Type 0) (b : Bool) (x y : A) →
    (b ≡ true → P x) →
    (b ≡ false → P y) →
    P (pick b x y)
unfolding pick
on_pick P true x y t f = t refl
on_pick P false x y t f = f refl
