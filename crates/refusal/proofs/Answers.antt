-- Answers that are no refusals. Assumes nothing.
use mathlib.Core.Path.{◌≡◌}
use Rattle.std.specs.Prelude.{Ok, Result}
use Rattle.refusal.specs.declared.Refusal.{Refusal}

-- Where two are equal, so is what they hold.
pub ok_same : {A : Type 0} (x y : A) → ◌≡◌ {A = Result A Refusal} (Ok x) (Ok y) → x ≡ y
ok_same x y e = cc e
